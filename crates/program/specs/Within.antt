-- The programs within the limits of documents 01 and 02, and the valid ones, of which no limits are asked.
use Rattle.std.specs.Prelude.{ℕ, ◌≤◌, ◌<◌, List, [], ◌∷◌, length}
use Rattle.limits.specs.Limits.{max_threads, max_locations, min_values, max_values, max_lines, registers}
use Rattle.program.specs.Program.{Operand, Line, Program, named_locations}
use Rattle.program.specs.Program.Operand.{constant, register}
use Rattle.program.specs.Program.Line.{sum, equal, less, jump, write, read, fadd, cas, wait, bcas, fence}

-- An operand among K values.
unfoldable pub OperandWithin : ℕ → Operand → Type 0
OperandWithin K (constant v) = v < K
OperandWithin K (register r) = r < registers

-- A line of a thread of n lines, among L locations and K values. What a fence asks for is given: reader and runs differ
-- in it alone.
unfoldable pub LineUnder : (for_fence : Type 0) (L K n : ℕ) → Line → Type 0
LineUnder for_fence L K n (sum r a b) = (r < registers) × OperandWithin K a × OperandWithin K b
LineUnder for_fence L K n (equal r a b) = (r < registers) × OperandWithin K a × OperandWithin K b
LineUnder for_fence L K n (less r a b) = (r < registers) × OperandWithin K a × OperandWithin K b
LineUnder for_fence L K n (jump l a) = (l ≤ n) × OperandWithin K a
LineUnder for_fence L K n (write x a) = (x < L) × OperandWithin K a
LineUnder for_fence L K n (read r x) = (r < registers) × (x < L)
LineUnder for_fence L K n (fadd r x a) = (r < registers) × (x < L) × OperandWithin K a
LineUnder for_fence L K n (cas r x a b) = (r < registers) × (x < L) × OperandWithin K a × OperandWithin K b
LineUnder for_fence L K n (wait x a) = (x < L) × OperandWithin K a
LineUnder for_fence L K n (bcas x a b) = (x < L) × OperandWithin K a × OperandWithin K b
LineUnder for_fence L K n fence = for_fence

-- A line as the reader takes it, among L named locations: "12 when op 11 stands in a program whose L is 16".
abbrev pub LineNamed : (L K n : ℕ) → Line → Type 0
LineNamed L = LineUnder (L < max_locations) L

-- A line as runs take it, among all L locations: the fence's is one of them.
abbrev pub LineWithin : (L K n : ℕ) → Line → Type 0
LineWithin L = LineUnder (0 < L) L

-- A property holds of every element.
pub data All {A : Type 0} (P : A → Type 0) : List A → Type 0 where
  none : All P []
  more : {a : A} {l : List A} → P a → All P l → All P (a ∷ l)

-- A thread of at most 64 lines, each within the limits, among L named locations.
pub record ThreadWithin (L K : ℕ) (lines : List Line) : Type 0 where
  pub few : length lines ≤ max_lines
  pub each : All (LineNamed L K (length lines)) lines

-- A program within the limits (crate `limits`).
pub record Within (p : Program) : Type 0 where
  pub some_threads : 1 ≤ length p.threads
  pub few_threads : length p.threads ≤ max_threads
  pub some_locations : 1 ≤ named_locations p
  pub few_locations : named_locations p ≤ max_locations
  pub some_values : min_values ≤ p.values
  pub few_values : p.values ≤ max_values
  pub each : All (ThreadWithin (named_locations p) p.values) p.threads

-- A program that has the values 0 and 1, which comparisons give, and whose lines keep to its own named locations, values
-- and lines; a fence has its location among all of them. No limits stand here.
pub record Valid (p : Program) : Type 0 where
  pub some_values : 2 ≤ p.values
  pub each :
      All
      (λ (lines : List Line). All (LineUnder (0 < p.locations) (named_locations p) p.values (length lines)) lines)
      p.threads
