-- The program as data: document 01, section "Program bytes", without the bytes, and the fence of document 02, Point 5. No
-- limits stand here.
use Rattle.std.specs.Prelude.{ℕ, ◌-◌, Bool, true, false, cond, ◌||◌, List, [], ◌∷◌, get_or}

-- "A and B are operands: 0 to K−1 is that constant, 128 to 131 is register 0 to 3."
pub data Operand : Type 0 where
  constant : ℕ → Operand
  register : ℕ → Operand

-- One line, in the order of the op table: op 1 to op 11, each with the fields that it uses, in the order reg, target, A, B.
-- A target is a location, for a jump a line.
pub data Line : Type 0 where
  -- reg := A + B modulo K
  sum : (reg : ℕ) (a b : Operand) → Line
  -- reg := 1 if A = B else 0
  equal : (reg : ℕ) (a b : Operand) → Line
  -- reg := 1 if A < B else 0
  less : (reg : ℕ) (a b : Operand) → Line
  -- go to target if A is not 0
  jump : (target : ℕ) (a : Operand) → Line
  -- write A
  write : (location : ℕ) (a : Operand) → Line
  -- read into reg
  read : (reg location : ℕ) → Line
  -- FADD: add A modulo K, reg := old value
  fadd : (reg location : ℕ) (a : Operand) → Line
  -- CAS from A to B, reg := value found
  cas : (reg location : ℕ) (a b : Operand) → Line
  -- wait until the value is A
  wait : (location : ℕ) (a : Operand) → Line
  -- blocking CAS from A to B
  bcas : (location : ℕ) (a b : Operand) → Line
  -- a full fence, which "uses no field"
  fence : Line

-- T is the number of threads, and K that of values. The locations are all that runs have: the L named ones, and the
-- fence's after them where there is a fence.
pub record Program : Type 0 where
  pub threads : List (List Line)
  pub locations : ℕ
  pub values : ℕ

-- "Threads are numbered from 1; lines, registers and locations from 0." Here a thread is known by its place in the list, from 0.
abbrev pub lines_of : Program → ℕ → List Line
lines_of p t = get_or p.threads t []

-- A line is a fence.
unfoldable pub is_fence : Line → Bool
is_fence (sum r a b) = false
is_fence (equal r a b) = false
is_fence (less r a b) = false
is_fence (jump l a) = false
is_fence (write x a) = false
is_fence (read r x) = false
is_fence (fadd r x a) = false
is_fence (cas r x a b) = false
is_fence (wait x a) = false
is_fence (bcas x a b) = false
is_fence fence = true

-- Some element passes the test.
unfoldable pub any_is : {A : Type 0} → (A → Bool) → List A → Bool
any_is test [] = false
any_is test (a ∷ l) = test a || any_is test l

-- Some line of a thread is a fence.
abbrev pub has_fence : List Line → Bool
has_fence lines = any_is is_fence lines

-- "when the program has an op 11": some line of some thread is a fence, reached or not.
abbrev pub have_fence : List (List Line) → Bool
have_fence threads = any_is has_fence threads

-- "a location of its own": how many there are of it.
unfoldable pub fence_locations : List (List Line) → ℕ
fence_locations threads = cond (have_fence threads) 1 0

-- L, the number of the named locations.
unfoldable pub named_locations : Program → ℕ
named_locations p = p.locations - fence_locations p.threads

-- "numbered after the L named ones": the fence's location is the last of all.
unfoldable pub fence_location : (locations : ℕ) → ℕ
fence_location locations = locations - 1
