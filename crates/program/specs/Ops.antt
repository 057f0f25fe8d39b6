-- The op table of document 01, section "Program bytes", and op 11 of document 02, Point 5: for each op the line that it is
-- and the fields that it uses.
use Rattle.std.specs.Prelude.{ℕ, ◌-◌, Bool, true, false, ◌&&◌, List, [], ◌∷◌, length, get_or, leb}
use Rattle.program.specs.Program.{Operand, Line}
use Rattle.program.specs.Program.Line.{sum, equal, less, jump, write, read, fadd, cas, wait, bcas, fence}

-- "A target is a location 0 to L−1, or for op 4 a line 0 to n."
pub data Target : Type 0 where
  no_target to_location to_line : Target

-- One row: which of reg, target, A and B the op uses, and the line that it makes of them.
pub record Op : Type 0 where
  pub reg : Bool
  pub target : Target
  pub a : Bool
  pub b : Bool
  pub makes : ℕ → ℕ → Operand → Operand → Line

-- A row from its columns.
abbrev pub row : Bool → Target → Bool → Bool → (ℕ → ℕ → Operand → Operand → Line) → Op
row reg target a b makes = record { reg = reg; target = target; a = a; b = b; makes = makes }

-- Op 1, the first row.
unfoldable pub sum_op : Op
sum_op = row true no_target true true (λ r x a b. sum r a b)

-- The rows of ops 1 to 11: reg, target, A, B used, and the line.
unfoldable pub op_table : List Op
op_table =
    sum_op
    ∷ row true no_target true true (λ r x a b. equal r a b)
    ∷ row true no_target true true (λ r x a b. less r a b)
    ∷ row false to_line true false (λ r x a b. jump x a)
    ∷ row false to_location true false (λ r x a b. write x a)
    ∷ row true to_location false false (λ r x a b. read r x)
    ∷ row true to_location true false (λ r x a b. fadd r x a)
    ∷ row true to_location true true (λ r x a b. cas r x a b)
    ∷ row false to_location true false (λ r x a b. wait x a)
    ∷ row false to_location true true (λ r x a b. bcas x a b)
    ∷ row false no_target false false (λ r x a b. fence)
    ∷ []

-- Check 5 "accepts 1 to 11".
unfoldable pub is_op : ℕ → Bool
is_op op = leb 1 op && leb op (length op_table)

-- The row of an op of the table.
unfoldable pub op_at : ℕ → Op
op_at op = get_or op_table (op - 1) sum_op

-- "Op 11 uses no field": the fence.
abbrev pub fence_op : ℕ
fence_op = 11
