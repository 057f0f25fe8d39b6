-- What is within some limits is within larger ones: a line, where what a fence asks for then holds too.
use Prim.Native.Nat.{ℕ, ◌≤◌}
use native.Mathlib.Omega.{arith}
use Rattle.program.specs.Program.{Operand, constant, register, Line}
use Rattle.program.specs.Program.{sum, equal, less, jump, write, read, fadd, cas, wait, bcas, fence}
use Rattle.program.specs.Within.{OperandWithin, LineUnder}

module _ {L L' K K' n n' : ℕ} (locations : L ≤ L') (values : K ≤ K') (lines : n ≤ n') where
  operand_in_larger : (a : Operand) → OperandWithin K a → OperandWithin K' a
  unfolding OperandWithin
  operand_in_larger (constant v) h = omega arith
  operand_in_larger (register r) h = h

  pub line_in_larger : {F F' : Type 0} → (F → F') → (l : Line) → LineUnder F L K n l → LineUnder F' L' K' n' l
  unfolding LineUnder
  line_in_larger for_fence (sum r a b) h = (h.0, operand_in_larger a h.1, operand_in_larger b h.2)
  line_in_larger for_fence (equal r a b) h = (h.0, operand_in_larger a h.1, operand_in_larger b h.2)
  line_in_larger for_fence (less r a b) h = (h.0, operand_in_larger a h.1, operand_in_larger b h.2)
  line_in_larger for_fence (jump target a) h = (omega arith, operand_in_larger a h.1)
  line_in_larger for_fence (write x a) h = (omega arith, operand_in_larger a h.1)
  line_in_larger for_fence (read r x) h = (h.0, omega arith)
  line_in_larger for_fence (fadd r x a) h = (h.0, omega arith, operand_in_larger a h.2)
  line_in_larger for_fence (cas r x a b) h = (h.0, omega arith, operand_in_larger a h.2, operand_in_larger b h.3)
  line_in_larger for_fence (wait x a) h = (omega arith, operand_in_larger a h.1)
  line_in_larger for_fence (bcas x a b) h = (omega arith, operand_in_larger a h.1, operand_in_larger b h.2)
  line_in_larger for_fence fence h = for_fence h
