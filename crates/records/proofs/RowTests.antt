-- Checks 6 to 8 of a line, said of the row that the code has in place of the op.
use mathlib.Core.Path.{◌≡◌, refl}
use mathlib.Core.Bool.{true, not, ◌&&◌, ◌||◌}
use lib.Dec.{ltb, leb, eqb}
use Rattle.std.specs.Prelude.{Some, None, is_some}
use Rattle.limits.specs.Limits.{registers}
use Rattle.program.specs.Ops.{Op, Target as OpTarget}
use Rattle.program.specs.Ops.Target.{no_target, to_location, to_line}
use Rattle.program.specs.Format.{when_used, zero_unless_used, uses_target, is_target}
use Rattle.program.specs.Format.{is_reg_and_rest, is_operand, are_operands}
use Rattle.records.specs.Fields.{target_of, row_of}
use Rattle.records.specs.declared.Row.{Row}
use Rattle.records.specs.declared.Target.TheVariants.{Location, Line}
use Prim.Native.Nat.{ℕ}

-- A target is used where the row has one.
pub target_used : (t : OpTarget) → uses_target t ≡ is_some (target_of t)
unfolding uses_target
target_used no_target = refl
target_used to_location = refl
target_used to_line = refl

-- Check 6, test by test.
pub five_tests : (o : Op) (reg target a b : ℕ) → is_reg_and_rest o reg target a b
    ≡ ((not (row_of o).reg || ltb reg registers)
    && (((row_of o).reg || eqb reg 0)
    && ((is_some (row_of o).target || eqb target 0)
    && (((row_of o).a || eqb a 0) && ((row_of o).b || eqb b 0)))))
unfolding is_reg_and_rest when_used zero_unless_used
five_tests o reg target a b = rw (target_used o.target)

-- Check 8, test by test.
pub two_tests : (o : Op) (k a b : ℕ) → are_operands o k a b
    ≡ ((not (row_of o).a || is_operand k a) && (not (row_of o).b || is_operand k b))
unfolding are_operands when_used
two_tests o k a b = refl

-- Check 7, by what the row's target names.
pub none_tested : (t : OpTarget) (l n x : ℕ) → target_of t ≡ None → is_target t l n x ≡ true
unfolding is_target
none_tested no_target l n x e = refl
none_tested to_location l n x e = absurd cc
none_tested to_line l n x e = absurd cc

pub location_tested : (t : OpTarget) (l n x : ℕ) → target_of t ≡ Some Location → is_target t l n x ≡ ltb x l
unfolding is_target
location_tested no_target l n x e = absurd cc
location_tested to_location l n x e = refl
location_tested to_line l n x e = absurd cc

pub line_tested : (t : OpTarget) (l n x : ℕ) → target_of t ≡ Some Line → is_target t l n x ≡ leb x n
unfolding is_target
line_tested no_target l n x e = absurd cc
line_tested to_location l n x e = absurd cc
line_tested to_line l n x e = refl

pub ruleset targets_tested = (none_tested, location_tested, line_tested)

-- The same of a row that is the op's.
module _ (r : Row) (o : Op) (is : r ≡ row_of o) where
  pub five_by_row : (reg target a b : ℕ) → is_reg_and_rest o reg target a b
      ≡ ((not r.reg || ltb reg registers)
      && ((r.reg || eqb reg 0)
      && ((is_some r.target || eqb target 0)
      && ((r.a || eqb a 0) && (r.b || eqb b 0)))))
  five_by_row reg target a b = rw is (five_tests o reg target a b)

  pub two_by_row : (k a b : ℕ) → are_operands o k a b
      ≡ ((not r.a || is_operand k a) && (not r.b || is_operand k b))
  two_by_row k a b = rw is (two_tests o k a b)

  pub none_by_row : (l n x : ℕ) → r.target ≡ None → is_target o.target l n x ≡ true
  none_by_row l n x e = none_tested o.target l n x (rw is at e)

  pub location_by_row : (l n x : ℕ) → r.target ≡ Some Location → is_target o.target l n x ≡ ltb x l
  location_by_row l n x e = location_tested o.target l n x (rw is at e)

  pub line_by_row : (l n x : ℕ) → r.target ≡ Some Line → is_target o.target l n x ≡ leb x n
  line_by_row l n x e = line_tested o.target l n x (rw is at e)

pub ruleset target_by_row = (none_by_row, location_by_row, line_by_row)
