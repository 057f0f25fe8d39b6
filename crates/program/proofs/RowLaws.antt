-- The rows of the op table, each against the line that it makes: its spelling, and when it is within the limits.
use Prim.Native.Nat.{ℕ, zero, suc, ◌≤◌, ◌<◌}
use mathlib.Core.Bool.{true, cond, false≢true, and-eq-true_iff}
use mathlib.Core.Path.{◌≡◌, refl}
use native.Mathlib.Omega.{arith}
use lib.Dec.{leb, eqb}
use borrow.Author.Tests.{leb-true, ltb-true}
use Rattle.limits.specs.Limits.{max_locations, registers}
use Rattle.program.specs.Program.{Operand, is_fence}
use Rattle.program.specs.Ops.{sum_op, op_table, is_op, op_at, fence_op}
use Rattle.program.specs.Format.{when_used, uses_target, is_target, leaves_room}
use Rattle.program.specs.Spelling.{operand_byte, line_record, spell_line}
use Rattle.program.specs.Within.{OperandWithin, LineUnder, LineNamed}

-- What holds of each number from 1 to 11 holds of each op.
pub each_op : (P : ℕ → Type 0) → P 1 × P 2 × P 3 × P 4 × P 5 × P 6 × P 7 × P 8 × P 9 × P 10 × P 11
    → (op : ℕ) → is_op op ≡ true → P op
unfolding is_op op_table
each_op P p zero e = absurd (false≢true e)
each_op P p (suc zero) e = p.0
each_op P p (suc (suc zero)) e = p.1
each_op P p (suc (suc (suc zero))) e = p.2
each_op P p (suc (suc (suc (suc zero)))) e = p.3
each_op P p (suc (suc (suc (suc (suc zero))))) e = p.4
each_op P p (suc (suc (suc (suc (suc (suc zero)))))) e = p.5
each_op P p (suc (suc (suc (suc (suc (suc (suc zero))))))) e = p.6
each_op P p (suc (suc (suc (suc (suc (suc (suc (suc zero)))))))) e = p.7
each_op P p (suc (suc (suc (suc (suc (suc (suc (suc (suc zero))))))))) e = p.8
each_op P p (suc (suc (suc (suc (suc (suc (suc (suc (suc (suc zero)))))))))) e = p.9
each_op P p (suc (suc (suc (suc (suc (suc (suc (suc (suc (suc (suc zero))))))))))) e = p.10
each_op P p (suc (suc (suc (suc (suc (suc (suc (suc (suc (suc (suc (suc op)))))))))))) e =
    let number = suc (suc (suc (suc (suc (suc (suc (suc (suc (suc (suc (suc op))))))))))) in
    let both = (and-eq-true_iff (leb 1 number) (leb number 11)).0 e in
    let high : number ≤ 11 = leb-true number 11 both.1 in
    absurd (omega arith)

-- The line of a row is spelled with its used fields, and 0 in the others.
abbrev pub RowSpelled : (reg target : ℕ) (a b : Operand) → ℕ → Type 0
RowSpelled reg target a b op =
    spell_line ((op_at op).makes reg target a b)
    ≡ line_record
    op
    (cond (op_at op).reg reg 0)
    (cond (uses_target (op_at op).target) target 0)
    (cond (op_at op).a (operand_byte a) 0)
    (cond (op_at op).b (operand_byte b) 0)

pub row_spelled : (reg target : ℕ) (a b : Operand) (op : ℕ) → is_op op ≡ true → RowSpelled reg target a b op
unfolding op_at op_table sum_op uses_target spell_line
row_spelled reg target a b =
    each_op (RowSpelled reg target a b) (refl, refl, refl, refl, refl, refl, refl, refl, refl, refl, refl)

-- The line of a row is a fence for op 11 alone.
abbrev pub RowIsFence : (reg target : ℕ) (a b : Operand) → ℕ → Type 0
RowIsFence reg target a b op = is_fence ((op_at op).makes reg target a b) ≡ eqb op fence_op

pub row_is_fence : (reg target : ℕ) (a b : Operand) (op : ℕ) → is_op op ≡ true → RowIsFence reg target a b op
unfolding op_at op_table sum_op is_fence
row_is_fence reg target a b =
    each_op (RowIsFence reg target a b) (refl, refl, refl, refl, refl, refl, refl, refl, refl, refl, refl)

-- Reads a test of order that is true.
ruleset tested = (arith, leb-true)

-- The line of a row is within the limits when its used fields are.
abbrev pub RowWithin : (L K n reg target : ℕ) (a b : Operand) → ℕ → Type 0
RowWithin L K n reg target a b op =
    leaves_room L op ≡ true
    → ((op_at op).reg ≡ true → reg < registers)
    → is_target (op_at op).target L n target ≡ true
    → ((op_at op).a ≡ true → OperandWithin K a)
    → ((op_at op).b ≡ true → OperandWithin K b)
    → LineNamed L K n ((op_at op).makes reg target a b)

pub row_within : (L K n reg target : ℕ) (a b : Operand) (op : ℕ) → is_op op ≡ true → RowWithin L K n reg target a b op
unfolding op_at op_table sum_op is_target leaves_room when_used LineUnder
row_within L K n reg target a b =
    each_op
    (RowWithin L K n reg target a b) (
      λ f r x a b. (r refl, a refl, b refl),
      λ f r x a b. (r refl, a refl, b refl),
      λ f r x a b. (r refl, a refl, b refl),
      λ f r x a b. (omega tested, a refl),
      λ f r x a b. (omega tested, a refl),
      λ f r x a b. (r refl, omega tested),
      λ f r x a b. (r refl, omega tested, a refl),
      λ f r x a b. (r refl, omega tested, a refl, b refl),
      λ f r x a b. (omega tested, a refl),
      λ f r x a b. (omega tested, a refl, b refl),
      λ f r x a b. ltb-true L max_locations f,
    )
