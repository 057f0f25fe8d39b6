-- The fields of a line: an operand and its byte, a used field and an unused one.
use Prim.Native.Nat.{ℕ, ◌+◌, ◌≤◌, ◌<◌}
use mathlib.Core.Bool.{Bool, true, false, cond, ◌&&◌, false≢true, and-eq-true_iff, or-eq-true_iff}
use mathlib.Core.Logic.Or
use mathlib.Core.Path.{◌≡◌, refl, ap}
use native.Mathlib.Omega.{arith}
use lib.Dec.{leb, ltb}
use borrow.Author.Tests.{ltb-true, leb-true, eqb-true, lt-ltb, le-ltb, le-leb}
use Rattle.limits.specs.Limits.{registers}
use Rattle.program.specs.Program.{Operand}
use Rattle.program.specs.Program.Operand.{constant, register}
use Rattle.program.specs.Format.{first_register, is_operand, operand, when_used, zero_unless_used}
use Rattle.program.specs.Spelling.{operand_byte}
use Rattle.program.specs.Within.{OperandWithin}

-- A byte in range that is no constant is a register's.
register_in_range : (K x : ℕ) → is_operand K x ≡ true → ltb x K ≡ false
    → (first_register ≤ x) × (x < first_register + registers)
unfolding is_operand
register_in_range K x test e =
    let both = (and-eq-true_iff (leb first_register x) (ltb x (first_register + registers))).0 (rw e at test) in
    (leb-true first_register x both.0, ltb-true x (first_register + registers) both.1)

-- The operand that a byte in range is: its byte is that one, and it is within the limits.
pub operand_spelled : (K x : ℕ) → is_operand K x ≡ true → operand_byte (operand K x) ≡ x
unfolding operand operand_byte
operand_spelled K x test = go (ltb x K) refl
  where
    go : (below : Bool) → ltb x K ≡ below → operand_byte (operand K x) ≡ x
    go true e = rw e refl
    go false e = rw e (let range = register_in_range K x test e in omega arith)

pub operand_within : (K x : ℕ) → is_operand K x ≡ true → OperandWithin K (operand K x)
unfolding operand OperandWithin
operand_within K x test = go (ltb x K) refl
  where
    go : (below : Bool) → ltb x K ≡ below → OperandWithin K (operand K x)
    go true e = rw e (ltb-true x K e)
    go false e = rw e (let range = register_in_range K x test e in omega arith)

-- The byte of an operand within the limits is in range, and it is read as that operand: constants end below registers.
pub operand_byte_in_range : (K : ℕ) (o : Operand) → OperandWithin K o → is_operand K (operand_byte o) ≡ true
unfolding is_operand operand_byte OperandWithin
operand_byte_in_range K (constant v) h = rw (lt-ltb v K h)
operand_byte_in_range K (register r) h =
    let x = first_register + r in
    (or-eq-true_iff (ltb x K) (leb first_register x && ltb x (first_register + registers))).1
    (Or.inr ((and-eq-true_iff (leb first_register x) (ltb x (first_register + registers))).1
    (le-leb first_register x (omega arith), lt-ltb x (first_register + registers) (omega arith))))

pub operand_read : (K : ℕ) (o : Operand) → K ≤ first_register → OperandWithin K o → operand K (operand_byte o) ≡ o
unfolding operand operand_byte OperandWithin
operand_read K (constant v) few h = rw (lt-ltb v K h)
operand_read K (register r) few h = rw (le-ltb (first_register + r) K (omega arith)) (ap register (omega arith))

-- A field that passes is itself where used, and 0 where not.
pub field_kept : (used : Bool) (x : ℕ) → zero_unless_used used x ≡ true → cond used x 0 ≡ x
unfolding zero_unless_used
field_kept true x zero = refl
field_kept false x zero = omega (arith, eqb-true)

pub operand_kept : (used : Bool) (K x : ℕ) → zero_unless_used used x ≡ true → when_used used (is_operand K x) ≡ true
    → cond used (operand_byte (operand K x)) 0 ≡ x
unfolding zero_unless_used when_used
operand_kept true K x zero test = operand_spelled K x test
operand_kept false K x zero test = omega (arith, eqb-true)

pub when_used_lem : (used test : Bool) → when_used used test ≡ true → used ≡ true → test ≡ true
unfolding when_used
when_used_lem true test h e = h
when_used_lem false test h e = absurd (false≢true e)

pub passes_when_used : (used test : Bool) → test ≡ true → when_used used test ≡ true
unfolding when_used
passes_when_used true test e = e
passes_when_used false test e = refl
