-- The reading of a line's spelling gives that line.
use Prim.Native.Nat.{ℕ, ◌≤◌}
use mathlib.Core.Bool.{true, ◌&&◌, and-eq-true_iff}
use mathlib.Core.List.{List, ◌∷◌, ◌++◌}
use mathlib.Core.Path.{◌≡◌, refl, ap₂, ◌∙◌}
use native.Mathlib.Omega.{arith}
use lib.Dec.{ltb}
use borrow.Author.Tests.{le-leb}
use Rattle.limits.specs.Limits.{registers, min_values, max_values}
use Rattle.program.specs.Program.{Operand, Line}
use Rattle.program.specs.Program.Operand.{constant}
use Rattle.program.specs.Program.Line.{sum, equal, less, jump, write, read, fadd, cas, wait, bcas, fence}
use Rattle.program.specs.Outcome.Outcome.{accepted}
use Rattle.program.specs.Ops.{is_op, op_at, op_table, sum_op}
use Rattle.program.specs.Format.{mark_in, size_in, operand, uses_target, zero_unless_used, when_used}
use Rattle.program.specs.Format.{is_reg_and_rest, is_target, are_operands, leaves_room, fields_to_line, read_line}
use Rattle.program.specs.Spelling.{operand_byte, line_record, spell_line}
use Rattle.program.specs.Within.{OperandWithin, LineUnder, LineNamed}
use Rattle.program.proofs.OutcomeLaws.{check_passes, and_then_goes_on}
use Rattle.program.proofs.RecordLaws.{record_found}
use Rattle.program.proofs.FieldLaws.{operand_byte_in_range, operand_read, passes_when_used}

-- Fields that pass checks 5 to 8 and 12 give the line of their op's row.
pub fields_accepted : (L K n op reg target a b : ℕ)
    → is_op op ≡ true
    → leaves_room L op ≡ true
    → is_reg_and_rest (op_at op) reg target a b ≡ true
    → is_target (op_at op).target L n target ≡ true
    → are_operands (op_at op) K a b ≡ true
    → fields_to_line L K n op reg target a b ≡ accepted ((op_at op).makes reg target (operand K a) (operand K b))
unfolding fields_to_line
fields_accepted L K n op reg target a b five twelve six seven eight =
    check_passes _ _ _ five ∙ check_passes _ _ _ twelve ∙ check_passes _ _ _ six ∙ check_passes _ _ _ seven
    ∙ check_passes _ _ _ eight

-- An IN record is read as its fields are.
pub line_record_found : (L K n op reg target a b : ℕ) (rest : List ℕ) {line : Line}
    → fields_to_line L K n op reg target a b ≡ accepted line
    → read_line L K n (line_record op reg target a b ++ rest) ≡ accepted (line, rest)
unfolding read_line
line_record_found L K n op reg target a b rest e =
    check_passes _ _ _ (record_found mark_in size_in (op ∷ reg ∷ target ∷ a ∷ b ∷ rest) (omega arith))
    ∙ and_then_goes_on _ _ e

-- Proves that a test of order is true.
ruleset passes = (arith, le-leb)

-- What stands for an operand that a line does not use.
abbrev unused : Operand
unused = constant 0

module _ (L K n : ℕ) (some_values : min_values ≤ K) (few_values : K ≤ max_values) where
  -- The spelling of a row's line: the used fields are in range, the unused ones 0.
  row_read : (op reg target : ℕ) (a b : Operand) (rest : List ℕ)
      → is_op op ≡ true
      → leaves_room L op ≡ true
      → when_used (op_at op).reg (ltb reg registers) ≡ true
      → (zero_unless_used (op_at op).reg reg
      && (zero_unless_used (uses_target (op_at op).target) target
      && (zero_unless_used (op_at op).a (operand_byte a) && zero_unless_used (op_at op).b (operand_byte b))))
      ≡ true
      → is_target (op_at op).target L n target ≡ true
      → OperandWithin K a
      → OperandWithin K b
      → read_line L K n (line_record op reg target (operand_byte a) (operand_byte b) ++ rest)
      ≡ accepted ((op_at op).makes reg target a b, rest)
  unfolding is_reg_and_rest are_operands
  row_read op reg target a b rest known room reg_in_range zeros target_in_range a_within b_within =
      let six = (and-eq-true_iff _ _).1 (reg_in_range, zeros) in
      let a_in_range = passes_when_used (op_at op).a _ (operand_byte_in_range K a a_within) in
      let b_in_range = passes_when_used (op_at op).b _ (operand_byte_in_range K b b_within) in
      let eight = (and-eq-true_iff _ _).1 (a_in_range, b_in_range) in
      let a_read = operand_read K a (omega arith) a_within in
      let b_read = operand_read K b (omega arith) b_within in
      line_record_found L K n op reg target (operand_byte a) (operand_byte b) rest
      (fields_accepted L K n op reg target (operand_byte a) (operand_byte b) known room six target_in_range eight
      ∙ ap₂ (λ x y. accepted ((op_at op).makes reg target x y)) a_read b_read)

  unused_within : OperandWithin K unused
  unfolding OperandWithin
  unused_within = omega arith

  pub read_line_lem : (line : Line) (rest : List ℕ) → LineNamed L K n line
      → read_line L K n (spell_line line ++ rest) ≡ accepted (line, rest)
  unfolding is_op op_at op_table sum_op is_target uses_target when_used zero_unless_used operand_byte spell_line leaves_room LineUnder
  read_line_lem (sum r a b) rest h = row_read 1 r 0 a b rest refl refl (omega passes) refl refl h.1 h.2
  read_line_lem (equal r a b) rest h = row_read 2 r 0 a b rest refl refl (omega passes) refl refl h.1 h.2
  read_line_lem (less r a b) rest h = row_read 3 r 0 a b rest refl refl (omega passes) refl refl h.1 h.2
  read_line_lem (jump l a) rest h = row_read 4 0 l a unused rest refl refl refl refl (omega passes) h.1 unused_within
  read_line_lem (write x a) rest h = row_read 5 0 x a unused rest refl refl refl refl (omega passes) h.1 unused_within
  read_line_lem (read r x) rest h =
      row_read 6 r x unused unused rest refl refl (omega passes) refl (omega passes) unused_within unused_within
  read_line_lem (fadd r x a) rest h =
      row_read 7 r x a unused rest refl refl (omega passes) refl (omega passes) h.2 unused_within
  read_line_lem (cas r x a b) rest h = row_read 8 r x a b rest refl refl (omega passes) refl (omega passes) h.2 h.3
  read_line_lem (wait x a) rest h = row_read 9 0 x a unused rest refl refl refl refl (omega passes) h.1 unused_within
  read_line_lem (bcas x a b) rest h = row_read 10 0 x a b rest refl refl refl refl (omega passes) h.1 h.2
  read_line_lem fence rest h =
      row_read 11 0 0 unused unused rest refl (omega passes) refl refl refl unused_within unused_within
