-- An accepted line: its record is the spelling of a line within the limits.
use Prim.Native.Nat.{ℕ, ◌≤◌}
use mathlib.Core.Bool.{true, ◌&&◌, and-eq-true_iff}
use mathlib.Core.List.{List, ◌++◌}
use mathlib.Core.Path.{◌≡◌, refl, sym, ap, subst, ◌∙◌}
use native.Mathlib.Omega.{arith}
use lib.ListN.{length, get_or, drop}
use lib.Seq.{drop-cons}
use lib.Dec.{ltb}
use borrow.Author.Tests.{ltb-true}
use Rattle.limits.specs.Limits.{registers}
use Rattle.program.specs.Program.{Line}
use Rattle.program.specs.Outcome.Outcome.{accepted}
use Rattle.program.specs.Ops.{is_op, op_at}
use Rattle.program.specs.Format.{mark_in, size_in, is_record, is_operand, operand, when_used, zero_unless_used}
use Rattle.program.specs.Format.{uses_target, is_reg_and_rest, is_target, are_operands, leaves_room, fields_to_line, read_line}
use Rattle.program.specs.Spelling.{line_record, spell_line}
use Rattle.program.specs.Within.{LineNamed}
use Rattle.program.proofs.OutcomeLaws.{accepted_injective, check_accepted, and_then_accepted}
use Rattle.program.proofs.RecordLaws.{record_stands}
use Rattle.program.proofs.FieldLaws.{operand_within, field_kept, operand_kept, when_used_lem}
use Rattle.program.proofs.RowLaws.{row_spelled, row_within}

-- What checks 5 to 8 and 12 of five fields give, and the line that the fields are.
pub record FieldsRead (L K n op reg target a b : ℕ) (line : Line) : Type 0 where
  pub known : is_op op ≡ true
  pub room : leaves_room L op ≡ true
  pub reg_in_range : when_used (op_at op).reg (ltb reg registers) ≡ true
  pub reg_unused_is_zero : zero_unless_used (op_at op).reg reg ≡ true
  pub target_unused_is_zero : zero_unless_used (uses_target (op_at op).target) target ≡ true
  pub a_unused_is_zero : zero_unless_used (op_at op).a a ≡ true
  pub b_unused_is_zero : zero_unless_used (op_at op).b b ≡ true
  pub target_in_range : is_target (op_at op).target L n target ≡ true
  pub a_in_range : when_used (op_at op).a (is_operand K a) ≡ true
  pub b_in_range : when_used (op_at op).b (is_operand K b) ≡ true
  pub made : line ≡ (op_at op).makes reg target (operand K a) (operand K b)

pub fields_read : (L K n op reg target a b : ℕ) {line : Line}
    → fields_to_line L K n op reg target a b ≡ accepted line → FieldsRead L K n op reg target a b line
unfolding fields_to_line is_reg_and_rest are_operands
fields_read L K n op reg target a b e =
    let o = op_at op in
    let five = check_accepted _ _ _ e in
    let twelve = check_accepted _ _ _ five.1 in
    let six = check_accepted _ _ _ twelve.1 in
    let seven = check_accepted _ _ _ six.1 in
    let eight = check_accepted _ _ _ seven.1 in
    let zero_reg = zero_unless_used o.reg reg in
    let zero_target = zero_unless_used (uses_target o.target) target in
    let zero_a = zero_unless_used o.a a in
    let zero_b = zero_unless_used o.b b in
    let from_reg = (and-eq-true_iff (when_used o.reg (ltb reg registers)) _).0 six.0 in
    let from_zero = (and-eq-true_iff zero_reg (zero_target && (zero_a && zero_b))).0 from_reg.1 in
    let from_target = (and-eq-true_iff zero_target (zero_a && zero_b)).0 from_zero.1 in
    let from_a = (and-eq-true_iff zero_a zero_b).0 from_target.1 in
    let used = (and-eq-true_iff (when_used o.a (is_operand K a)) (when_used o.b (is_operand K b))).0 eight.0 in
    record {
      known = five.0;
      room = twelve.0;
      reg_in_range = from_reg.0;
      reg_unused_is_zero = from_zero.0;
      target_unused_is_zero = from_target.0;
      a_unused_is_zero = from_a.0;
      b_unused_is_zero = from_a.1;
      target_in_range = seven.0;
      a_in_range = used.0;
      b_in_range = used.1;
      made = sym (accepted_injective eight.1);
    }

module _ {L K n op reg target a b : ℕ} {line : Line} where
  -- The fields that give a line are the ones that it is spelled with.
  pub fields_spelled : FieldsRead L K n op reg target a b line → line_record op reg target a b ≡ spell_line line
  fields_spelled f =
      let o = op_at op in
      rw (
        f.made,
        row_spelled reg target (operand K a) (operand K b) op f.known,
        field_kept o.reg reg f.reg_unused_is_zero,
        field_kept (uses_target o.target) target f.target_unused_is_zero,
        operand_kept o.a K a f.a_unused_is_zero f.a_in_range,
        operand_kept o.b K b f.b_unused_is_zero f.b_in_range,
      )

  pub fields_within : FieldsRead L K n op reg target a b line → LineNamed L K n line
  fields_within f =
      let o = op_at op in
      rw f.made (row_within L K n reg target (operand K a) (operand K b) op f.known
      f.room
      (λ used. ltb-true reg registers (when_used_lem o.reg (ltb reg registers) f.reg_in_range used))
      f.target_in_range
      (λ used. operand_within K a (when_used_lem o.a (is_operand K a) f.a_in_range used))
      (λ used. operand_within K b (when_used_lem o.b (is_operand K b) f.b_in_range used)))

-- An IN record that is due is its five fields, and what follows.
pub line_record_stands : (bytes : List ℕ) → is_record mark_in size_in bytes ≡ true
    → bytes
    ≡ line_record (get_or bytes 2 0) (get_or bytes 3 0) (get_or bytes 4 0) (get_or bytes 5 0) (get_or bytes 6 0)
    ++ drop size_in bytes
line_record_stands bytes due =
    let (whole, marked) = record_stands mark_in size_in bytes due in
    marked
    ∙ rw (
      drop-cons bytes 2 0 (omega arith),
      drop-cons bytes 3 0 (omega arith),
      drop-cons bytes 4 0 (omega arith),
      drop-cons bytes 5 0 (omega arith),
      drop-cons bytes 6 0 (omega arith),
    )

-- What an accepted IN record gives.
pub record LineRead (L K n : ℕ) (bytes : List ℕ) (line : Line) (rest : List ℕ) : Type 0 where
  pub whole : size_in ≤ length bytes
  pub after : rest ≡ drop size_in bytes
  pub fields :
      FieldsRead L K n (get_or bytes 2 0) (get_or bytes 3 0) (get_or bytes 4 0) (get_or bytes 5 0) (get_or bytes 6 0) line
  pub within : LineNamed L K n line
  pub spelled : bytes ≡ spell_line line ++ rest

pub line_read : (L K n : ℕ) (bytes : List ℕ) {got : Line × List ℕ}
    → read_line L K n bytes ≡ accepted got → LineRead L K n bytes got.0 got.1
unfolding read_line
line_read L K n bytes e =
    let three = check_accepted _ _ _ e in
    let (line, read, end) = and_then_accepted _ _ three.1 in
    let fields = fields_read L K n _ _ _ _ _ read in
    subst (λ got. LineRead L K n bytes got.0 got.1) (accepted_injective end)
    (record {
      whole = (record_stands mark_in size_in bytes three.0).0;
      after = refl;
      fields = fields;
      within = fields_within fields;
      spelled = line_record_stands bytes three.0 ∙ ap (λ l. l ++ drop size_in bytes) (fields_spelled fields);
    })
