-- The ops and the fields of a line's record as the code has them, and the row of the op table that says which of the
-- fields an op uses.
use Rattle.std.specs.Prelude.{◌≡◌, ℕ, Bool, true, false, List, get_or, Option, Some, None, Result, MatchResult}
use Rattle.program.specs.Ops.{Op as OpRow, Target as OpTarget, is_op, op_at}
use Rattle.program.specs.Ops.Target.{no_target, to_location, to_line}
use Rattle.program.specs.declared.Refusal.{Refusal}
use Rattle.program.specs.declared.Refusal.TheVariants.{NoSuchOp}
use Rattle.records.specs.declared.Fields.{Fields}
use Rattle.records.specs.declared.Op.{Op}
use Rattle.records.specs.declared.Op.TheVariants.{Sum, Equal, Less, Jump, Write, Read, Fadd, Cas, Wait, Bcas, Fence}
use Rattle.records.specs.declared.Row.{Row}
use Rattle.records.specs.declared.Target.{Target}
use Rattle.records.specs.declared.Target.TheVariants.{Location, Line}

-- The byte of each op, which is its place in the op table.
abbrev pub op_number : Op → ℕ
op_number Sum = 1
op_number Equal = 2
op_number Less = 3
op_number Jump = 4
op_number Write = 5
op_number Read = 6
op_number Fadd = 7
op_number Cas = 8
op_number Wait = 9
op_number Bcas = 10
op_number Fence = 11

-- What a byte is read as: the op that has it, or check 5 fails.
abbrev pub OpDecoded : ℕ → Result Op Refusal → Type 0
OpDecoded byte read =
    MatchResult read
    (λ op. (is_op byte ≡ true) × (op_number op ≡ byte))
    (λ why. (is_op byte ≡ false) × (why ≡ NoSuchOp))

-- The row of an op.
abbrev pub table_row : Op → OpRow
table_row op = op_at (op_number op)

-- The fields that the bytes of a line's record hold.
unfoldable pub fields_of : List ℕ → Fields
fields_of bytes =
    record {
      op = get_or bytes 2 0;
      reg = get_or bytes 3 0;
      target = get_or bytes 4 0;
      a = get_or bytes 5 0;
      b = get_or bytes 6 0;
    }

-- A target of the op table, and its code.
abbrev pub target_of : OpTarget → Option Target
target_of no_target = None
target_of to_location = Some Location
target_of to_line = Some Line

-- The fields that an op uses.
abbrev pub make_row : Bool → Option Target → Bool → Bool → Row
make_row reg target a b = record { reg = reg; target = target; a = a; b = b }

abbrev pub row_of : OpRow → Row
row_of o = make_row o.reg (target_of o.target) o.a o.b
