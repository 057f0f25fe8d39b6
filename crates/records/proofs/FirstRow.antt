-- The row of the op table that a byte gets.
use mathlib.Core.Path.{◌≡◌, refl, ap}
use mathlib.Core.Bool.{true, false}
use Prim.Native.Nat.{ℕ, zero, suc}
use native.Mathlib.Numerals.{sub-one}
use Rattle.std.specs.Prelude.{Result, Ok, Err}
use Rattle.std.specs.Result.{result_unwrap_or}
use Rattle.program.specs.Ops.{is_op, op_at, op_table, sum_op}
use Rattle.program.specs.declared.Refusal.{Refusal}
use Rattle.records.specs.Fields.{OpDecoded, table_row}
use Rattle.records.specs.declared.Op.{Op}
use Rattle.records.specs.declared.Op.TheVariants.{Sum}

-- A byte that is no op gets the first row.
first_row : (byte : ℕ) → is_op byte ≡ false → op_at 1 ≡ op_at byte
unfolding is_op op_at op_table
first_row zero e = refl
first_row (suc zero) e = absurd (let z : ◌≡◌ true false = e in cc)
first_row (suc (suc zero)) e = absurd (let z : ◌≡◌ true false = e in cc)
first_row (suc (suc (suc zero))) e = absurd (let z : ◌≡◌ true false = e in cc)
first_row (suc (suc (suc (suc zero)))) e = absurd (let z : ◌≡◌ true false = e in cc)
first_row (suc (suc (suc (suc (suc zero))))) e = absurd (let z : ◌≡◌ true false = e in cc)
first_row (suc (suc (suc (suc (suc (suc zero)))))) e = absurd (let z : ◌≡◌ true false = e in cc)
first_row (suc (suc (suc (suc (suc (suc (suc zero))))))) e = absurd (let z : ◌≡◌ true false = e in cc)
first_row (suc (suc (suc (suc (suc (suc (suc (suc zero)))))))) e = absurd (let z : ◌≡◌ true false = e in cc)
first_row (suc (suc (suc (suc (suc (suc (suc (suc (suc zero))))))))) e = absurd (let z : ◌≡◌ true false = e in cc)
first_row (suc (suc (suc (suc (suc (suc (suc (suc (suc (suc zero)))))))))) e = absurd (let z : ◌≡◌ true false = e in cc)
first_row (suc (suc (suc (suc (suc (suc (suc (suc (suc (suc (suc zero))))))))))) e = absurd (let z : ◌≡◌ true false = e in cc)
first_row (suc (suc (suc (suc (suc (suc (suc (suc (suc (suc (suc (suc byte)))))))))))) e = rw sub-one

-- What a byte is read as has its row, and where it is no op the first op has it.
pub row_of_byte : (byte : ℕ) (read : Result Op Refusal) → OpDecoded byte read
    → table_row (result_unwrap_or read Sum) ≡ op_at byte
row_of_byte byte (Ok op) decoded = ap op_at decoded.1
row_of_byte byte (Err why) decoded = first_row byte decoded.0
