-- The line at a place of an accepted input: what the reader read there.
use Prim.Native.Nat.{ℕ, ◌+◌, ◌*◌, ◌≤◌}
use native.Mathlib.Omega.{arith}
use mathlib.Core.Path.{◌≡◌, sym}
use mathlib.Core.List.{List}
use lib.ListN.{length, get_or, drop}
use lib.Seq.{get_or-drop}
use Rattle.program.specs.Program.{Line, lines_of, named_locations}
use Rattle.program.specs.Program.Operand.{constant}
use Rattle.program.specs.Program.Line.{wait}
use Rattle.program.specs.Ops.{op_at}
use Rattle.program.specs.Format.{size_in, operand, program_of}
use Rattle.program.specs.Layout.{start_of}
use Rattle.format.specs.Answer.{LineAt}
use Rattle.records.specs.Fields.{fields_of}
use Rattle.records.specs.declared.Fields.{Fields}
use Rattle.program.proofs.Places.{LineStands, line_stands}

module _ {bytes : List ℕ} {start k i t : ℕ} (l : LineAt bytes start k i t) where
  stands : (other : Line) → LineStands (named_locations (program_of bytes)) (program_of bytes).values (length (lines_of
      (program_of bytes) t)) bytes
      (start_of (program_of bytes).threads t + size_in * i) (get_or (lines_of (program_of bytes) t) i other)
  stands other = line_stands bytes (program_of bytes) l.program t i other l.in_program l.in_lines

  place_is : start + i * size_in ≡ start_of (program_of bytes).threads t + size_in * i
  place_is = omega (arith, l.starts)

  -- The place of the line is inside the input.
  pub line_fits : start + i * size_in + size_in ≤ length bytes
  line_fits = omega (arith, l.starts, (stands (wait 0 (constant 0))).whole)

  -- The fields there are the line's.
  pub line_made : (f : Fields) → f ≡ fields_of (drop (start + i * size_in) bytes) → (other : Line)
      → (op_at f.op).makes f.reg f.target (operand k f.a) (operand k f.b)
      ≡ get_or (lines_of (program_of bytes) t) i other
  unfolding fields_of
  line_made f e other = rw (e, l.values, place_is) (simp get_or-drop (sym (stands other).fields.made))
