-- How many bytes a spelling has.
use Prim.Native.Nat.{◌+◌, ◌*◌}
use mathlib.Core.List.{List, [], ◌∷◌}
use mathlib.Core.Path.{◌≡◌, refl}
use native.Mathlib.Omega.{arith}
use lib.ListN.{length, length-append}
use Rattle.program.specs.Program.{Line}
use Rattle.program.specs.Program.Line.{sum, equal, less, jump, write, read, fadd, cas, wait, bcas, fence}
use Rattle.program.specs.Format.{size_th, size_in}
use Rattle.program.specs.Spelling.{spell_line, spell_lines, spell_thread}

pub length-spell_line : (line : Line) → length (spell_line line) ≡ size_in
unfolding spell_line
length-spell_line (sum r a b) = refl
length-spell_line (equal r a b) = refl
length-spell_line (less r a b) = refl
length-spell_line (jump l a) = refl
length-spell_line (write x a) = refl
length-spell_line (read r x) = refl
length-spell_line (fadd r x a) = refl
length-spell_line (cas r x a b) = refl
length-spell_line (wait x a) = refl
length-spell_line (bcas x a b) = refl
length-spell_line fence = refl

pub length-spell_lines : (lines : List Line) → length (spell_lines lines) ≡ length lines * size_in
unfolding spell_lines
length-spell_lines [] = refl
length-spell_lines (line ∷ lines) =
    rw (length-append, length-spell_line, length-spell_lines lines) (omega arith)

pub length-spell_thread : (lines : List Line) → length (spell_thread lines) ≡ size_th + length lines * size_in
unfolding spell_thread
length-spell_thread lines = rw (length-spell_lines lines) (omega arith)
