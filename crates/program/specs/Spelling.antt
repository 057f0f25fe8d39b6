-- The bytes that spell a program: the other direction of Format, for the round trip.
use Rattle.std.specs.Prelude.{ℕ, ◌+◌, List, [], ◌∷◌, ◌++◌, length}
use Rattle.program.specs.Program.{Operand, Line, Program, named_locations}
use Rattle.program.specs.Program.Operand.{constant, register}
use Rattle.program.specs.Program.Line.{sum, equal, less, jump, write, read, fadd, cas, wait, bcas, fence}
use Rattle.program.specs.Ops.{fence_op}
use Rattle.program.specs.Format.{mark_pr, mark_th, mark_in, first_register}

-- The byte of an operand.
unfoldable pub operand_byte : Operand → ℕ
operand_byte (constant v) = v
operand_byte (register r) = first_register + r

-- An IN record of the five fields.
abbrev pub line_record : (op reg target a b : ℕ) → List ℕ
line_record op reg target a b = mark_in ++ op ∷ reg ∷ target ∷ a ∷ b ∷ []

-- A line, with 0 in the fields that it does not use.
unfoldable pub spell_line : Line → List ℕ
spell_line (sum r a b) = line_record 1 r 0 (operand_byte a) (operand_byte b)
spell_line (equal r a b) = line_record 2 r 0 (operand_byte a) (operand_byte b)
spell_line (less r a b) = line_record 3 r 0 (operand_byte a) (operand_byte b)
spell_line (jump l a) = line_record 4 0 l (operand_byte a) 0
spell_line (write x a) = line_record 5 0 x (operand_byte a) 0
spell_line (read r x) = line_record 6 r x 0 0
spell_line (fadd r x a) = line_record 7 r x (operand_byte a) 0
spell_line (cas r x a b) = line_record 8 r x (operand_byte a) (operand_byte b)
spell_line (wait x a) = line_record 9 0 x (operand_byte a) 0
spell_line (bcas x a b) = line_record 10 0 x (operand_byte a) (operand_byte b)
spell_line fence = line_record fence_op 0 0 0 0

-- Lines one after the other.
unfoldable pub spell_lines : List Line → List ℕ
spell_lines [] = []
spell_lines (line ∷ lines) = spell_line line ++ spell_lines lines

-- A thread: its TH record, and its lines.
unfoldable pub spell_thread : List Line → List ℕ
spell_thread lines = mark_th ++ length lines ∷ spell_lines lines

-- Threads one after the other.
unfoldable pub spell_threads : List (List Line) → List ℕ
spell_threads [] = []
spell_threads (lines ∷ threads) = spell_thread lines ++ spell_threads threads

-- The spelling of a program: its L is the number of the named locations.
unfoldable pub spell : Program → List ℕ
spell p = mark_pr ++ length p.threads ∷ named_locations p ∷ p.values ∷ spell_threads p.threads
