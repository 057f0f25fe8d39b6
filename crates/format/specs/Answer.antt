-- What the types of the code stand for, and each answer of the reader in terms of Format.
use Rattle.std.specs.Prelude.{ℕ, ◌<◌, ◌≡◌, List, length, Option, None, Some}
use Rattle.std.proofs.Math.Option as model
use Rattle.program.specs.Program.{Operand as ModelOperand, Line as ModelLine, Program, lines_of}
use Rattle.program.specs.Program.Operand.{constant, register}
use Rattle.program.specs.Program.Line.{sum, equal, less, jump, write, read, fadd, cas, wait, bcas, fence}
use Rattle.program.specs.Outcome.{Outcome, told}
use Rattle.program.specs.Outcome.Outcome.{accepted}
use Rattle.program.specs.Format.{read_program, program_of}
use Rattle.program.specs.Layout.{start_of}
use Rattle.format.specs.Source.{header_of}
use Rattle.format.specs.declared.Header.{Header}
use Rattle.format.specs.declared.Operand.{Operand}
use Rattle.format.specs.declared.Operand.TheVariants.{Constant, Register}
use Rattle.format.specs.declared.Line.{Line}
use Rattle.format.specs.declared.Line.TheVariants.{Sum, Equal, Less, Jump, Write, Read, Fadd, Cas, Wait, Bcas, Fence}

-- The answer of the reader: the number of the first failed check, or the program's header.
abbrev pub reading : Outcome Program → Outcome Header
reading outcome = told header_of outcome

-- An accepted input with its header.
pub record Accepted (bytes : List ℕ) (h : Header) : Type 0 where
  pub program : read_program bytes ≡ accepted (program_of bytes)
  pub header : h ≡ header_of (program_of bytes)

-- Thread t of an accepted input has a line i, its lines start at byte `start`, and k is K.
pub record LineAt (bytes : List ℕ) (start k i t : ℕ) : Type 0 where
  pub program : read_program bytes ≡ accepted (program_of bytes)
  pub starts : start ≡ start_of (program_of bytes).threads t
  pub values : k ≡ (program_of bytes).values
  pub in_program : t < length (program_of bytes).threads
  pub in_lines : i < length (lines_of (program_of bytes) t)

-- The operand and the line of the model that the code's stand for.
unfoldable pub operand_means : Operand → ModelOperand
operand_means (Constant v) = constant v
operand_means (Register r) = register r

unfoldable pub line_means : Line → ModelLine
line_means (Sum r a b) = sum r (operand_means a) (operand_means b)
line_means (Equal r a b) = equal r (operand_means a) (operand_means b)
line_means (Less r a b) = less r (operand_means a) (operand_means b)
line_means (Jump l a) = jump l (operand_means a)
line_means (Write x a) = write x (operand_means a)
line_means (Read r x) = read r x
line_means (Fadd r x a) = fadd r x (operand_means a)
line_means (Cas r x a b) = cas r x (operand_means a) (operand_means b)
line_means (Wait x a) = wait x (operand_means a)
line_means (Bcas x a b) = bcas x (operand_means a) (operand_means b)
line_means Fence = fence

-- The line that was found, if there is one.
unfoldable pub found_line : Option Line → model.Option ModelLine
found_line None = model.none
found_line (Some line) = model.some (line_means line)
