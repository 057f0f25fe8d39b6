-- The answers of the exported reader, from the outcome of the definition.
use Rattle.std.specs.Prelude.{ℕ, cond, ◌&&◌, map, length, get_or, replicate, ltb}
use Rattle.std.proofs.lemmas.List.Edits.{sets}
use Rattle.program.specs.Program.{Operand, Line, Program, lines_of, named_locations}
use Rattle.program.specs.Program.Operand.{constant, register}
use Rattle.program.specs.Program.Line.{sum, equal, less, jump, write, read, fadd, cas, wait, bcas, fence}
use Rattle.program.specs.Ops.{fence_op}
use Rattle.program.specs.Outcome.{Outcome}
use Rattle.program.specs.Outcome.Outcome.{refused, accepted}
use Rattle.limits.specs.Limits.{max_threads}
use Rattle.program.specs.Format.{size_pr}
use Rattle.program.specs.Layout.{starts_from}
use Rattle.order_read_c.specs.declared.HeaderAnswer.{HeaderAnswer}
use Rattle.order_read_c.specs.declared.OperandAnswer.{OperandAnswer}
use Rattle.order_read_c.specs.declared.LineAnswer.{LineAnswer}

-- The number of the check that failed, and 0 in the rest.
abbrev pub refused_answer : ℕ → HeaderAnswer
refused_answer number =
    record {
      number = number;
      threads = 0;
      locations = 0;
      values = 0;
      starts = replicate max_threads 0;
      counts = replicate max_threads 0;
    }

-- 0 where no check failed, T, L (the number of the named locations), K, and for each thread where its lines start and
-- how many there are, 0 past the last thread.
unfoldable pub header_answer : Outcome Program → HeaderAnswer
header_answer (refused number) = refused_answer number
header_answer (accepted p) =
    record {
      number = 0;
      threads = length p.threads;
      locations = named_locations p;
      values = p.values;
      starts = sets (replicate max_threads 0) 0 (starts_from size_pr p.threads);
      counts = sets (replicate max_threads 0) 0 (map length p.threads);
    }

-- An operand: kind 1 for a constant, 2 for a register; kind 0 for none.
abbrev pub no_operand : OperandAnswer
no_operand = record { kind = 0; number = 0 }

unfoldable pub operand_answer : Operand → OperandAnswer
operand_answer (constant v) = record { kind = 1; number = v }
operand_answer (register r) = record { kind = 2; number = r }

-- A line's answer from its op and fields.
abbrev pub make_line : (op reg target : ℕ) (a b : OperandAnswer) → LineAnswer
make_line op reg target a b = record { op = op; reg = reg; target = target; a = a; b = b }

-- Where there is no such line.
abbrev pub no_line : LineAnswer
no_line = make_line 0 0 0 no_operand no_operand

-- The op and the fields of a line.
unfoldable pub line_fields : Line → LineAnswer
line_fields (sum r a b) = make_line 1 r 0 (operand_answer a) (operand_answer b)
line_fields (equal r a b) = make_line 2 r 0 (operand_answer a) (operand_answer b)
line_fields (less r a b) = make_line 3 r 0 (operand_answer a) (operand_answer b)
line_fields (jump l a) = make_line 4 0 l (operand_answer a) no_operand
line_fields (write x a) = make_line 5 0 x (operand_answer a) no_operand
line_fields (read r x) = make_line 6 r x no_operand no_operand
line_fields (fadd r x a) = make_line 7 r x (operand_answer a) no_operand
line_fields (cas r x a b) = make_line 8 r x (operand_answer a) (operand_answer b)
line_fields (wait x a) = make_line 9 0 x (operand_answer a) no_operand
line_fields (bcas x a b) = make_line 10 0 x (operand_answer a) (operand_answer b)
line_fields fence = make_line fence_op 0 0 no_operand no_operand

-- Line i of thread t, where the program is accepted and has one. (The line that get_or would give past the end is never
-- taken.)
unfoldable pub line_answer : Outcome Program → (t i : ℕ) → LineAnswer
line_answer (refused number) t i = no_line
line_answer (accepted p) t i =
    cond (ltb t (length p.threads) && ltb i (length (lines_of p t)))
    (line_fields (get_or (lines_of p t) i (wait 0 (constant 0))))
    no_line
