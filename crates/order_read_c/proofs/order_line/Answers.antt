-- What is not read has no line, and a line that was found is the answer's.
use native.Mathlib.Omega.{arith}
use mathlib.Core.Path.{sym, ◌∙◌}
use Rattle.order_read_c.proofs.Answers.{none_answered, line_answered}
use Rattle.order_read_c.proofs.order_line.Goals as goal

pub returns-in_default : goal.returns-in_default
returns-in_default c =
    let a = c.args in
    c.no_line.ensures
    ∙ sym (none_answered a.program.now c.in_default.field-0 c.in_default.ensures.outcome a.thread a.line)

pub returns-in-Some : goal.returns-in-Some
returns-in-Some c =
    let a = c.args in
    let read = c.in-Ok in
    c.fields_of.ensures
    ∙ sym (line_answered a.program.now read.source read.ensures.outcome a.thread a.line (omega arith) read.ensures.bytes
    c.in-Some.found c.in-Some.ensures)
