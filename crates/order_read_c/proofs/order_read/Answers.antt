-- What was read is the answer's header.
use Rattle.std.proofs.Common.{sym}
use Rattle.order_read_c.proofs.Answers.{header_answered}
use Rattle.order_read_c.proofs.order_read.Goals as goal

pub returns-in-Ok : goal.returns-in-Ok
returns-in-Ok c =
    let answered = header_answered c.args.program.now c.in-Ok.source c.in-Ok.ensures.outcome in
    cc (answered, c.starts_of.ensures, c.counts_of.ensures)
