use Rattle.std.proofs.Common.{rules}
use Rattle.report.specs.Text.{text_of}
use Rattle.report.proofs.Puts.{laid_from_start}
use Rattle.report.proofs.text.Goals as goal

pub returns-clause-written : goal.returns-clause-written
returns-clause-written c =
    laid_from_start (text_of c.args.report c.args.trace.now) c.args.out.now c.put_text.new.cursor.at (search rules)
