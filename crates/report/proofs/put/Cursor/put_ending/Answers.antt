use Rattle.std.proofs.Common.{rules}
use Rattle.report.proofs.LineLaws.{ending_prints}
use Rattle.report.proofs.Bound.{ending_is_short}
use Rattle.report.proofs.put.Cursor.put_ending.Goals as goal

pub returns-clause-put : goal.returns-clause-put
returns-clause-put c = ending_prints _ _ _ c.from.ensures c.put_run.ensures c.put_access.ensures

pub returns-clause-short : goal.returns-clause-short
returns-clause-short c = search (ending_is_short, rules)
