use Rattle.report.proofs.Puts.{prints_then}
use Rattle.report.proofs.LineLaws.{step_line_prints}
use Rattle.report.proofs.put.Cursor.put_step.Goals as goal

pub returns : goal.returns
returns c =
    step_line_prints _ _ _ _ (prints_then c.put_bytes.ensures c.put_field.ensures) c.put_access.ensures
