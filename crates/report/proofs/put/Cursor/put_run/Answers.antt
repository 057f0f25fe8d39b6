use Rattle.report.proofs.Puts.{prints_then}
use Rattle.report.proofs.put.Cursor.put_run.Goals as goal

pub returns : goal.returns
returns c =
    prints_then (prints_then (prints_then c.put_bytes.ensures c.put_field.ensures) c.put_field-2.ensures)
    c.put_field-3.ensures
