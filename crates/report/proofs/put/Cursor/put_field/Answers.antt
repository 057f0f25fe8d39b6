use Rattle.report.proofs.Puts.{prints_then}
use Rattle.report.proofs.put.Cursor.put_field.Goals as goal

pub returns : goal.returns
returns c = prints_then c.put_byte.ensures c.put_decimal.ensures
