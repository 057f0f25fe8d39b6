use Rattle.report.proofs.Puts.{prints_then, prints_as}
use Rattle.report.proofs.LineLaws.{line_of_two}
use Rattle.report.proofs.put.Cursor.put_line.Goals as goal

pub returns : goal.returns
returns c =
    prints_as (line_of_two _ _) (prints_then (prints_then c.put_bytes.ensures c.put_field.ensures) c.put_byte.ensures)
