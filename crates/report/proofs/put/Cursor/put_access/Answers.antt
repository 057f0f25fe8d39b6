use Rattle.report.proofs.Puts.{prints_then, prints_as}
use Rattle.report.proofs.LineLaws.{line_of_last_three}
use Rattle.report.proofs.put.Cursor.put_access.Goals as goal

pub returns : goal.returns
returns c =
    let two = prints_then c.put_kind.ensures c.put_field.ensures in
    prints_as (line_of_last_three _ _ _) (prints_then (prints_then two c.put_field-2.ensures) c.put_byte.ensures)
