use Rattle.std.proofs.Common.{ap, ◌∙◌}
use Rattle.records.specs.Fields.{table_row}
use Rattle.records.proofs.FirstRow.{row_of_byte}
use Rattle.records.proofs.Op.of.Goals as goal

pub returns : goal.returns
returns c = ap table_row c.unwrap_or.ensures ∙ row_of_byte c.args.byte _ c.try_from.ensures
