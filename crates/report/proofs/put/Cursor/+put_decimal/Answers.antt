use Rattle.std.proofs.Common.{arith}
use Rattle.report.proofs.Puts.{prints_then, prints_as}
use Rattle.report.proofs.Decimals.{decimal_of_digit, decimal_of_more}
use Rattle.report.proofs.put.Cursor.+put_decimal.Goals as goal

pub returns-then-n-lt10 : goal.returns-then-n-lt10
returns-then-n-lt10 t c = prints_as (decimal_of_digit _ (omega arith)) c.put_byte.ensures

pub returns : goal.returns
returns t c = prints_as (decimal_of_more _ (omega arith)) (prints_then c.put_decimal.ensures c.put_byte-2.ensures)
