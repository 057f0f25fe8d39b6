use Rattle.std.proofs.Common.{arith}
use Rattle.report.proofs.Puts.{prints_nothing, prints_one_more, prints_all}
use Rattle.report.proofs.put.Cursor.put_bytes.Goals as goal

pub loop-byte-init : goal.loop-byte-init
loop-byte-init c = prints_nothing c.args.self.now

pub loop-byte-preserved : goal.loop-byte-preserved
loop-byte-preserved c =
    prints_one_more c.args.bytes.now c.loop-byte.byte-index c.loop-byte.invariant (omega arith) c.put_byte.ensures

pub returns : goal.returns
returns c = prints_all c.args.bytes.now c.loop-byte.invariant (omega arith)
