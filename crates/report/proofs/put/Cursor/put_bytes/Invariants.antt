use Rattle.std.proofs.Common.{take}
use Rattle.report.specs.Prints.{Prints}
use Rattle.report.proofs.put.Cursor.put_bytes.Given as goal

abbrev pub invariant-loop-byte : goal.invariant-loop-byte
invariant-loop-byte l = Prints l.fn.self (take l.byte-index l.bytes) l.self
