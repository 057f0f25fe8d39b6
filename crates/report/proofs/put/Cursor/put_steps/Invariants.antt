use Rattle.report.specs.Prints.{Prints}
use Rattle.report.specs.Text.{step_lines}
use Rattle.report.proofs.put.Cursor.put_steps.Given as goal

abbrev pub invariant-loop-thread : goal.invariant-loop-thread
invariant-loop-thread l = Prints l.fn.self (step_lines l.thread-index l.trace) l.self
