-- A line that passes leads to the next.
use mathlib.Core.Path.{sym}
use Rattle.format.proofs.Turns.{turn_passes}
use Rattle.format.proofs.lines.check_lines.Goals as goal

pub loop-preserved : goal.loop-preserved
loop-preserved c = turn_passes c.loop.invariant c.loop-test.true (sym c.in_ok-fenced.ensures)
