-- The lines still to be read, with those before, come to what is told of all of them.
use Rattle.format.proofs.Turns.{LinesAhead}
use Rattle.format.proofs.lines.check_lines.Given as goal

abbrev pub invariant-loop : goal.invariant-loop
invariant-loop l = LinesAhead l.l l.k l.n l.bytes l.at l.fenced l.next l.counter
