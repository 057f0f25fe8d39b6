-- The header so far, with what is still to be read, comes to the answer.
use Rattle.format.proofs.Filling.{Ahead}
use Rattle.format.proofs.threads.read_threads.Given as goal

abbrev pub invariant-loop-i : goal.invariant-loop-i
invariant-loop-i l = Ahead l.l l.k l.t l.bytes l.header l.fenced l.i l.next
