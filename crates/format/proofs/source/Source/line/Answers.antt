-- A line that the header counts is read at its place, and past the last one there is none.
use Rattle.std.proofs.Common.{arith}
use Rattle.format.specs.Answer.{found_line}
use Rattle.format.proofs.AcceptedHeader.{line_inside}
use Rattle.format.proofs.SourceLines.{source_accepted, thread_in_limit, no_line, a_line}
use Rattle.format.proofs.source.Source.line.Goals as goal

pub offset_bounds-self-t : goal.offset_bounds-self-t
offset_bounds-self-t c = omega (arith, thread_in_limit c.args.self.now c.requires)

pub bounds-self-t : goal.bounds-self-t
bounds-self-t c = thread_in_limit c.args.self.now c.requires

pub returns-then-from-n : goal.returns-then-from-n
unfolding found_line
returns-then-from-n c = no_line c.args.self.now c.requires (omega arith)

pub line_at-requires : goal.line_at-requires
line_at-requires c =
    let s = c.args.self.now in
    rw c.from-2.ensures (line_inside s.bytes.now s.header (source_accepted s) c.requires (omega arith))

pub returns : goal.returns
unfolding found_line
returns c =
    let s = c.args.self.now in
    a_line s c.requires (omega arith) c.line_at.result (rw c.from-2.ensures at c.line_at.ensures)
