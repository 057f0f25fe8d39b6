-- The text of the report fits, so it is whole, and its bytes are bytes of the buffer.
use Rattle.std.proofs.Common.{refl, rules}
use Rattle.order_check.proofs.Printing.{printed}
use Rattle.order_check.proofs.print.Goals as goal

pub returns-clause-printed : goal.returns-clause-printed
returns-clause-printed c =
    let a = c.args in
    let t = c.text.ensures in
    (printed a.input.now a.places.now _ a.trace.now _ a.buffer.now c.requires.sizes refl
    c.check_indexed-report.ensures.checked (search rules) (t.length, (t.short, t.written))).0

pub returns-clause-counts : goal.returns-clause-counts
returns-clause-counts c =
    let a = c.args in
    let t = c.text.ensures in
    (printed a.input.now a.places.now _ a.trace.now _ a.buffer.now c.requires.sizes refl
    c.check_indexed-report.ensures.checked (search rules) (t.length, (t.short, t.written))).1
