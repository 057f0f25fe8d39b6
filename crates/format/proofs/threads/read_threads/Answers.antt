-- A thread that fails ends the reading; one that is read leads to the next.
use native.Mathlib.Omega.{arith}
use mathlib.Core.Path.{sym, ◌∙◌}
use Rattle.format.proofs.FieldChecks.{handed_on}
use Rattle.format.proofs.Filling.{begins, turn_fails, turn_passes, input_ends, input_goes_on, flag_counted, flag_small}
use Rattle.format.proofs.threads.read_threads.Goals as goal

pub loop-i-init : goal.loop-i-init
loop-i-init c =
    rw (c.from.ensures, c.from-2.ensures, c.from-3.ensures)
    (begins c.args.t c.args.l c.args.k c.args.bytes.now c.requires.0)

pub returns-in_err-lines : goal.returns-in_err-lines
returns-in_err-lines c =
    handed_on _ _ c.from_residual.ensures
    ∙ turn_fails c.loop-i.invariant (omega arith) (sym c.in_err-lines.ensures)

pub returns-then-next-bytes : goal.returns-then-next-bytes
returns-then-next-bytes c = input_goes_on c.loop-i.invariant (omega arith) c.if-next-bytes.true

pub loop-i-preserved : goal.loop-i-preserved
loop-i-preserved c =
    rw (c.from-in-loop-i.ensures, c.from-in-loop-i-2.ensures)
    (turn_passes c.loop-i.invariant (omega arith) (sym c.in_ok-lines.ensures))

pub overflow_add-header-2 : goal.overflow_add-header-2
overflow_add-header-2 c = omega (arith, flag_small c.loop-i.fenced)

pub returns : goal.returns
returns c =
    rw (c.from-4.ensures, flag_counted) (input_ends c.loop-i.invariant (omega arith) c.if-next-bytes.false)
