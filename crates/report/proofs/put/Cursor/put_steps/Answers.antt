use Rattle.std.proofs.Common.{◌<◌, ◌/◌, length, arith, length-take}
use Rattle.report.proofs.LineLaws.{no_steps_print, step_prints, whole_steps_print, line_prints}
use Rattle.report.proofs.put.Cursor.put_steps.Goals as goal

pub loop-thread-init : goal.loop-thread-init
loop-thread-init c = no_steps_print c.args.trace.now

pub loop-thread-preserved : goal.loop-thread-preserved
loop-thread-preserved c =
    let trace = c.args.trace.now in
    let i = c.loop-thread.thread-index in
    let whole = length-take c.min.result c.as_chunks.result.0.now in
    let inside : i < length trace / 4 = omega (arith, whole, c.as_chunks.ensures.front_len, c.loop-thread-test.true) in
    step_prints trace c.loop-thread.invariant inside
    (line_prints (length trace / 4) c.min.result i trace c.as_chunks.ensures.front
    (omega (arith, whole, c.loop-thread-test.true)) inside c.put_step.ensures)

pub returns : goal.returns
returns c =
    let whole = length-take c.min.result c.as_chunks.result.0.now in
    whole_steps_print c.args.trace.now c.args.steps c.loop-thread.invariant
    (omega (arith, whole, c.as_chunks.ensures.front_len, c.min.ensures))
