-- The machine on SB: each thread writes at time 1, then each reads the starting message of the other's location.
use mathlib.Core.Path.{refl}
use mathlib.Core.List.Memᴰ
use mathlib.Core.List.{[], ◌∷◌}
use native.Mathlib.Omega.{arith}
use Rattle.program.specs.Thread.{load, next_line, does_at, does, operand}
use Rattle.machine.specs.Memory.{start_view, start_messages, start_memory, changed, join, with_message, with_view}
use Rattle.machine.specs.Memory.{view_on_write, view_on_read}
use Rattle.machine.specs.Machine.{State, start_state, Step, Run, no_step, and_step}
use Rattle.machine.specs.Outcomes.{sb, standing, BothReadsOld}
use Rattle.machine.proofs.OneStep.{after_write, after_read, write_step, read_step}

-- The states after the steps of threads 0, 1, 0 and 1.
abbrev x_written : State
x_written = after_write (start_state sb) 0 0 1 1 (standing 1 0 0)

abbrev y_written : State
y_written = after_write x_written 1 1 1 1 (standing 1 0 0)

abbrev y_read : State
y_read = after_read y_written 0 start_view (standing 2 0 0)

abbrev x_read : State
x_read = after_read y_read 1 start_view (standing 2 0 0)

run : Run sb (0 ∷ 1 ∷ 0 ∷ 1 ∷ []) x_read
unfolding start_state start_memory start_messages next_line does_at does operand with_message with_view
    view_on_write view_on_read changed join
run = and_step (and_step (and_step (and_step no_step writes_x) writes_y) reads_y) reads_x
  where
    writes_x : Step sb 0 (start_state sb) x_written
    writes_x = write_step (start_state sb) 0 0 1 1 (standing 1 0 0) refl (omega arith) (omega arith)

    writes_y : Step sb 1 x_written y_written
    writes_y = write_step x_written 1 1 1 1 (standing 1 0 0) refl (omega arith) (omega arith)

    reads_y : Step sb 0 y_written y_read
    reads_y =
        read_step y_written 0 1 0 0 start_view (load (standing 1 0 0) 0) refl
        (Memᴰ.tail (Memᴰ.tail (Memᴰ.head refl)))
        (omega arith)

    reads_x : Step sb 1 y_read x_read
    reads_x =
        read_step y_read 1 0 0 0 start_view (load (standing 1 0 0) 0) refl
        (Memᴰ.tail (Memᴰ.tail (Memᴰ.tail (Memᴰ.head refl))))
        (omega arith)

pub both_reads_old : BothReadsOld
unfolding start_state
both_reads_old = (_, (_, run))
