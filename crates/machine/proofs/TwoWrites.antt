-- The machine on 2+2W: each thread's second write takes a time below the other's first write, and then each thread
-- reads the other's first write.
use mathlib.Core.Path.{refl}
use mathlib.Core.List.Memᴰ
use mathlib.Core.List.{[], ◌∷◌}
use native.Mathlib.Omega.{arith}
use Rattle.program.specs.Thread.{load, next_line, does_at, does, operand}
use Rattle.machine.specs.Memory.{View, start_view, start_messages, start_memory, changed, join, with_message}
use Rattle.machine.specs.Memory.{with_view, view_on_write, view_on_read}
use Rattle.machine.specs.Machine.{State, start_state, Step, Run, no_step, and_step}
use Rattle.machine.specs.Outcomes.{two_writes, standing, BothReadsOne}
use Rattle.machine.proofs.OneStep.{after_write, after_read, write_step, read_step}

-- The views of the two messages that are read: x=1@2 and y=1@2.
abbrev view_of_x : View
view_of_x = changed start_view 0 2

abbrev view_of_y : View
view_of_y = changed start_view 1 2

-- The states after the steps of threads 0, 0, 1, 1, 0 and 1: x=1@2, y=2@1, y=1@2, x=2@1, then the reads.
abbrev x_is_1 : State
x_is_1 = after_write (start_state two_writes) 0 0 1 2 (standing 1 0 0)

abbrev y_is_2 : State
y_is_2 = after_write x_is_1 0 1 2 1 (standing 2 0 0)

abbrev y_is_1 : State
y_is_1 = after_write y_is_2 1 1 1 2 (standing 1 0 0)

abbrev x_is_2 : State
x_is_2 = after_write y_is_1 1 0 2 1 (standing 2 0 0)

abbrev y_read : State
y_read = after_read x_is_2 0 view_of_y (standing 3 1 0)

abbrev x_read : State
x_read = after_read y_read 1 view_of_x (standing 3 1 0)

run : Run two_writes (0 ∷ 0 ∷ 1 ∷ 1 ∷ 0 ∷ 1 ∷ []) x_read
unfolding start_state start_memory start_messages next_line does_at does operand with_message with_view
    view_on_write view_on_read changed join
run =
    and_step (and_step (and_step (and_step (and_step (and_step no_step writes_x_1) writes_y_2) writes_y_1) writes_x_2) reads_y)
    reads_x
  where
    writes_x_1 : Step two_writes 0 (start_state two_writes) x_is_1
    writes_x_1 = write_step (start_state two_writes) 0 0 1 2 (standing 1 0 0) refl (omega arith) (omega arith)

    writes_y_2 : Step two_writes 0 x_is_1 y_is_2
    writes_y_2 = write_step x_is_1 0 1 2 1 (standing 2 0 0) refl (omega arith) (omega arith)

    writes_y_1 : Step two_writes 1 y_is_2 y_is_1
    writes_y_1 = write_step y_is_2 1 1 1 2 (standing 1 0 0) refl (omega arith) (omega arith)

    writes_x_2 : Step two_writes 1 y_is_1 x_is_2
    writes_x_2 = write_step y_is_1 1 0 2 1 (standing 2 0 0) refl (omega arith) (omega arith)

    reads_y : Step two_writes 0 x_is_2 y_read
    reads_y =
        read_step x_is_2 0 1 1 2 view_of_y (load (standing 2 0 0) 0) refl (Memᴰ.tail (Memᴰ.head refl))
        (omega arith)

    reads_x : Step two_writes 1 y_read x_read
    reads_x =
        read_step y_read 1 0 1 2 view_of_x (load (standing 2 0 0) 0) refl
        (Memᴰ.tail (Memᴰ.tail (Memᴰ.tail (Memᴰ.head refl))))
        (omega arith)

pub both_reads_one : BothReadsOne
unfolding start_state
both_reads_one = (_, (_, run))
