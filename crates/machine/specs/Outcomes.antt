-- What the machine does with three programs of document 01: two weak outcomes, and one that it forbids. They are
-- Examples 3.1, 3.4 and 3.2 of source document 001.
use Rattle.std.specs.Prelude.{ℕ, ◌≡◌, List, [], ◌∷◌, get_or}
use Rattle.program.specs.Program.{Program, Line, constant, write, read}
use Rattle.program.specs.Thread.{ThreadState, start_thread}
use Rattle.machine.specs.Machine.{MachineReaches}

-- "Locations x = 0, y = 1"
abbrev x : ℕ
x = 0

abbrev y : ℕ
y = 1

-- Two threads, with the locations x and y.
abbrev pub two : (values : ℕ) → List Line → List Line → Program
two K one other = record { threads = one ∷ other ∷ []; locations = 2; values = K }

-- "SB: x := 1; read y ‖ y := 1; read x; K = 2."
abbrev pub sb : Program
sb = two 2 (write x (constant 1) ∷ read 0 y ∷ []) (write y (constant 1) ∷ read 0 x ∷ [])

-- "2+2W: x := 1; y := 2; read y ‖ y := 1; x := 2; read x; K = 3."
abbrev pub two_writes : Program
two_writes =
    two 3 (write x (constant 1) ∷ write y (constant 2) ∷ read 0 y ∷ [])
    (write y (constant 1) ∷ write x (constant 2) ∷ read 0 x ∷ [])

-- "MP: x := 1; y := 1 ‖ read y; read x (two registers)."
abbrev pub mp : Program
mp = two 2 (write x (constant 1) ∷ write y (constant 1) ∷ []) (read 0 y ∷ read 1 x ∷ [])

-- A thread at a line, with its registers 0 and 1; the others are 0.
abbrev pub standing : (line first second : ℕ) → ThreadState
standing line first second = record { line = line; registers = first ∷ second ∷ 0 ∷ 0 ∷ [] }

-- SB: both threads are at their end, and both reads found 0.
abbrev pub BothReadsOld : Type 0
BothReadsOld = (schedule : List ℕ) × MachineReaches sb schedule (standing 2 0 0 ∷ standing 2 0 0 ∷ [])

-- 2+2W: both threads are at their end, and both reads found 1.
abbrev pub BothReadsOne : Type 0
BothReadsOne = (schedule : List ℕ) × MachineReaches two_writes schedule (standing 3 1 0 ∷ standing 3 1 0 ∷ [])

-- MP: in no run does the second thread find 1 in the flag y and then 0 in the data x.
abbrev pub NoOldData : Type 0
NoOldData =
    (schedule : List ℕ) (threads : List ThreadState) → MachineReaches mp schedule threads
    → get_or threads 1 start_thread ≡ standing 2 1 0
    → ⊥
