-- The machine that the board's maker documents its cores by: a program's threads on the memory of Figure 3. What a line
-- does is document 01's, as in all other runs.
use Rattle.std.specs.Prelude.{ℕ, ◌≡◌, List, [], ◌∷◌, ◌++◌, map, get_or, set}
use Rattle.std.proofs.Math.Option.{Option, some}
use Rattle.program.specs.Program.{Program, Line}
use Rattle.program.specs.Thread.{ThreadState, start_thread, Action, reads, writes, updates, Effect, NextLine, local}
use Rattle.program.specs.Thread.{access, next_line}
use Rattle.machine.specs.Memory.{MemoryState, start_memory, Label, R, W, RMW, Transition}

-- Thread states and memory.
pub record State : Type 0 where
  pub threads : List ThreadState
  pub memory : MemoryState

-- "Every thread starts at line 0 with its registers 0", and the memory has a message for each location, the fence's
-- among them.
unfoldable pub start_state : Program → State
start_state p =
    record { threads = map (λ (ls : List Line). start_thread) p.threads; memory = start_memory p.locations }

-- The state of thread t, counted from 0.
abbrev pub thread_of : State → ℕ → ThreadState
thread_of s t = get_or s.threads t start_thread

-- An action, and the thread state after it.
abbrev pub acts : Action → ThreadState → Option Effect
acts a q = some (record { action = a; after = q })

-- A line asks the memory for what the label says, and the thread is in state q after it.
pub data Asks (line : NextLine) (l : Label) (q : ThreadState) : Type 0 where
  -- The line with the value u of the message is a read: "Ops 9 and 10 have a step only with a w of value A.", "A failed
  -- CAS is a plain read."
  asks_read : (x u : ℕ) (effect : ℕ → Option Effect) → line ≡ access x effect
      → effect u ≡ acts reads q
      → l ≡ R x u
      → Asks line l q
  -- With this value it is a read-modify-write.
  asks_update : (x u v : ℕ) (effect : ℕ → Option Effect) → line ≡ access x effect
      → effect u ≡ acts (updates v) q
      → l ≡ RMW x u v
      → Asks line l q
  -- A write takes no message: the line is this write with every value.
  asks_write : (x v : ℕ) (effect : ℕ → Option Effect) → line ≡ access x effect
      → ((u : ℕ) → effect u ≡ acts (writes v) q)
      → l ≡ W x v
      → Asks line l q

-- The machine after a step of thread t.
abbrev pub after : State → (t : ℕ) → ThreadState → MemoryState → State
after s t q m = record { threads = set s.threads t q; memory = m }

-- A step of thread t, its next line: "Ops 1 to 4 change that thread's state only", "Any other line makes one access."
pub data Step (p : Program) (t : ℕ) (s s' : State) : Type 0 where
  local_step : (q : ThreadState) → next_line p t (thread_of s t) ≡ local q
      → s' ≡ after s t q s.memory
      → Step p t s s'
  memory_step : (l : Label) (q : ThreadState) (m : MemoryState) → Asks (next_line p t (thread_of s t)) l q
      → Transition t s.memory l m
      → s' ≡ after s t q m
      → Step p t s s'

-- A run from the start, of any length, with the threads of its steps in order.
pub data Run (p : Program) : List ℕ → State → Type 0 where
  no_step : Run p [] (start_state p)
  and_step : {schedule : List ℕ} {t : ℕ} {s s' : State} → Run p schedule s → Step p t s s'
      → Run p (schedule ++ t ∷ []) s'

-- The machine reaches these thread states, one for each thread, by the schedule.
abbrev pub MachineReaches : Program → (schedule : List ℕ) → List ThreadState → Type 0
MachineReaches p schedule threads = (memory : MemoryState) × Run p schedule (record { threads = threads; memory = memory })
