-- Steps of the machine, told by what they take: a write by its time, a read by its message.
use mathlib.Core.Path.{◌≡◌, refl, sym, ap}
use mathlib.Core.Logic.{◌⊎◌, inl, inr}
use mathlib.Core.List.Memᴰ
use mathlib.Core.List.{List, [], ◌∷◌, Memᴰ as Member}
use Prim.Native.Nat.{ℕ, ◌≤◌, ◌<◌}
use native.Mathlib.Omega.{arith}
use Rattle.program.specs.Program.{Program}
use Rattle.program.specs.Thread.{ThreadState, NextLine, reads, writes, access, next_line}
use Rattle.machine.specs.Memory.{View, Message, message, with_message, with_view, view_on_write, view_on_read, R, W}
use Rattle.machine.specs.Memory.{by_write, by_read}
use Rattle.machine.specs.Machine.{State, thread_of, acts, after, asks_read, asks_write, Step, memory_step}

-- The line with any value is a write of v to x, or a read of x.
abbrev pub write_line : (x v : ℕ) → ThreadState → NextLine
write_line x v q = access x (λ u. acts (writes v) q)

abbrev pub read_line : (x : ℕ) → (ℕ → ThreadState) → NextLine
read_line x f = access x (λ u. acts reads (f u))

-- No message of the list has location x and time t.
abbrev pub NoneAt : (x t : ℕ) → List Message → Type 0
NoneAt x t [] = Unit {0}
NoneAt x t (m ∷ ms) = (m.location ≡ x → m.time ≡ t → ⊥) × NoneAt x t ms

none_of : (x t : ℕ) (ms : List Message) → NoneAt x t ms → (v : ℕ) (T : View) → Member (message x v t T) ms → ⊥
none_of x t [] none v T there = Memᴰ.not-nil there
none_of x t (m ∷ ms) none v T there = go (none_of x t ms none.1 v T) (Memᴰ.cases_cons there)
  where
    go : (Member (message x v t T) ms → ⊥) → (message x v t T ≡ m) ⊎ Member (message x v t T) ms → ⊥
    go later (inl is) = none.0 (ap (λ z. z.location) (sym is)) (ap (λ z. z.time) (sym is))
    go later (inr there') = later there'

-- The state after a write of v to x at time n, and after a read of a message with the view T.
abbrev pub after_write : State → (t x v n : ℕ) → ThreadState → State
after_write s t x v n q = after s t q (with_message s.memory t (message x v n (view_on_write (s.memory.views t) x n)))

abbrev pub after_read : State → (t : ℕ) → View → ThreadState → State
after_read s t T q = after s t q (with_view s.memory t (view_on_read (s.memory.views t) T))

pub write_step : {p : Program} (s : State) (t x v n : ℕ) (q : ThreadState)
    → next_line p t (thread_of s t) ≡ write_line x v q
    → NoneAt x n s.memory.messages
    → s.memory.views t x < n
    → Step p t s (after_write s t x v n q)
write_step s t x v n q line free above =
    memory_step (W x v) q _ (asks_write x v _ line (λ u. refl) refl)
    (by_write x v n refl (none_of x n _ free) (omega arith) refl)
    refl

pub read_step : {p : Program} (s : State) (t x u n : ℕ) (T : View) (f : ℕ → ThreadState)
    → next_line p t (thread_of s t) ≡ read_line x f
    → Member (message x u n T) s.memory.messages
    → s.memory.views t x ≤ n
    → Step p t s (after_read s t T (f u))
read_step s t x u n T f line there above =
    memory_step (R x u) (f u) _ (asks_read x u _ line refl refl) (by_read x u n T refl there (omega arith) refl) refl
