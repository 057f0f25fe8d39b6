-- What a step can be, told by the thread's next line: a line that writes, one that reads, or none.
use mathlib.Core.Path.{◌≡◌, refl, sym, ap, ◌∙◌, subst₂}
use mathlib.Core.List.{Memᴰ as Member}
use mathlib.Core.Option.{Option, some}
use Prim.Native.Nat.{ℕ, ◌≤◌, ◌<◌}
use native.Mathlib.Omega.{arith}
use Rattle.program.specs.Program.{Program}
use Rattle.program.specs.Thread.{ThreadState, Effect, NextLine, ended, access, next_line}
use Rattle.machine.specs.Memory.{View, message, MemoryState, Label, R, W, Transition, by_write, by_read, by_update}
use Rattle.machine.specs.Machine.{State, thread_of, after, Asks, asks_read, asks_update, asks_write, Step, memory_step}
use Rattle.machine.specs.Machine.{local_step}
use Rattle.machine.proofs.OneStep.{write_line, read_line, after_write, after_read}

-- A line has one location, and with each value one action and one state after it.
same_effect : {line : NextLine} {x x' : ℕ} (effect effect' : ℕ → Option Effect) → line ≡ access x effect
    → line ≡ access x' effect'
    → (u : ℕ) {e e' : Effect} → effect u ≡ some e
    → effect' u ≡ some e'
    → (x ≡ x') × (e.action ≡ e'.action) × (e.after ≡ e'.after)
same_effect effect effect' line line' u {e} {e'} is is' = (cc, ap (λ z. z.action) same, ap (λ z. z.after) same)
  where
    alike : effect ≡ effect'
    alike = cc

    same : e ≡ e'
    same = cc (ap (λ f. f u) alike)

asks_of_write : {line : NextLine} {x v : ℕ} {q : ThreadState} → line ≡ write_line x v q
    → {l : Label} {q' : ThreadState} → Asks line l q'
    → (l ≡ W x v) × (q' ≡ q)
asks_of_write is (asks_read x u effect line allows label) =
    absurd (let z : ◌≡◌ {A = ℕ} 0 1 = cc (same_effect _ _ is line u refl allows).1 in omega arith)
asks_of_write is (asks_update x u v effect line allows label) =
    absurd (let z : ◌≡◌ {A = ℕ} 0 1 = cc (same_effect _ _ is line u refl allows).1 in omega arith)
asks_of_write is (asks_write x v effect line allows label) =
    let same = same_effect _ _ is line 0 refl (allows 0) in
    (cc (same.0, same.1), sym same.2)

asks_of_read : {line : NextLine} {x : ℕ} {f : ℕ → ThreadState} → line ≡ read_line x f
    → {l : Label} {q : ThreadState} → Asks line l q
    → (u : ℕ) × (l ≡ R x u) × (q ≡ f u)
asks_of_read is (asks_read x u effect line allows label) =
    let same = same_effect _ _ is line u refl allows in
    (u, cc same.0, sym same.2)
asks_of_read is (asks_update x u v effect line allows label) =
    absurd (let z : ◌≡◌ {A = ℕ} 0 1 = cc (same_effect _ _ is line u refl allows).1 in omega arith)
asks_of_read is (asks_write x v effect line allows label) =
    absurd (let z : ◌≡◌ {A = ℕ} 0 1 = cc (same_effect _ _ is line 0 refl (allows 0)).1 in omega arith)

no_asks_at_the_end : {line : NextLine} → line ≡ ended → {l : Label} {q : ThreadState} → Asks line l q → ⊥
no_asks_at_the_end is (asks_read x u effect line allows label) = let z : ◌≡◌ {A = ℕ} 0 1 = cc in omega arith
no_asks_at_the_end is (asks_update x u v effect line allows label) = let z : ◌≡◌ {A = ℕ} 0 1 = cc in omega arith
no_asks_at_the_end is (asks_write x v effect line allows label) = let z : ◌≡◌ {A = ℕ} 0 1 = cc in omega arith

-- A write of v to x by thread t, at a time above its view, which leaves it in the state q.
pub record WriteStep (s : State) (t x v : ℕ) (q : ThreadState) (s' : State) : Type 0 where
  pub time : ℕ
  pub above : s.memory.views t x < time
  pub is : s' ≡ after_write s t x v time q

-- A read of x by thread t, of a message not below its view; f is the thread's state by the value found.
pub record ReadStep (s : State) (t x : ℕ) (f : ℕ → ThreadState) (s' : State) : Type 0 where
  pub value : ℕ
  pub time : ℕ
  pub view : View
  pub there : Member (message x value time view) s.memory.messages
  pub above : s.memory.views t x ≤ time
  pub is : s' ≡ after_read s t view (f value)

transition_of_write : {s s' : State} {t x v : ℕ} {q : ThreadState} {l : Label} {m : MemoryState} → l ≡ W x v
    → s' ≡ after s t q m
    → Transition t s.memory l m
    → WriteStep s t x v q s'
transition_of_write {s} {s'} {t} {x} {v} is e (by_write x' v' n label free above made) =
    let same_x : x' ≡ x = cc in
    let same_v : v' ≡ v = cc in
    record { time = n; above = omega (arith, ap (s.memory.views t) same_x); is = cc }
transition_of_write is e (by_read x v n T label there above made) =
    absurd (let z : ◌≡◌ {A = ℕ} 0 1 = cc in omega arith)
transition_of_write is e (by_update x u v n next T label there above is_next free made) =
    absurd (let z : ◌≡◌ {A = ℕ} 0 1 = cc in omega arith)

transition_of_read : {s s' : State} {t x u : ℕ} {f : ℕ → ThreadState} {l : Label} {m : MemoryState} → l ≡ R x u
    → s' ≡ after s t (f u) m
    → Transition t s.memory l m
    → ReadStep s t x f s'
transition_of_read is e (by_write x v n label free above made) = absurd (let z : ◌≡◌ {A = ℕ} 0 1 = cc in omega arith)
transition_of_read {s} {s'} {t} {x} {u} {f} is e (by_read x' u' n T label there above made) =
    let same_x : x' ≡ x = cc in
    let same_u : u' ≡ u = cc in
    record {
      value = u;
      time = n;
      view = T;
      there = subst₂ (λ a b. Member (message a b n T) s.memory.messages) same_x same_u there;
      above = omega (arith, ap (s.memory.views t) same_x);
      is = cc;
    }
transition_of_read is e (by_update x u v n next T label there above is_next free made) =
    absurd (let z : ◌≡◌ {A = ℕ} 0 1 = cc in omega arith)

pub step_of_write : {p : Program} {t x v : ℕ} {q : ThreadState} {s s' : State}
    → next_line p t (thread_of s t) ≡ write_line x v q
    → Step p t s s'
    → WriteStep s t x v q s'
step_of_write is (local_step q line e) = absurd (let z : ◌≡◌ {A = ℕ} 0 1 = cc in omega arith)
step_of_write {t = t} {s = s} is (memory_step l q m asks moves e) =
    let asked = asks_of_write is asks in
    transition_of_write asked.0 (e ∙ ap (λ z. after s t z m) asked.1) moves

pub step_of_read : {p : Program} {t x : ℕ} {f : ℕ → ThreadState} {s s' : State}
    → next_line p t (thread_of s t) ≡ read_line x f
    → Step p t s s'
    → ReadStep s t x f s'
step_of_read is (local_step q line e) = absurd (let z : ◌≡◌ {A = ℕ} 0 1 = cc in omega arith)
step_of_read {t = t} {s = s} is (memory_step l q m asks moves e) =
    let asked = asks_of_read is asks in
    transition_of_read asked.1 (e ∙ ap (λ z. after s t z m) asked.2) moves

pub no_step_at_the_end : {p : Program} {t : ℕ} {s s' : State} → next_line p t (thread_of s t) ≡ ended → Step p t s s' → ⊥
no_step_at_the_end is (local_step q line e) = let z : ◌≡◌ {A = ℕ} 0 1 = cc in omega arith
no_step_at_the_end is (memory_step l q m asks moves e) = no_asks_at_the_end is asks
