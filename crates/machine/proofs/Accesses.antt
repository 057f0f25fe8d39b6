-- An access of the graph that a memory mirrors, and what matches it in the memory: for a read the joined view, for a
-- write or read-modify-write a message whose time stands between those of the writes before and after it.
use mathlib.Core.Path.{◌≡◌, refl}
use mathlib.Core.Bool.{true}
use mathlib.Core.List.Memᴰ
use mathlib.Core.List.{Memᴰ as Member}
use mathlib.Core.Option.{Option, some}
use mathlib.Core.Logic.{inl, inr, ⊎_elim}
use Prim.Native.Nat.{ℕ, suc, ◌<◌}
use native.Mathlib.Omega.{arith}
use Rattle.program.specs.Program.{Program}
use Rattle.program.specs.Thread.{ThreadState, Action, reads, updates, writing, Effect, access, next_line}
use Rattle.model.specs.Graph.{Id, Graph, order, value_of, value_written, event_of}
use Rattle.model.specs.Run as model
use Rattle.model.specs.Run.{Access}
use Rattle.model.proofs.Reachable.{Good, addition_of}
use Rattle.machine.specs.Memory.{View, Message, message, with_message, with_view}
use Rattle.machine.specs.Machine.{State, thread_of, acts}
use Rattle.machine.proofs.Views.{NewView}
use Rattle.machine.proofs.Mirrors.{Mirrors}
use Rattle.machine.proofs.Matched.{Matched}
use Rattle.machine.proofs.Splits.{Split}
use Rattle.machine.proofs.Room.{earlier_times}

-- The machine's thread states with a graph in place of the memory.
abbrev pub on_graph : State → Graph → model.State
on_graph c g = record { threads = c.threads; graph = g }

module _ {p : Program} (c : State) (t : ℕ) {g : Graph} {x : ℕ} {w : Id} (s : Split w (order g x))
    {effect : ℕ → Option Effect} (line : next_line p t (thread_of c t) ≡ access x effect) where
  -- The access that picks w.
  abbrev pub picking : (action : Action) (q : ThreadState) → effect (value_of g w) ≡ acts action q
      → Access p (on_graph c g) t
  picking action q does =
      record {
        location = x;
        effects = effect;
        line = line;
        before = s.before;
        picked = w;
        after = s.after;
        split = s.whole;
        effect = record { action = action; after = q };
        allows = does;
      }

  module _ (good : Good p (on_graph c g)) {sent : Id → Message} (f : Mirrors c.memory g sent) {q : ThreadState} where
    pub read_matched : (does : effect (value_of g w) ≡ acts reads q) (T : View)
        → NewView reads x (c.memory.views t) (sent w).view T 0
        → Matched c.memory (with_view c.memory t T) sent (addition_of good (picking reads q does)) (message x 0 0 T)
    unfolding writing with_view
    read_matched does T view =
        record {
          later = λ h. absurd (let z : ◌≡◌ {A = ℕ} 0 1 = cc in omega arith);
          earlier = λ h. absurd (let z : ◌≡◌ {A = ℕ} 0 1 = cc in omega arith);
          next = λ v h. absurd (let z : ◌≡◌ {A = ℕ} 0 1 = cc in omega arith);
          location = refl;
          value = λ h. absurd (let z : ◌≡◌ {A = ℕ} 0 1 = cc in omega arith);
          view = view;
          views = refl;
          stays = λ n h. h;
          added = λ h. absurd (let z : ◌≡◌ {A = ℕ} 0 1 = cc in omega arith);
          only = λ n h. inl h;
        }

    pub write_matched : {action : Action} (does : effect (value_of g w) ≡ acts action q) (value time : ℕ) (T : View)
        → writing action ≡ true
        → value ≡ value_written (some (event_of action x (value_of g w) w))
        → (sent w).time < time
        → ((b : Id) → Member b s.after → time < (sent b).time)
        → ((v : ℕ) → action ≡ updates v → time ≡ suc (sent w).time)
        → NewView action x (c.memory.views t) (sent w).view T time
        → Matched c.memory (with_message c.memory t (message x value time T)) sent
        (addition_of good (picking action q does)) (message x value time T)
    unfolding with_message
    write_matched does value time T writes' is below above next view =
        record {
          later = λ h a there. let e = earlier_times f x s a there in omega arith;
          earlier = λ h. above;
          next = next;
          location = refl;
          value = λ h. is;
          view = view;
          views = refl;
          stays = λ n h. Member.tail h;
          added = λ h. Member.head refl;
          only = λ n h. ⊎_elim (λ e. inr (writes', e)) inl (Memᴰ.cases_cons h);
        }
