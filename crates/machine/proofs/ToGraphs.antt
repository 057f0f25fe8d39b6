-- From the machine to graphs: each step of the machine is a release/acquire step of the graph that its memory mirrors.
use mathlib.Core.Path.{◌≡◌, refl, sym, ap, ◌∙◌, subst, subst⁻¹}
use mathlib.Core.Bool.{true}
use mathlib.Core.List.{List, ◌∷◌, Memᴰ as Member}
use mathlib.Core.Option.{Option, some}
use mathlib.Core.Logic.{◌≢◌}
use Prim.Native.Nat.{ℕ, suc, ◌≤◌, ◌<◌}
use native.Mathlib.Omega.{arith}
use Rattle.relations.specs.Closure.{Precedes, Reaches}
use Rattle.program.specs.Program.{Program}
use Rattle.program.specs.Thread.{ThreadState, Action, reads, writes, updates, writing, Effect, local, access, next_line}
use Rattle.program.specs.Within.{Valid}
use Rattle.program.proofs.Located.{within_located}
use Rattle.model.specs.Graph.{Id, start, Graph, order, thread_events, value_of, value_written, event_of, start_graph}
use Rattle.model.specs.Order.{HappensBefore}
use Rattle.model.specs.Run as model
use Rattle.model.specs.Run.{Access, Allowed, access_step, state_after, graph_after, after_local, RaStep, RaRun}
use Rattle.model.proofs.Reachable.{Good, addition_of, run_good}
use Rattle.machine.specs.Memory.{View, Message, message, MemoryState, Free, with_message, with_view, view_on_write}
use Rattle.machine.specs.Memory.{view_on_read, view_on_update, Label, Transition, by_write, by_read, by_update}
use Rattle.machine.specs.Machine.{State, start_state, thread_of, acts, Asks, asks_read, asks_update, asks_write, after}
use Rattle.machine.specs.Machine.{Step, local_step, memory_step, Run, no_step, and_step, MachineReaches}
use Rattle.machine.specs.Claims.{RaReaches}
use Rattle.machine.proofs.Views.{NewView, view_after_read, view_after_write, view_after_update}
use Rattle.machine.proofs.Mirrors.{Mirrors, seen_is_shown}
use Rattle.machine.proofs.Matched.{Matched}
use Rattle.machine.proofs.MatchedShown.{mirrors_grows}
use Rattle.machine.proofs.Splits.{Split, split_at_member, SplitAt, split_at_time}
use Rattle.machine.proofs.Room.{later_times, after_listed, no_update_next}
use Rattle.machine.proofs.Accesses.{on_graph, picking, read_matched, write_matched}
use Rattle.machine.proofs.Start.{sent_at_start, start_mirrors}

-- A step of the machine on a graph that its memory mirrors, before and after it.
pub record Followed (p : Program) (t : ℕ) (c c' : State) (g : Graph) : Type 0 where
  pub graph : Graph
  pub sent : Id → Message
  pub step : RaStep p t (on_graph c g) (on_graph c' graph)
  pub mirrors : Mirrors c'.memory graph sent

-- The write of a message.
record Picked (g : Graph) (sent : Id → Message) (x u time : ℕ) (T : View) : Type 0 where
  pub write : Id
  pub split : Split write (order g x)
  pub value : value_of g write ≡ u
  pub its_time : (sent write).time ≡ time
  pub its_view : T ≡ (sent write).view

module _ {p : Program} (c : State) (t : ℕ) {g : Graph} {sent : Id → Message} (good : Good p (on_graph c g))
    (f : Mirrors c.memory g sent) where
  abbrev m : MemoryState
  m = c.memory

  follow : (a : Access p (on_graph c g) t) → Allowed p g t a.effect.action a.after
      → {m' : MemoryState} {n : Message} → Matched m m' sent (addition_of good a) n
      → Followed p t c (after c t a.effect.after m') g
  unfolding state_after graph_after
  follow a ok k =
      let mirrors_after = mirrors_grows good.well_formed f k in
      record { graph = graph_after a; sent = _; step = access_step a ok refl; mirrors = mirrors_after }

  picked : {x u time : ℕ} {T : View} → Member (message x u time T) m.messages → Picked g sent x u time T
  picked {x} {u} {time} {T} h =
      let r = f.written (message x u time T) h in
      record {
        write = r.id;
        split = split_at_member (order g x) r.listed;
        value = sym (f.kept x r.id r.listed).value ∙ ap (λ (n : Message). n.value) (sym r.is);
        its_time = ap (λ (n : Message). n.time) (sym r.is);
        its_view = ap (λ (n : Message). n.view) r.is;
      }

  -- Writes with a greater time than the thread's view are not seen.
  unseen_above : (x bound : ℕ) {w : Id} (s : Split w (order g x)) → m.views t x ≤ bound
      → ((b : Id) → Member b s.after → bound < (sent b).time)
      → (v : Id) → Member v s.after → Reaches (HappensBefore g) (thread_events g t) v → ⊥
  unseen_above x bound s low above v there r =
      let shown = seen_is_shown f t x v (after_listed f x s v there) r in let higher = above v there in omega arith

  -- A time that is free is that of no write.
  free_is_no_time : (x time : ℕ) → Free m x time → (b : Id) → Member b (order g x) → (sent b).time ≢ time
  free_is_no_time x time free b h q =
      let r = f.kept x b h in
      free (sent b).value (sent b).view
      (subst (λ (n : Message). Member n m.messages)
      (λ i. record { location = r.location i; value = (sent b).value; time = q i; view = (sent b).view })
      r.there)

  -- A read.
  read_followed : (x u time : ℕ) (T : View) (q : ThreadState) (effect : ℕ → Option Effect)
      → next_line p t (thread_of c t) ≡ access x effect
      → effect u ≡ acts reads q
      → Member (message x u time T) m.messages
      → m.views t x ≤ time
      → Followed p t c (after c t q (with_view m t (view_on_read (m.views t) T))) g
  unfolding writing
  read_followed x u time T q effect line does there low =
      follow (picking c t w.split line reads q read) allowed
      (read_matched c t w.split line good f read (view_on_read (m.views t) T)
      (subst (λ (S : View). NewView reads x (m.views t) S (view_on_read (m.views t) T) 0) w.its_view
      (view_after_read x (m.views t) T 0)))
    where
      w : Picked g sent x u time T
      w = picked there

      read : effect (value_of g w.write) ≡ acts reads q
      read = ap effect w.value ∙ does

      allowed : Allowed p g t reads w.split.after
      allowed =
          record {
            unseen =
                unseen_above x time w.split low
                (λ b h. omega (arith, later_times f x w.split b h, w.its_time));
            unfollowed = λ h. absurd (let z : ◌≡◌ {A = ℕ} 0 1 = cc in omega arith);
          }

  -- A write or read-modify-write: its message's time stands between those of the writes before and after it.
  sent_followed : (action : Action) (x value time : ℕ) {w : Id} (s : Split w (order g x)) (q : ThreadState)
      (effect : ℕ → Option Effect) (T : View)
      → next_line p t (thread_of c t) ≡ access x effect
      → effect (value_of g w) ≡ acts action q
      → writing action ≡ true
      → value ≡ value_written (some (event_of action x (value_of g w) w))
      → m.views t x ≤ time
      → (sent w).time < time
      → ((b : Id) → Member b s.after → time < (sent b).time)
      → ((v : ℕ) → action ≡ updates v → time ≡ suc (sent w).time)
      → NewView action x (m.views t) (sent w).view T time
      → Followed p t c (after c t q (with_message m t (message x value time T))) g
  sent_followed action x value time s q effect T line does writes' is low below above next view =
      follow (picking c t s line action q does)
      (record {
        unseen = unseen_above x time s low above;
        unfollowed = λ h. no_update_next f x s time below above good.well_formed;
      })
      (write_matched c t s line good f does value time T writes' is below above next view)

  -- A read-modify-write goes directly after its message.
  update_followed : (x u v time next : ℕ) (T : View) (q : ThreadState) (effect : ℕ → Option Effect)
      → next_line p t (thread_of c t) ≡ access x effect
      → effect u ≡ acts (updates v) q
      → Member (message x u time T) m.messages
      → m.views t x ≤ time
      → next ≡ suc time
      → Free m x next
      → Followed p t c (after c t q (with_message m t (message x v next (view_on_update (m.views t) x next T)))) g
  unfolding writing value_written event_of
  update_followed x u v time next T q effect line does there low is_next free =
      sent_followed (updates v) x v next s q effect _ line (ap effect w.value ∙ does) refl refl (omega arith)
      (omega (arith, w.its_time))
      (λ b h. let n = free_is_no_time x next free b (after_listed f x s b h) in
      omega (arith, later_times f x s b h, w.its_time, n, is_next))
      (λ k h. is_next ∙ ap suc (sym w.its_time))
      (subst (λ (S : View). NewView (updates v) x (m.views t) S (view_on_update (m.views t) x next T) next)
      w.its_view (view_after_update v x (m.views t) T next (omega arith)))
    where
      w : Picked g sent x u time T
      w = picked there

      s : Split w.write (order g x)
      s = w.split

  -- A write goes after the write with the greatest time below its own.
  write_followed : Valid p → (x v time : ℕ) (q : ThreadState) (effect : ℕ → Option Effect)
      → next_line p t (thread_of c t) ≡ access x effect
      → ((u : ℕ) → effect u ≡ acts (writes v) q)
      → Free m x time
      → m.views t x < time
      → Followed p t c (after c t q (with_message m t (message x v time (view_on_write (m.views t) x time)))) g
  unfolding writing value_written event_of
  write_followed valid x v time q effect line does free above =
      sent_followed (writes v) x v time r.split q effect _ line (does (value_of g r.last)) refl refl (omega arith)
      r.below r.above
      (λ k h. absurd (let z : ◌≡◌ {A = ℕ} 0 1 = cc in omega arith))
      (view_after_write v x (m.views t) (sent r.last).view time above)
    where
      headed : (rest : List Id) × (order g x ≡ start x ∷ rest)
      headed =
          good.well_formed.headed x
          (subst⁻¹ (λ n. x < n) good.locations (within_located valid t (thread_of c t) line))

      r : SplitAt (λ a. (sent a).time) time (order g x)
      r =
          subst⁻¹ (SplitAt (λ a. (sent a).time) time) headed.1
          (split_at_time (λ a. (sent a).time) time (start x) headed.0 (omega (arith, f.fits.started x))
          (λ a b h. f.fits.rising x (subst⁻¹ (Precedes a b) headed.1 h))
          (λ a h. free_is_no_time x time free a (subst⁻¹ (Member a) headed.1 (Member.tail h))))

  local_followed : (q : ThreadState) → next_line p t (thread_of c t) ≡ local q → Followed p t c (after c t q m) g
  unfolding after_local
  local_followed q line = record { graph = g; sent = sent; step = model.local_step q line refl; mirrors = f }

  -- What the line asks for and what the memory does have one label.
  memory_followed : Valid p → {l : Label} {q : ThreadState} {m' : MemoryState} → Asks (next_line p t (thread_of c t)) l q
      → Transition t m l m'
      → Followed p t c (after c t q m') g
  memory_followed valid {q = q} (asks_read x u effect line does l) (by_read y v time T k there low e) =
      subst⁻¹ (λ m'. Followed p t c (after c t q m') g) e
      (read_followed y v time T q effect (line ∙ ap (λ z. access z effect) (let i : x ≡ y = cc in i))
      (ap effect (let i : v ≡ u = cc in i) ∙ does) there (omega arith))
  memory_followed valid {q = q} (asks_update x u v effect line does l)
      (by_update y u' v' time next T k there low n free e) =
      subst⁻¹ (λ m'. Followed p t c (after c t q m') g) e
      (update_followed y u' v' time next T q effect (line ∙ ap (λ z. access z effect) (let i : x ≡ y = cc in i))
      (ap effect (let i : u' ≡ u = cc in i) ∙ does ∙ ap (λ z. acts (updates z) q) (let i : v ≡ v' = cc in i)) there
      (omega arith) (omega arith) free)
  memory_followed valid {q = q} (asks_write x v effect line does l) (by_write y v' time k free above e) =
      subst⁻¹ (λ m'. Followed p t c (after c t q m') g) e
      (write_followed valid y v' time q effect (line ∙ ap (λ z. access z effect) (let i : x ≡ y = cc in i))
      (λ u. does u ∙ ap (λ z. acts (writes z) q) (let i : v ≡ v' = cc in i)) free (omega arith))
  memory_followed valid (asks_read x u effect line does l) (by_write y v time k free above e) =
      absurd (let z : ◌≡◌ {A = ℕ} 0 1 = cc in omega arith)
  memory_followed valid (asks_read x u effect line does l) (by_update y u' v time next T k there low n free e) =
      absurd (let z : ◌≡◌ {A = ℕ} 0 1 = cc in omega arith)
  memory_followed valid (asks_update x u v effect line does l) (by_write y v' time k free above e) =
      absurd (let z : ◌≡◌ {A = ℕ} 0 1 = cc in omega arith)
  memory_followed valid (asks_update x u v effect line does l) (by_read y v' time T k there low e) =
      absurd (let z : ◌≡◌ {A = ℕ} 0 1 = cc in omega arith)
  memory_followed valid (asks_write x v effect line does l) (by_read y v' time T k there low e) =
      absurd (let z : ◌≡◌ {A = ℕ} 0 1 = cc in omega arith)
  memory_followed valid (asks_write x v effect line does l) (by_update y u' v' time next T k there low n free e) =
      absurd (let z : ◌≡◌ {A = ℕ} 0 1 = cc in omega arith)

  step_followed : Valid p → {c' : State} → Step p t c c' → Followed p t c c' g
  step_followed valid (local_step q line e) = subst⁻¹ (λ (b : State). Followed p t c b g) e (local_followed q line)
  step_followed valid (memory_step l q m' asks does e) =
      subst⁻¹ (λ (b : State). Followed p t c b g) e (memory_followed valid asks does)

-- A run of the machine on graphs.
record FollowedRun (p : Program) (schedule : List ℕ) (c : State) : Type 0 where
  pub graph : Graph
  pub sent : Id → Message
  pub run : RaRun p schedule (on_graph c graph)
  pub mirrors : Mirrors c.memory graph sent

run_followed : {p : Program} → Valid p → {schedule : List ℕ} {c : State} → Run p schedule c → FollowedRun p schedule c
unfolding start_state model.start_state
run_followed {p} valid no_step =
    record { graph = start_graph p; sent = sent_at_start; run = model.no_step; mirrors = start_mirrors p }
run_followed valid (and_step {t = t} {s = c} r k) =
    let before = run_followed valid r in
    let step = step_followed c t (run_good before.run) before.mirrors valid k in
    record {
      graph = step.graph;
      sent = step.sent;
      run = model.and_step before.run step.step;
      mirrors = step.mirrors;
    }

-- Thread states that the machine reaches, release/acquire runs reach by the same schedule.
pub machine_reaches_no_more : {p : Program} → Valid p → (schedule : List ℕ) (threads : List ThreadState)
    → MachineReaches p schedule threads
    → RaReaches p schedule threads
machine_reaches_no_more valid schedule threads r =
    let followed = run_followed valid r.1 in (followed.graph, followed.run)
