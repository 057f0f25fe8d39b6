-- From graphs to the machine: a write's time is its place in the final graph's order. These times fit every earlier
-- graph of the run, so that each release/acquire step is one of the machine.
use mathlib.Core.Path.{◌≡◌, refl, sym, ap, ◌∙◌, subst, subst⁻¹}
use mathlib.Core.Bool.{true}
use mathlib.Core.List.{List, [], Memᴰ as Member}
use mathlib.Core.Option.{Option}
use mathlib.Core.Logic.{⊎_elim}
use Prim.Native.Nat.{ℕ, suc, ◌≤◌, ◌<◌}
use native.Mathlib.Omega.{arith}
use Rattle.lists.proofs.Ends.{member_put_in}
use Rattle.relations.specs.Closure.{Precedes, Reaches}
use Rattle.relations.proofs.Precedes.{precedes_after, precedes_put_in}
use Rattle.program.specs.Program.{Program}
use Rattle.program.specs.Thread.{ThreadState, Action, reads, writes, updates, writing, Effect, access, next_line}
use Rattle.model.specs.Graph.{Id, Graph, order, thread_events, value_of, value_written, event_of, next_id}
use Rattle.model.specs.Order.{HappensBefore}
use Rattle.model.specs.Run as model
use Rattle.model.specs.Run.{Access, Allowed, access_step, state_after, graph_after, after_local, RaStep, RaRun}
use Rattle.model.proofs.Growth.{Addition, new_id, grown, up_to_picked, order_put_in, new_there, member_old_or_new}
use Rattle.model.proofs.Reachable.{Good, addition_of, graph_grown, run_good}
use Rattle.robustness.proofs.PlainWrite.{plain_write_ignores}
use Rattle.machine.specs.Memory.{Message, message, MemoryState}
use Rattle.machine.specs.Memory.{Label, Transition, by_write, by_read, by_update}
use Rattle.machine.specs.Machine.{State, start_state, thread_of, acts, Asks, asks_read, asks_update, asks_write, Step}
use Rattle.machine.specs.Machine.{local_step, memory_step, Run, no_step, and_step, MachineReaches}
use Rattle.machine.specs.Claims.{RaReaches}
use Rattle.machine.proofs.Fits.{Fits, fits_earlier}
use Rattle.machine.proofs.FinalPlaces.{place_in, run_fits}
use Rattle.machine.proofs.Views.{view_after_read, view_after_write, view_after_update}
use Rattle.machine.proofs.Splits.{Split}
use Rattle.machine.proofs.Mirrors.{Shown, nothing, write, Mirrors}
use Rattle.machine.proofs.Matched.{Matched, same_time, is_new, listed_is_old}
use Rattle.machine.proofs.MatchedShown.{mirrors_grows}
use Rattle.machine.proofs.Room.{earlier_times, after_listed, before_or_after, between_is_free}
use Rattle.machine.proofs.Accesses.{on_graph, picking, read_matched, write_matched}
use Rattle.machine.proofs.Start.{sent_at_start, start_mirrors, listed_is_start}

-- The writes have these times.
abbrev Timed : Graph → (Id → Message) → (Id → ℕ) → Type 0
Timed g sent time = (x : ℕ) (a : Id) → Member a (order g x) → (sent a).time ≡ time a

-- A release/acquire step from c's thread states and the graph g to those of s', made by the machine.
record Played (p : Program) (t : ℕ) (c : State) (s' : model.State) (time : Id → ℕ) : Type 0 where
  pub memory : MemoryState
  pub sent : Id → Message
  pub step : Step p t c (record { threads = s'.threads; memory = memory })
  pub mirrors : Mirrors memory s'.graph sent
  pub timed : Timed s'.graph sent time

module _ {p : Program} (c : State) (t : ℕ) {g : Graph} {sent : Id → Message} (good : Good p (on_graph c g))
    (f : Mirrors c.memory g sent) {time : Id → ℕ} (timed : Timed g sent time) where
  abbrev m : MemoryState
  m = c.memory

  play : (a : Access p (on_graph c g) t) {l : Label} → Asks (next_line p t (thread_of c t)) l a.effect.after
      → {m' : MemoryState} → Transition t m l m' → {n : Message} → Matched m m' sent (addition_of good a) n
      → (writing a.effect.action ≡ true → n.time ≡ time (next_id g t))
      → Played p t c (state_after a) time
  unfolding state_after graph_after
  play a {l} asks {m'} does k at_its_time =
      record {
        memory = m';
        sent = _;
        step = memory_step l a.effect.after m' asks does refl;
        mirrors = mirrors_grows good.well_formed f k;
        timed =
            λ x b h. ⊎_elim
            (λ r. same_time (is_new good.well_formed f k r.0) ∙ at_its_time r.2 ∙ ap time (sym r.0))
            (λ r. same_time (listed_is_old good.well_formed f k x r) ∙ timed x b r)
            (member_old_or_new (addition_of good a) x h);
      }

  -- The line's access that picks w.
  module _ (x : ℕ) {w : Id} (s : Split w (order g x)) {effect : ℕ → Option Effect}
      (line : next_line p t (thread_of c t) ≡ access x effect) where
    abbrev at : (action : Action) (q : ThreadState) → effect (value_of g w) ≡ acts action q → Access p (on_graph c g) t
    at = picking c t s line

    listed : Member w (order g x)
    listed = subst⁻¹ (Member w) s.whole (member_put_in s.before w s.after)

    -- The thread's view is not above what it may pick.
    view_not_above : ((v : Id) → Member v s.after → Reaches (HappensBefore g) (thread_events g t) v → ⊥)
        → m.views t x ≤ (sent w).time
    view_not_above unseen = go (f.thread_shows t x)
      where
        go : Shown g sent (Reaches (HappensBefore g) (thread_events g t)) (m.views t) x → m.views t x ≤ (sent w).time
        go (nothing q) = omega arith
        go (write v there seen low) =
            ⊎_elim (λ h. let e = earlier_times f x s v h in omega arith) (λ h. absurd (unseen v h seen))
            (before_or_after f x s v there)

    message_there : Member (message x (value_of g w) (sent w).time (sent w).view) m.messages
    message_there =
        let r = f.kept x w listed in
        subst (λ (n : Message). Member n m.messages)
        (λ i. record { location = r.location i; value = r.value i; time = (sent w).time; view = (sent w).view })
        r.there

    -- The time of a write directly after w, in a graph that has grown by it.
    new_between : {action : Action} {q : ThreadState} (does : effect (value_of g w) ≡ acts action q)
        → writing action ≡ true
        → Fits (grown (addition_of good (at action q does))) time
        → ((sent w).time < time (next_id g t)) × ((b : Id) → Member b s.after → time (next_id g t) < (sent b).time)
    new_between {action} {q} does writes' fits = (below, above)
      where
        d : Addition g
        d = addition_of good (at action q does)

        below : (sent w).time < time (next_id g t)
        below =
            let r = fits.rising x (subst⁻¹ (Precedes w (new_id d)) (order_put_in d writes')
            (precedes_put_in (up_to_picked d) (new_id d) s.after (member_put_in s.before w []))) in
            omega (arith, r, timed x w listed)

        above : (b : Id) → Member b s.after → time (next_id g t) < (sent b).time
        above b h =
            let r = fits.rising x (subst⁻¹ (Precedes (new_id d) b) (order_put_in d writes')
            (precedes_after (up_to_picked d) (new_id d) h)) in
            omega (arith, r, timed x b (after_listed f x s b h))

    read_played : (q : ThreadState) (does : effect (value_of g w) ≡ acts reads q) → Allowed p g t reads s.after
        → Played p t c (state_after (at reads q does)) time
    unfolding writing
    read_played q does ok =
        play (at reads q does) (asks_read x (value_of g w) effect line does refl)
        (by_read x (value_of g w) (sent w).time (sent w).view refl message_there
        (let low = view_not_above ok.unseen in omega arith) refl)
        (read_matched c t s line good f does _ (view_after_read x (m.views t) (sent w).view 0))
        (λ h. absurd (let z : ◌≡◌ {A = ℕ} 0 1 = cc in omega arith))

    write_played : (v : ℕ) (q : ThreadState) (does : effect (value_of g w) ≡ acts (writes v) q)
        → Allowed p g t (writes v) s.after
        → Fits (grown (addition_of good (at (writes v) q does))) time
        → Played p t c (state_after (at (writes v) q does)) time
    unfolding writing value_written event_of
    write_played v q does ok fits =
        let new = time (next_id g t) in
        let (below, above) = new_between does refl fits in
        let low = view_not_above ok.unseen in
        play (at (writes v) q does)
        (asks_write x v effect line
        (λ u. plain_write_ignores p t (thread_of c t) effect (value_of g w) u line does refl) refl)
        (by_write x v new refl (between_is_free f x s new below above) (omega arith) refl)
        (write_matched c t s line good f does v new _ refl refl below above
        (λ k h. absurd (let z : ◌≡◌ {A = ℕ} 0 1 = cc in omega arith))
        (view_after_write v x (m.views t) (sent w).view new (omega arith)))
        (λ h. refl)

    update_played : (v : ℕ) (q : ThreadState) (does : effect (value_of g w) ≡ acts (updates v) q)
        → Allowed p g t (updates v) s.after
        → Fits (grown (addition_of good (at (updates v) q does))) time
        → Played p t c (state_after (at (updates v) q does)) time
    unfolding writing value_written event_of
    update_played v q does ok fits =
        let new = suc (sent w).time in
        let next : time (next_id g t) ≡ new =
        fits.updated (next_id g t) (new_there (addition_of good (at (updates v) q does)))
        ∙ ap suc (sym (timed x w listed)) in
        let above : (b : Id) → Member b s.after → new < (sent b).time =
        λ b h. let r = (new_between does refl fits).1 b h in omega arith in
        let low = view_not_above ok.unseen in
        play (at (updates v) q does) (asks_update x (value_of g w) v effect line does refl)
        (by_update x (value_of g w) v (sent w).time new (sent w).view refl message_there (omega arith) (omega arith)
        (between_is_free f x s new (omega arith) above) refl)
        (write_matched c t s line good f does v new _ refl refl (omega arith) above (λ k h. refl)
        (view_after_update v x (m.views t) (sent w).view new (omega arith)))
        (λ h. sym next)

    -- An access of each kind.
    picked_played : (action : Action) (q : ThreadState) (does : effect (value_of g w) ≡ acts action q)
        → Allowed p g t action s.after
        → Fits (grown (addition_of good (at action q does))) time
        → Played p t c (state_after (at action q does)) time
    picked_played reads q does ok fits = read_played q does ok
    picked_played (writes v) q does ok fits = write_played v q does ok fits
    picked_played (updates v) q does ok fits = update_played v q does ok fits

  access_played : (a : Access p (on_graph c g) t) → Allowed p g t a.effect.action a.after
      → Fits (graph_after a) time
      → Played p t c (state_after a) time
  access_played a ok fits =
      picked_played a.location (record { before = a.before; after = a.after; whole = a.split }) a.line
      a.effect.action a.effect.after a.allows ok (subst (λ h. Fits h time) (graph_grown good a) fits)

  step_played : {s' : model.State} → RaStep p t (on_graph c g) s' → Fits s'.graph time → Played p t c s' time
  unfolding after_local state_after
  step_played (model.local_step q line e) fits =
      subst⁻¹ (λ (b : model.State). Played p t c b time) e
      (record {
        memory = m;
        sent = sent;
        step = local_step q line refl;
        mirrors = f;
        timed = timed;
      })
  step_played (access_step a ok e) fits =
      subst⁻¹ (λ (b : model.State). Fits b.graph time → Played p t c b time) e (access_played a ok) fits

-- Times that fit the graph after a step fit it before.
step_fits_earlier : {p : Program} {t : ℕ} {s s' : model.State} {time : Id → ℕ} → Good p s → RaStep p t s s'
    → Fits s'.graph time
    → Fits s.graph time
unfolding after_local state_after
step_fits_earlier {time = time} good (model.local_step q line e) fits =
    subst (λ (b : model.State). Fits b.graph time) e fits
step_fits_earlier {time = time} good (access_step a ok e) fits =
    fits_earlier (addition_of good a)
    (subst (λ h. Fits h time) (graph_grown good a) (subst (λ (b : model.State). Fits b.graph time) e fits))

-- A release/acquire run, made by the machine with these times.
record PlayedRun (p : Program) (schedule : List ℕ) (s : model.State) (time : Id → ℕ) : Type 0 where
  pub memory : MemoryState
  pub sent : Id → Message
  pub run : Run p schedule (record { threads = s.threads; memory = memory })
  pub mirrors : Mirrors memory s.graph sent
  pub timed : Timed s.graph sent time

run_played : {p : Program} {schedule : List ℕ} {s : model.State} (time : Id → ℕ) → RaRun p schedule s
    → Fits s.graph time
    → PlayedRun p schedule s time
unfolding start_state model.start_state sent_at_start
run_played {p} time model.no_step fits =
    record {
      memory = (start_state p).memory;
      sent = sent_at_start;
      run = no_step;
      mirrors = start_mirrors p;
      timed =
          λ x a h. let r = listed_is_start p x h in
          ap (λ b. (sent_at_start b).time) r.1 ∙ sym (ap time r.1 ∙ fits.started x);
    }
run_played {p} time (model.and_step {t = t} {s = s} r k) fits =
    let good = run_good r in
    let before = run_played time r (step_fits_earlier good k fits) in
    let step = step_played (record { threads = s.threads; memory = before.memory }) t good before.mirrors
    before.timed k fits in
    record {
      memory = step.memory;
      sent = step.sent;
      run = and_step before.run step.step;
      mirrors = step.mirrors;
      timed = step.timed;
    }

-- Thread states that release/acquire runs reach, the machine reaches by the same schedule.
pub machine_reaches_no_less : {p : Program} (schedule : List ℕ) (threads : List ThreadState)
    → RaReaches p schedule threads
    → MachineReaches p schedule threads
machine_reaches_no_less schedule threads r =
    let played = run_played (place_in r.0) r.1 (run_fits r.1) in (played.memory, played.run)
