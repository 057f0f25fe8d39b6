-- What holds of every state that runs reach; SC steps as release/acquire steps; at most one SC step for each thread.
use mathlib.Core.Path.{◌≡◌, refl, sym, ap, ◌∙◌, subst, subst⁻¹}
use mathlib.Core.List.Memᴰ
use mathlib.Core.List.{List, [], ◌∷◌, ◌++◌, Memᴰ as Member}
use mathlib.Core.Option.{Option}
use Prim.Native.Nat.{ℕ, ◌<◌}
use native.Mathlib.Omega.{arith}
use native.Mathlib.Decide.{dec_lt}
use lib.ListN.{length, get_elem?, set, length-set, length-map, get_or-eq_default}
use Rattle.relations.specs.Closure.{further, Precedes}
use Rattle.lists.proofs.Ends.{same_last}
use Rattle.relations.proofs.Precedes.{one_precedes}
use mathlib.Core.Logic.{⊎_elim}
use Rattle.program.specs.Program.{Program, Line}
use Rattle.program.specs.Thread.{ThreadState, start_thread, Action, Effect, NextLine, ended, access, does_at, next_line}
use Rattle.program.specs.Thread.{local}
use Rattle.model.specs.Graph.{Id, Graph, order, value_of, next_id, event_of, directly_after, extend}
use Rattle.model.specs.Order.{at, modification_order, ScOrder}
use Rattle.model.specs.Run.{State, start_state, thread_of, Access, graph_after, state_after, after_local, Rule}
use Rattle.model.specs.Run.{Allowed, starts_with_update, Step, local_step, access_step, Run, no_step, and_step, ScStep}
use Rattle.model.specs.Run.{RaStep, ScRun, RaRun}
use Rattle.model.proofs.Lookup.{same_threads}
use Rattle.model.proofs.Growth.{Addition, new_event, new_order, grown, has_location, locations_stay}
use Rattle.model.proofs.WellFormed.{WellFormed, well_formed_grows}
use Rattle.model.proofs.Start.{start_locations, start_threads, start_well_formed, start_acyclic}
use Rattle.model.proofs.Sinks.{acyclic_grows}

-- A thread with a next line is one of the program.
pub past_threads_ended : (p : Program) (t : ℕ) (q : ThreadState) → (t < length p.threads → ⊥)
    → next_line p t q ≡ ended
unfolding next_line does_at
past_threads_ended p t q n =
    ap (λ ls. does_at p.values p.locations (get_elem? ls q.line) q)
    (get_or-eq_default p.threads [] (omega arith))

pub has_thread : (p : Program) (t : ℕ) (q : ThreadState) → (next_line p t q ≡ ended → ⊥) → t < length p.threads
has_thread p t q n = go (dec_lt t (length p.threads))
  where
    go : Dec (t < length p.threads) → t < length p.threads
    go (yes h) = h
    go (no h) = absurd (n (past_threads_ended p t q h))

pub access_not_ended : {l : NextLine} {x : ℕ} {f : ℕ → Option Effect} → l ≡ access x f → l ≡ ended → ⊥
access_not_ended q r = let z : ◌≡◌ {A = ℕ} 0 1 = cc in omega arith

pub local_not_ended : {l : NextLine} {q : ThreadState} → l ≡ local q → l ≡ ended → ⊥
local_not_ended q r = let z : ◌≡◌ {A = ℕ} 0 1 = cc in omega arith

pub access_has_thread : {p : Program} {s : State} {t : ℕ} → Access p s t → t < length p.threads
access_has_thread {p} {s} {t} a = has_thread p t (thread_of s t) (access_not_ended a.line)

-- A state has a thread state and events for each thread and an order for each location, and its graph is well formed.
pub record Good (p : Program) (s : State) : Type 0 where
  pub threads : length s.threads ≡ length p.threads
  pub events : length s.graph.events ≡ length p.threads
  pub locations : length s.graph.orders ≡ p.locations
  pub well_formed : WellFormed s.graph

-- What an access adds to the graph.
abbrev pub addition_of : {p : Program} {s : State} {t : ℕ} → Good p s → Access p s t → Addition s.graph
addition_of {p} {s} {t} f a =
    record {
      thread = t;
      location = a.location;
      action = a.effect.action;
      before = a.before;
      picked = a.picked;
      after = a.after;
      split = a.split;
      thread_is_there = subst⁻¹ (λ n. t < n) f.events (access_has_thread a);
    }

pub graph_grown : {p : Program} {s : State} {t : ℕ} (f : Good p s) (a : Access p s t)
    → graph_after a ≡ grown (addition_of f a)
unfolding graph_after
graph_grown f a = refl

pub access_has_location : {p : Program} {s : State} {t : ℕ} → Good p s → (a : Access p s t) → a.location < p.locations
access_has_location f a = subst (λ n. a.location < n) f.locations (has_location (addition_of f a))

pub start_good : (p : Program) → Good p (start_state p)
unfolding start_state
start_good p =
    record {
      threads = length-map p.threads (λ (ls : List Line). start_thread);
      events = start_threads p;
      locations = start_locations p;
      well_formed = start_well_formed p;
    }

pub access_good : {p : Program} {s : State} {t : ℕ} → Good p s → (a : Access p s t) → Good p (state_after a)
unfolding state_after
access_good {s = s} {t = t} f a =
    let d = addition_of f a in
    record {
      threads = length-set s.threads t a.effect.after ∙ f.threads;
      events =
          ap (λ g. length g.events) (graph_grown f a) ∙ same_threads s.graph d.thread (new_event d)
          d.location (new_order d) ∙ f.events;
      locations = ap (λ g. length g.orders) (graph_grown f a) ∙ locations_stay d ∙ f.locations;
      well_formed = subst⁻¹ WellFormed (graph_grown f a) (well_formed_grows f.well_formed d);
    }

pub local_good : {p : Program} {s : State} → Good p s → (t : ℕ) (q : ThreadState) → Good p (after_local s t q)
unfolding after_local
local_good {s = s} f t q =
    record {
      threads = length-set s.threads t q ∙ f.threads;
      events = f.events;
      locations = f.locations;
      well_formed = f.well_formed;
    }

pub step_good : {p : Program} {rule : Rule} {t : ℕ} {s s' : State} → Good p s → Step p rule t s s' → Good p s'
step_good {p} {t = t} f (local_step q l e) = subst⁻¹ (Good p) e (local_good f t q)
step_good {p} f (access_step a r e) = subst⁻¹ (Good p) e (access_good f a)

pub run_good : {p : Program} {rule : Rule} {schedule : List ℕ} {s : State} → Run p rule schedule s → Good p s
run_good {p} no_step = start_good p
run_good (and_step r k) = step_good (run_good r) k

-- SC order has no cycle in a graph of an SC run.
pub step_acyclic : {p : Program} {t : ℕ} {s s' : State} → Good p s → ScStep p t s s'
    → ((a : Id) → ScOrder s.graph a a → ⊥) → (a : Id) → ScOrder s'.graph a a → ⊥
unfolding after_local state_after
step_acyclic {s = s} {s' = s'} f (local_step q l e) old a h = old a (subst (λ (c : State). ScOrder c.graph a a) e h)
step_acyclic f (access_step m r e) old a h =
    acyclic_grows f.well_formed (addition_of f m) r old a
    (subst (λ g. ScOrder g a a) (graph_grown f m) (subst (λ (c : State). ScOrder c.graph a a) e h))

pub sc_order_acyclic : {p : Program} {schedule : List ℕ} {s : State} → ScRun p schedule s → (a : Id)
    → ScOrder s.graph a a → ⊥
unfolding start_state
sc_order_acyclic {p} no_step a h = start_acyclic p a a h
sc_order_acyclic (and_step r k) a h = step_acyclic (run_good r) k (λ b w. sc_order_acyclic r b w) a h

-- Of two writes in one modification order the SC-earlier stands first.
pub sc_earlier_stands_first : {p : Program} {schedule : List ℕ} {s : State} → ScRun p schedule s → (x : ℕ) {a b : Id}
    → Member a (order s.graph x) → Member b (order s.graph x) → ScOrder s.graph a b
    → Precedes a b (order s.graph x)
sc_earlier_stands_first {s = s} r x {a} {b} m n h =
    ⊎_elim (λ q. absurd (sc_order_acyclic r b (subst (λ c. ScOrder s.graph c b) q h)))
    (⊎_elim (λ w. w) (λ w. absurd (sc_order_acyclic r a (further h (modification_order (at x w))))))
    (one_precedes (order s.graph x) m n)

-- "an SC step is also the release/acquire step that picks the newest write"
pub newest_allowed : (p : Program) (g : Graph) (t : ℕ) (action : Action) (after : List Id) → after ≡ []
    → Allowed p g t action after
unfolding starts_with_update
newest_allowed p g t action after q =
    record {
      unseen = λ v m h. Memᴰ.not-nil (subst (Member v) q m);
      unfollowed = λ w. ap (starts_with_update g) q;
    }

pub sc_step_is_ra_step : {p : Program} {t : ℕ} {s s' : State} → ScStep p t s s' → RaStep p t s s'
sc_step_is_ra_step (local_step q l e) = local_step q l e
sc_step_is_ra_step {p} {t} {s} (access_step a r e) =
    access_step a (newest_allowed p s.graph t a.effect.action a.after r) e

pub sc_run_is_ra_run : {p : Program} {schedule : List ℕ} {s : State} → ScRun p schedule s → RaRun p schedule s
sc_run_is_ra_run no_step = no_step
sc_run_is_ra_run (and_step r k) = and_step (sc_run_is_ra_run r) (sc_step_is_ra_step k)

-- Two accesses of a thread that pick the same write lead to the same state.
pub same_pick_same_state : {p : Program} {s : State} {t : ℕ} (a b : Access p s t) → a.before ≡ b.before
    → a.picked ≡ b.picked
    → a.after ≡ b.after → state_after a ≡ state_after b
unfolding state_after graph_after
same_pick_same_state {p} {s} {t} a b qb qw qa i =
    record {
      threads = set s.threads t (qe i).after;
      graph =
          extend s.graph t (event_of (qe i).action (ql i) (value_of s.graph (qw i)) (qw i)) (ql i)
          (qb i ++ qw i ∷ directly_after (qe i).action (next_id s.graph t) (qa i));
    }
  where
    ql : a.location ≡ b.location
    ql = cc (a.line, b.line)

    qe : a.effect ≡ b.effect
    qe = let f : a.effects ≡ b.effects = cc (a.line, b.line) in cc (a.allows, b.allows, f, qw)

pub same_location : {p : Program} {s : State} {t : ℕ} (a b : Access p s t) → a.location ≡ b.location
same_location a b = cc (a.line, b.line)

-- The newest write of a location is one.
pub same_newest : {p : Program} {s : State} {t : ℕ} (a b : Access p s t) → a.after ≡ [] → b.after ≡ []
    → (a.before ≡ b.before) × (a.picked ≡ b.picked)
same_newest {s = s} a b r k =
    same_last a.before b.before a.picked b.picked
    (sym (ap (λ l. a.before ++ a.picked ∷ l) r) ∙ sym a.split ∙ ap (order s.graph) (same_location a b)
    ∙ b.split
    ∙ ap (λ l. b.before ++ b.picked ∷ l) k)

-- "Each thread has at most one SC step in a state, local lines included."
pub at_most_one_sc_step : {p : Program} {t : ℕ} {s s₁ s₂ : State} → ScStep p t s s₁ → ScStep p t s s₂ → s₁ ≡ s₂
at_most_one_sc_step (local_step q l e) (local_step r m f) = let k : q ≡ r = cc in e ∙ ap (after_local _ _) k ∙ sym f
at_most_one_sc_step (local_step q l e) (access_step b r f) =
    absurd (let z : ◌≡◌ {A = ℕ} 0 1 = cc b.line in omega arith)
at_most_one_sc_step (access_step a r e) (local_step q l f) =
    absurd (let z : ◌≡◌ {A = ℕ} 0 1 = cc a.line in omega arith)
at_most_one_sc_step (access_step a r e) (access_step b k f) =
    let n = same_newest a b r k in
    e ∙ same_pick_same_state a b n.0 n.1 (r ∙ sym k) ∙ sym f
