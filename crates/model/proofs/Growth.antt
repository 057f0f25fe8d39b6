-- A graph that grows by one access, whichever write it picks: what is kept, and what is new.
use mathlib.Core.Path.{◌≡◌, refl, sym, ap, ◌∙◌, subst, subst⁻¹}
use mathlib.Core.Bool.{true, false, true≢false}
use mathlib.Core.List.Memᴰ
use mathlib.Core.List.{List, [], ◌∷◌, ◌++◌, Memᴰ as Member}
use mathlib.Core.Option.{some}
use mathlib.Core.Logic.{◌⊎◌, inl, inr, ⊎_elim, ◌≢◌}
use Prim.Native.Nat.{ℕ, suc, ◌<◌}
use native.Mathlib.Omega.{arith}
use native.Mathlib.Decide.{ℕ_discrete}
use lib.ListN.{length}
use lib.Seq.{append_snoc}
use Rattle.lists.proofs.Places.{member_in_range}
use Rattle.lists.proofs.Ends.{member_inserted, member_put_in, member_old_or_put_in}
use Rattle.relations.specs.Closure.{Precedes}
use Rattle.relations.proofs.Laws.{closure_grows}
use Rattle.relations.proofs.Precedes.{precedes_inserted, precedes_old_or_put_in}
use Rattle.program.specs.Thread.{Action, reads, writes, updates, writing}
use Rattle.model.specs.Graph.{Id, Event, Graph, events_of, order, event_at, thread_events, source_of, value_of, next_id}
use Rattle.model.specs.Graph.{event_of, directly_after, extend}
use Rattle.model.specs.Order.{ThreadOrder, starting, within, ReadsFrom, ModificationOrder, at, FromRead}
use Rattle.model.specs.Order.{HappensEdge, thread_order, reads_from, HappensBefore, ScEdge, happens_before}
use Rattle.model.specs.Order.{modification_order, from_read, ScOrder}
use Rattle.model.proofs.Lookup.{own_event, place_of_own, other_threads_events, other_order, new_order_lem}
use Rattle.model.proofs.Lookup.{same_locations, one_more_event, own_ids_after, more_events, event_kept}
use Rattle.model.proofs.Lookup.{new_event_lem, event_old_or_new, reading_event}

-- What an access adds to a graph.
pub record Addition (g : Graph) : Type 0 where
  pub thread : ℕ
  pub location : ℕ
  pub action : Action
  pub before : List Id
  pub picked : Id
  pub after : List Id
  pub split : order g location ≡ before ++ picked ∷ after
  pub thread_is_there : thread < length g.events

pub in_order : {g : Graph} (d : Addition g) → Member d.picked (order g d.location)
in_order d = subst⁻¹ (Member d.picked) d.split (member_put_in d.before d.picked d.after)

pub has_location : {g : Graph} (d : Addition g) → d.location < length g.orders
has_location {g} d = member_in_range g.orders d.location (in_order d)

abbrev pub new_id : {g : Graph} → Addition g → Id
new_id {g} d = next_id g d.thread

abbrev pub new_event : {g : Graph} → Addition g → Event
new_event {g} d = event_of d.action d.location (value_of g d.picked) d.picked

abbrev pub new_order : {g : Graph} → Addition g → List Id
new_order d = d.before ++ d.picked ∷ directly_after d.action (new_id d) d.after

abbrev pub grown : {g : Graph} → Addition g → Graph
grown {g} d = extend g d.thread (new_event d) d.location (new_order d)

-- An access that does not write leaves the order; one that writes puts its id in directly after the picked write.
pub not_written : (a : Action) (e : Id) (l : List Id) → writing a ≡ false → directly_after a e l ≡ l
unfolding directly_after writing
not_written reads e l h = refl
not_written (writes v) e l h = absurd (let z : ◌≡◌ {A = ℕ} 0 1 = cc in omega arith)
not_written (updates v) e l h = absurd (let z : ◌≡◌ {A = ℕ} 0 1 = cc in omega arith)

pub written : (a : Action) (e : Id) (l : List Id) → writing a ≡ true → directly_after a e l ≡ e ∷ l
unfolding directly_after writing
written reads e l h = absurd (let z : ◌≡◌ {A = ℕ} 0 1 = cc in omega arith)
written (writes v) e l h = refl
written (updates v) e l h = refl

pub writing_cases : (a : Action) → (writing a ≡ true) ⊎ (writing a ≡ false)
unfolding writing
writing_cases reads = inr refl
writing_cases (writes v) = inl refl
writing_cases (updates v) = inl refl

abbrev pub up_to_picked : {g : Graph} → Addition g → List Id
up_to_picked d = d.before ++ d.picked ∷ []

-- A location's order after the access: what it was, or with the new id put in, at this location, by a write.
pub data OrderAfter {g : Graph} (d : Addition g) (y : ℕ) : Type 0 where
  unchanged : order (grown d) y ≡ order g y → OrderAfter d y
  put_in : y ≡ d.location → writing d.action ≡ true → order g y ≡ up_to_picked d ++ d.after
      → order (grown d) y ≡ up_to_picked d ++ new_id d ∷ d.after → OrderAfter d y

module _ {g : Graph} (d : Addition g) where
  pub locations_stay : length (grown d).orders ≡ length g.orders
  locations_stay = same_locations g d.thread (new_event d) d.location (new_order d)

  -- The ids of the threads' events.
  pub one_event_more : length (events_of (grown d) d.thread) ≡ suc (length (events_of g d.thread))
  one_event_more = one_more_event g d.thread (new_event d) d.location (new_order d) d.thread_is_there

  pub own_ids_grow : thread_events (grown d) d.thread ≡ thread_events g d.thread ++ new_id d ∷ []
  own_ids_grow = own_ids_after g d.thread (new_event d) d.location (new_order d) d.thread_is_there

  pub others_ids_stay : (u : ℕ) → u ≢ d.thread → thread_events (grown d) u ≡ thread_events g u
  others_ids_stay = other_threads_events g d.thread (new_event d) d.location (new_order d)

  more : (u i : ℕ) → i < length (events_of g u) → i < length (events_of (grown d) u)
  more = more_events g d.thread (new_event d) d.location (new_order d) d.thread_is_there

  pub own_id_stays : (u : ℕ) {a : Id} → Member a (thread_events g u) → Member a (thread_events (grown d) u)
  own_id_stays u m =
      let r = place_of_own g u m in
      subst⁻¹ (λ a. Member a (thread_events (grown d) u)) r.2 (own_event (grown d) u r.0 (more u r.0 r.1))

  pub new_is_own : Member (new_id d) (thread_events (grown d) d.thread)
  new_is_own = subst⁻¹ (Member (new_id d)) own_ids_grow (member_put_in (thread_events g d.thread) (new_id d) [])

  pub own_old_or_new : {a : Id} → Member a (thread_events (grown d) d.thread)
      → (a ≡ new_id d) ⊎ Member a (thread_events g d.thread)
  own_old_or_new {a} m =
      ⊎_elim inr (λ h. inl (Memᴰ.eq_of_singleton h))
      (Memᴰ.append_cases (thread_events g d.thread) (subst (Member a) own_ids_grow m))

  -- The orders.
  pub order_elsewhere : (y : ℕ) → y ≢ d.location → order (grown d) y ≡ order g y
  order_elsewhere = other_order g d.thread (new_event d) d.location (new_order d)

  order_here : order (grown d) d.location ≡ new_order d
  order_here = new_order_lem g d.thread (new_event d) d.location (new_order d) (has_location d)

  pub old_order : order g d.location ≡ up_to_picked d ++ d.after
  old_order = d.split ∙ sym (append_snoc d.before d.picked d.after)

  pub order_put_in : writing d.action ≡ true → order (grown d) d.location ≡ up_to_picked d ++ new_id d ∷ d.after
  order_put_in w =
      order_here ∙ ap (λ l. d.before ++ d.picked ∷ l) (written d.action (new_id d) d.after w)
      ∙ sym (append_snoc d.before d.picked (new_id d ∷ d.after))

  order_unwritten : writing d.action ≡ false → order (grown d) d.location ≡ order g d.location
  order_unwritten w =
      order_here ∙ ap (λ l. d.before ++ d.picked ∷ l) (not_written d.action (new_id d) d.after w)
      ∙ sym d.split

  pub order_after : (y : ℕ) → OrderAfter d y
  order_after y = by_location (ℕ_discrete y d.location) (writing_cases d.action)
    where
      by_location : Dec (y ≡ d.location) → (writing d.action ≡ true) ⊎ (writing d.action ≡ false)
          → OrderAfter d y
      by_location (no n) w = unchanged (order_elsewhere y n)
      by_location (yes q) (inl w) =
          put_in q w (ap (order g) q ∙ old_order) (ap (order (grown d)) q ∙ order_put_in w)
      by_location (yes q) (inr w) =
          unchanged (ap (order (grown d)) q ∙ order_unwritten w ∙ ap (order g) (sym q))

  pub order_kept : writing d.action ≡ false → (y : ℕ) → order (grown d) y ≡ order g y
  order_kept w y = go (order_after y)
    where
      go : OrderAfter d y → order (grown d) y ≡ order g y
      go (unchanged o) = o
      go (put_in q k o n) = absurd (true≢false (sym k ∙ w))

  pub new_listed : writing d.action ≡ true → Member (new_id d) (order (grown d) d.location)
  new_listed w =
      subst⁻¹ (Member (new_id d)) (order_put_in w) (member_put_in (up_to_picked d) (new_id d) d.after)

  -- Where the newest write is picked, it stands last, and the new one after it.
  module _ (newest : d.after ≡ []) where
    pub picked_last : order g d.location ≡ up_to_picked d
    picked_last = d.split ∙ ap (λ l. d.before ++ d.picked ∷ l) newest

    pub order-grown : writing d.action ≡ true
        → order (grown d) d.location ≡ order g d.location ++ new_id d ∷ []
    order-grown w =
        order_put_in w ∙ ap (λ l. up_to_picked d ++ new_id d ∷ l) newest ∙ ap (λ l. l ++ new_id d ∷ []) (sym picked_last)

  pub member_stays : {a : Id} (y : ℕ) → Member a (order g y) → Member a (order (grown d) y)
  member_stays {a} y m = go (order_after y)
    where
      go : OrderAfter d y → Member a (order (grown d) y)
      go (unchanged o) = subst⁻¹ (Member a) o m
      go (put_in q w o n) =
          subst⁻¹ (Member a) n (member_inserted (up_to_picked d) (new_id d) d.after (subst (Member a) o m))

  -- An added id is the new one, at this location, by a write.
  pub member_old_or_new : {a : Id} (y : ℕ) → Member a (order (grown d) y)
      → ((a ≡ new_id d) × (y ≡ d.location) × (writing d.action ≡ true)) ⊎ Member a (order g y)
  member_old_or_new {a} y m = go (order_after y)
    where
      go : OrderAfter d y → ((a ≡ new_id d) × (y ≡ d.location) × (writing d.action ≡ true)) ⊎ Member a (order g y)
      go (unchanged o) = inr (subst (Member a) o m)
      go (put_in q w o n) =
          ⊎_elim (λ z. inl (z, q, w)) (λ z. inr (subst⁻¹ (Member a) o z))
          (member_old_or_put_in (up_to_picked d) (new_id d) d.after (subst (Member a) n m))

  pub precedes_stays : {a b : Id} (y : ℕ) → Precedes a b (order g y) → Precedes a b (order (grown d) y)
  precedes_stays {a} {b} y m = go (order_after y)
    where
      go : OrderAfter d y → Precedes a b (order (grown d) y)
      go (unchanged o) = subst⁻¹ (Precedes a b) o m
      go (put_in q w o n) =
          subst⁻¹ (Precedes a b) n (precedes_inserted (up_to_picked d) (new_id d) d.after (subst (Precedes a b) o m))

  -- What stands before what anew: the new id before what stood after the picked write, and the others before the new
  -- id.
  pub precedes_old_or_new : {a b : Id} (y : ℕ) → Precedes a b (order (grown d) y)
      → Precedes a b (order g y)
      ⊎ (((a ≡ new_id d) × Member b d.after) ⊎ ((b ≡ new_id d) × (y ≡ d.location) × Member a (up_to_picked d)))
  precedes_old_or_new {a} {b} y m = go (order_after y)
    where
      go : OrderAfter d y
          → Precedes a b (order g y)
          ⊎ (((a ≡ new_id d) × Member b d.after) ⊎ ((b ≡ new_id d) × (y ≡ d.location) × Member a (up_to_picked d)))
      go (unchanged o) = inl (subst (Precedes a b) o m)
      go (put_in q w o n) =
          ⊎_elim (λ z. inl (subst⁻¹ (Precedes a b) o z)) (⊎_elim (λ z. inr (inl z)) (λ z. inr (inr (z.0, q, z.1))))
          (precedes_old_or_put_in (up_to_picked d) (new_id d) d.after (subst (Precedes a b) n m))

  pub event_stays : (a : Id) {v : Event} → event_at g a ≡ some v → event_at (grown d) a ≡ some v
  event_stays = event_kept g d.thread (new_event d) d.location (new_order d) d.thread_is_there

  pub new_there : event_at (grown d) (new_id d) ≡ some (new_event d)
  new_there = new_event_lem g d.thread (new_event d) d.location (new_order d) d.thread_is_there

  pub there_old_or_new : (a : Id) {v : Event} → event_at (grown d) a ≡ some v
      → ((a ≡ new_id d) × (v ≡ new_event d)) ⊎ (event_at g a ≡ some v)
  there_old_or_new = event_old_or_new g d.thread (new_event d) d.location (new_order d) d.thread_is_there

  pub thread_order_grows : {a b : Id} → ThreadOrder g a b → ThreadOrder (grown d) a b
  thread_order_grows (starting {x = x} {t = t} {i = i} l h) =
      starting (subst⁻¹ (λ n. x < n) locations_stay l) (more t i h)
  thread_order_grows (within {t = t} {i = i} {j = j} l h) = within l (more t j h)

  pub reads_from_grows : (w r : Id) → ReadsFrom g w r → ReadsFrom (grown d) w r
  reads_from_grows w r h = let e = reading_event g r h in ap source_of (event_stays r e.1) ∙ e.2

  pub modification_order_grows : {a b : Id} → ModificationOrder g a b → ModificationOrder (grown d) a b
  modification_order_grows (at x h) = at x (precedes_stays x h)

  pub from_read_grows : {a b : Id} → FromRead g a b → FromRead (grown d) a b
  from_read_grows f =
      record {
        source = f.source;
        read = reads_from_grows f.source _ f.read;
        later = modification_order_grows f.later;
        other = f.other;
      }

  pub happens_edge_grows : (a b : Id) → HappensEdge g a b → HappensEdge (grown d) a b
  happens_edge_grows a b (thread_order h) = thread_order (thread_order_grows h)
  happens_edge_grows a b (reads_from h) = reads_from (reads_from_grows a b h)

  pub happens_before_grows : {a b : Id} → HappensBefore g a b → HappensBefore (grown d) a b
  happens_before_grows = closure_grows happens_edge_grows

  pub sc_edge_grows : (a b : Id) → ScEdge g a b → ScEdge (grown d) a b
  sc_edge_grows a b (happens_before h) = happens_before (happens_before_grows h)
  sc_edge_grows a b (modification_order h) = modification_order (modification_order_grows h)
  sc_edge_grows a b (from_read h) = from_read (from_read_grows h)

  pub sc_order_grows : {a b : Id} → ScOrder g a b → ScOrder (grown d) a b
  sc_order_grows = closure_grows sc_edge_grows
