-- What is found in a graph: the ids of a thread's events, starting writes, what an id reads from; and all of it in a
-- graph that has one more event.
use mathlib.Core.Path.{◌≡◌, refl, sym, ap, ◌∙◌, subst, subst⁻¹}
use mathlib.Core.Bool.{Bool, true, false, cond}
use mathlib.Core.List.Memᴰ
use mathlib.Core.List.{List, [], ◌∷◌, ◌++◌, map, map-append, flatten, Memᴰ as Member}
use mathlib.Core.Option.{Option, none, some}
use mathlib.Core.Logic.{◌⊎◌, inl, inr, ⊎_elim, ◌≢◌}
use Prim.Native.Nat.{ℕ, suc, ◌<◌}
use native.Mathlib.Omega.{arith}
use native.Mathlib.Decide.{ℕ_discrete}
use lib.Dec.{ltb}
use borrow.Author.Tests.{lt-ltb, ltb-true}
use lib.ListN.{length, get_elem?, length-set}
use lib.Seq.{get_or-set_same, get_or-set_other}
use Rattle.lists.proofs.Places.{place_kept, place_of_split, place_old_or_last, place_in_range, filled_row_in_range}
use Rattle.lists.proofs.Ends.{length_of_snoc}
use Rattle.lists.proofs.Pieces.{member_of_flat}
use Rattle.model.specs.Graph.{Id, start, event, Event, write_e, Graph, events_of, order, event_at, below}
use Rattle.model.specs.Graph.{thread_events, source_of, next_id, extend}
use Rattle.model.proofs.Below.{member_below, below_member}

-- The ids of a thread's events are those with a place below their number.
pub own_event : (g : Graph) (t i : ℕ) → i < length (events_of g t) → Member (event t i) (thread_events g t)
unfolding thread_events
own_event g t i h = Memᴰ.map (event t) (member_below (length (events_of g t)) h)

pub place_of_own : (g : Graph) (t : ℕ) {a : Id} → Member a (thread_events g t)
    → (i : ℕ) × (i < length (events_of g t)) × (a ≡ event t i)
unfolding thread_events
place_of_own g t m =
    let r = Memᴰ.of_map (event t) (below (length (events_of g t))) m in
    (r.0, below_member (length (events_of g t)) r.1, sym r.2)

-- All of them stand in the list of all threads' events.
pub own_event_listed : (g : Graph) (t i : ℕ) → i < length (events_of g t)
    → Member (event t i) (flatten (map (thread_events g) (below (length g.events))))
own_event_listed g t i h =
    member_of_flat (map (thread_events g) (below (length g.events))) (own_event g t i h)
    (Memᴰ.map (thread_events g) (member_below (length g.events) (filled_row_in_range g.events t h)))

module _ (g : Graph) (t : ℕ) (e : Event) (x : ℕ) (l : List Id) where
  pub other_events : (u : ℕ) → u ≢ t → events_of (extend g t e x l) u ≡ events_of g u
  unfolding extend
  other_events u n = get_or-set_other g.events t u (events_of g t ++ e ∷ []) [] n

  pub other_threads_events : (u : ℕ) → u ≢ t → thread_events (extend g t e x l) u ≡ thread_events g u
  unfolding thread_events
  other_threads_events u n = ap (λ es. map (event u) (below (length es))) (other_events u n)

  pub own_events : t < length g.events → events_of (extend g t e x l) t ≡ events_of g t ++ e ∷ []
  unfolding extend
  own_events h = get_or-set_same g.events t (events_of g t ++ e ∷ []) [] h

  pub other_order : (y : ℕ) → y ≢ x → order (extend g t e x l) y ≡ order g y
  unfolding extend
  other_order y n = get_or-set_other g.orders x y l [] n

  pub new_order_lem : x < length g.orders → order (extend g t e x l) x ≡ l
  unfolding extend
  new_order_lem h = get_or-set_same g.orders x l [] h

  pub same_locations : length (extend g t e x l).orders ≡ length g.orders
  unfolding extend
  same_locations = length-set g.orders x l

  pub same_threads : length (extend g t e x l).events ≡ length g.events
  unfolding extend
  same_threads = length-set g.events t (events_of g t ++ e ∷ [])

  -- Each thread's events are what they were, with e behind those of t.
  pub events_after : (u : ℕ) → t < length g.events
      → ((u ≢ t) × (events_of (extend g t e x l) u ≡ events_of g u))
      ⊎ ((u ≡ t) × (events_of (extend g t e x l) u ≡ events_of g u ++ e ∷ []))
  events_after u h = go (ℕ_discrete u t)
    where
      go : Dec (u ≡ t)
          → ((u ≢ t) × (events_of (extend g t e x l) u ≡ events_of g u))
          ⊎ ((u ≡ t) × (events_of (extend g t e x l) u ≡ events_of g u ++ e ∷ []))
      go (yes q) = inr (q, subst⁻¹ (λ v. events_of (extend g t e x l) v ≡ events_of g v ++ e ∷ []) q (own_events h))
      go (no n) = inl (n, other_events u n)

  module _ (h : t < length g.events) where
    pub one_more_event : length (events_of (extend g t e x l) t) ≡ suc (length (events_of g t))
    one_more_event = ap length (own_events h) ∙ length_of_snoc (events_of g t) e

    pub own_ids_after : thread_events (extend g t e x l) t ≡ thread_events g t ++ next_id g t ∷ []
    unfolding thread_events below
    own_ids_after =
        ap (λ n. map (event t) (below n)) one_more_event
        ∙ map-append (event t) (below (length (events_of g t))) (length (events_of g t) ∷ [])

    pub more_events : (u i : ℕ) → i < length (events_of g u) → i < length (events_of (extend g t e x l) u)
    more_events u i k =
        ⊎_elim (λ p. subst⁻¹ (λ es. i < length es) p.1 k)
        (λ p. subst⁻¹ (λ es. i < length es) p.1 (let q = length_of_snoc (events_of g u) e in omega arith))
        (events_after u h)

    start_kept : (y : ℕ) → event_at (extend g t e x l) (start y) ≡ event_at g (start y)
    unfolding event_at
    start_kept y = ap (λ n. cond (ltb y n) (some (write_e y 0)) none) same_locations

    pub event_kept : (a : Id) {v : Event} → event_at g a ≡ some v → event_at (extend g t e x l) a ≡ some v
    unfolding event_at
    event_kept (start y) k = start_kept y ∙ k
    event_kept (event u i) {v} k =
        ⊎_elim (λ p. subst⁻¹ (λ es. get_elem? es i ≡ some v) p.1 k)
        (λ p. subst⁻¹ (λ es. get_elem? es i ≡ some v) p.1 (place_kept (events_of g u) (e ∷ []) i k)) (events_after u h)

    pub new_event_lem : event_at (extend g t e x l) (next_id g t) ≡ some e
    unfolding event_at
    new_event_lem =
        subst⁻¹ (λ es. get_elem? es (length (events_of g t)) ≡ some e) (own_events h) (place_of_split (events_of g t) e [])

    pub event_old_or_new : (a : Id) {v : Event} → event_at (extend g t e x l) a ≡ some v
        → ((a ≡ next_id g t) × (v ≡ e)) ⊎ (event_at g a ≡ some v)
    unfolding event_at
    event_old_or_new (start y) k = inr (sym (start_kept y) ∙ k)
    event_old_or_new (event u i) {v} k =
        ⊎_elim (λ p. inr (subst (λ es. get_elem? es i ≡ some v) p.1 k))
        (λ p. own p.0 (subst (λ es. get_elem? es i ≡ some v) p.1 k))
        (events_after u h)
      where
        own : u ≡ t → get_elem? (events_of g u ++ e ∷ []) i ≡ some v
            → ((event u i ≡ next_id g t) × (v ≡ e)) ⊎ (get_elem? (events_of g u) i ≡ some v)
        own q r =
            ⊎_elim (λ z. inl ((λ j. event (q j) ((z.0 ∙ ap (λ w. length (events_of g w)) q) j)), z.1)) inr
            (place_old_or_last (events_of g u) e i r)

-- The next id of a thread is no event yet.
pub present_not_next : (g : Graph) (t : ℕ) (a : Id) {v : Event} → event_at g a ≡ some v → a ≡ next_id g t → ⊥
unfolding event_at
present_not_next g t a {v} k q =
    let h : get_elem? (events_of g t) (length (events_of g t)) ≡ some v = subst (λ b. event_at g b ≡ some v) q k in
    let r = place_in_range (events_of g t) (length (events_of g t)) h in
    omega arith

pub own_not_next : (g : Graph) (t u : ℕ) (a : Id) → Member a (thread_events g u) → a ≡ next_id g t → ⊥
own_not_next g t u a m q =
    let r = place_of_own g u m in
    let q₁ : u ≡ t = cc r.2 in
    let q₂ : r.0 ≡ length (events_of g t) = cc r.2 in
    omega (arith, r.1, ap (λ v. length (events_of g v)) q₁)

-- An id with a source is that of an event.
pub reading_event : (g : Graph) (r : Id) {w : Id} → source_of (event_at g r) ≡ some w
    → (v : Event) × (event_at g r ≡ some v) × (source_of (some v) ≡ some w)
unfolding source_of
reading_event g r {w} h = go (event_at g r) refl h
  where
    go : (v : Option Event) → event_at g r ≡ v → source_of v ≡ some w
        → (e : Event) × (event_at g r ≡ some e) × (source_of (some e) ≡ some w)
    go none q k = absurd (let z : ◌≡◌ {A = ℕ} 0 1 = cc in omega arith)
    go (some e) q k = (e, q, k)

-- A starting write is that of a location of the graph.
pub start_there : (g : Graph) (y : ℕ) → y < length g.orders → event_at g (start y) ≡ some (write_e y 0)
unfolding event_at
start_there g y h = ap (λ b. cond b (some (write_e y 0)) none) (lt-ltb y (length g.orders) h)

pub start_is : (g : Graph) (y : ℕ) {v : Event} → event_at g (start y) ≡ some v
    → (v ≡ write_e y 0) × (y < length g.orders)
unfolding event_at
start_is g y {v} h = go (ltb y (length g.orders)) refl h
  where
    go : (b : Bool) → ltb y (length g.orders) ≡ b → cond b (some (write_e y 0)) none ≡ some v
        → (v ≡ write_e y 0) × (y < length g.orders)
    go true q k = ((cc), ltb-true y (length g.orders) q)
    go false q k = absurd (let z : ◌≡◌ {A = ℕ} 0 1 = cc in omega arith)

pub start_reads_nothing : (g : Graph) (y : ℕ) {w : Id} → source_of (event_at g (start y)) ≡ some w → ⊥
unfolding source_of
start_reads_nothing g y h =
    let e = reading_event g (start y) h in
    let q = sym (ap (λ v. source_of (some v)) (start_is g y e.1).0) ∙ e.2 in
    let z : ◌≡◌ {A = ℕ} 0 1 = cc q in
    omega arith
