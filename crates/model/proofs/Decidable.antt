-- Happens-before and SC order are decided on every graph.
use mathlib.Core.Path.{◌≡◌, refl, ap, ◌∙◌, subst, subst⁻¹}
use mathlib.Core.List.Memᴰ
use mathlib.Core.List.{List, [], ◌++◌, map, flatten, Memᴰ as Member}
use mathlib.Core.Option.{Option, none, some, discrete}
use mathlib.Core.Logic.{◌⊎◌, inl, inr, ⊎_elim}
use Prim.Native.Nat.{ℕ, ◌<◌}
use native.Mathlib.Omega.{arith}
use native.Mathlib.Decide.{ℕ_discrete, dec_lt}
use lib.ListN.{length}
use Rattle.relations.specs.Closure.{Precedes, Reaches}
use Rattle.relations.proofs.Decide.{dec_map, dec_or, dec_and, dec_not, dec_some, dec_precedes, dec_closure, dec_reaches}
use Rattle.relations.proofs.Laws.{last_edge}
use Rattle.relations.proofs.Precedes.{precedes_members}
use Rattle.lists.proofs.Pieces.{member_of_flat}
use Rattle.lists.proofs.Places.{member_row, place_in_range, member_in_range}
use Rattle.model.specs.Graph.{Id, start, event, Event, Graph, events_of, order, event_at, below, thread_events}
use Rattle.model.specs.Graph.{source_of}
use Rattle.model.specs.Order.{ThreadOrder, starting, within, ReadsFrom, ModificationOrder, at, FromRead}
use Rattle.model.specs.Order.{HappensEdge, thread_order, reads_from, HappensBefore, ScEdge, happens_before}
use Rattle.model.specs.Order.{modification_order, from_read, ScOrder}
use Rattle.model.proofs.Lookup.{reading_event, own_event_listed, start_reads_nothing}
use Rattle.model.proofs.Below.{member_below}

pub id_discrete : Discrete Id
id_discrete (start x) (start y) = dec_map (ap start) (λ q. cc) (ℕ_discrete x y)
id_discrete (start x) (event t i) = no (λ q. let z : ◌≡◌ {A = ℕ} 0 1 = cc in omega arith)
id_discrete (event t i) (start x) = no (λ q. let z : ◌≡◌ {A = ℕ} 0 1 = cc in omega arith)
id_discrete (event t i) (event u j) =
    dec_map (λ q k. event (q.0 k) (q.1 k)) (λ q. ((cc), (cc))) (dec_and (ℕ_discrete t u) (ℕ_discrete i j))

module _ (g : Graph) where
  starting_is : {x t i : ℕ} → ThreadOrder g (start x) (event t i)
      → (x < length g.orders) × (i < length (events_of g t))
  starting_is (starting l h) = (l, h)

  within_is : {t i u j : ℕ} → ThreadOrder g (event t i) (event u j) → (t ≡ u) × ((i < j) × (j < length (events_of g u)))
  within_is (within l h) = (refl, (l, h))

  dec_thread_order : (a b : Id) → Dec (ThreadOrder g a b)
  dec_thread_order (start x) (start y) = no (λ h. elim h [ ])
  dec_thread_order (event t i) (start y) = no (λ h. elim h [ ])
  dec_thread_order (start x) (event t i) =
      dec_map (λ h. starting h.0 h.1) starting_is
      (dec_and (dec_lt x (length g.orders)) (dec_lt i (length (events_of g t))))
  dec_thread_order (event t i) (event u j) =
      dec_map into within_is (dec_and (ℕ_discrete t u) (dec_and (dec_lt i j) (dec_lt j (length (events_of g u)))))
    where
      into : (t ≡ u) × ((i < j) × (j < length (events_of g u))) → ThreadOrder g (event t i) (event u j)
      into h = subst⁻¹ (λ v. ThreadOrder g (event v i) (event u j)) h.0 (within h.1.0 h.1.1)

  dec_modification_order : (a b : Id) → Dec (ModificationOrder g a b)
  dec_modification_order a b =
      dec_map (λ h. at h.0 h.2) out
      (dec_some {P = λ x. Precedes a b (order g x)} (λ x. dec_precedes id_discrete a b (order g x))
      (below (length g.orders)))
    where
      out : ModificationOrder g a b → (x : ℕ) × Member x (below (length g.orders)) × Precedes a b (order g x)
      out (at x h) =
          (x, member_below (length g.orders) (member_in_range g.orders x (precedes_members (order g x) h).0), h)

  dec_from_read : (a b : Id) → Dec (FromRead g a b)
  dec_from_read a b = go (source_of (event_at g a)) refl
    where
      go : (o : Option Id) → source_of (event_at g a) ≡ o → Dec (FromRead g a b)
      go none q = no (λ r. let z : ◌≡◌ {A = ℕ} 0 1 = cc r.read in omega arith)
      go (some w) q =
          dec_map (λ h. record { source = w; read = q; later = h.0; other = h.1 })
          (λ r. (subst (λ v. ModificationOrder g v b) (let k : r.source ≡ w = cc r.read in k) r.later, r.other))
          (dec_and (dec_modification_order w b) (dec_not (id_discrete a b)))

  -- The events of the threads, and what stands in the orders.
  vertices : List Id
  vertices = flatten (map (thread_events g) (below (length g.events))) ++ flatten g.orders

  event_listed : (t i : ℕ) → i < length (events_of g t) → Member (event t i) vertices
  unfolding vertices
  event_listed t i h = Memᴰ.append_left (flatten g.orders) (own_event_listed g t i h)

  ordered_listed : (x : ℕ) {a : Id} → Member a (order g x) → Member a vertices
  unfolding vertices
  ordered_listed x m =
      Memᴰ.append_right (flatten (map (thread_events g) (below (length g.events))))
      (member_of_flat g.orders m (member_row g.orders x [] (member_in_range g.orders x m)))

  reader_listed : (a : Id) {v : Event} {w : Id} → event_at g a ≡ some v → source_of (some v) ≡ some w → Member a vertices
  unfolding event_at
  reader_listed (start y) h k = absurd (start_reads_nothing g y (ap source_of h ∙ k))
  reader_listed (event t i) h k = event_listed t i (place_in_range (events_of g t) i h)

  happens_listed : (a b : Id) → HappensEdge g a b → Member b vertices
  happens_listed a b (thread_order (starting {t = t} {i = i} l h)) = event_listed t i h
  happens_listed a b (thread_order (within {t = t} {j = j} l h)) = event_listed t j h
  happens_listed a b (reads_from h) = let e = reading_event g b h in reader_listed b e.1 e.2

  later_listed : {a b : Id} → ModificationOrder g a b → Member b vertices
  later_listed (at x h) = ordered_listed x (precedes_members (order g x) h).1

  happens_edge_is : {a b : Id} → HappensEdge g a b → ThreadOrder g a b ⊎ ReadsFrom g a b
  happens_edge_is (thread_order h) = inl h
  happens_edge_is (reads_from h) = inr h

  dec_happens_edge : (a b : Id) → Dec (HappensEdge g a b)
  dec_happens_edge a b =
      dec_map (⊎_elim thread_order reads_from) happens_edge_is
      (dec_or (dec_thread_order a b) (discrete id_discrete (source_of (event_at g b)) (some a)))

  pub dec_happens_before : (a b : Id) → Dec (HappensBefore g a b)
  dec_happens_before = dec_closure (HappensEdge g) dec_happens_edge vertices happens_listed

  sc_edge_is : {a b : Id} → ScEdge g a b → HappensBefore g a b ⊎ (ModificationOrder g a b ⊎ FromRead g a b)
  sc_edge_is (happens_before h) = inl h
  sc_edge_is (modification_order h) = inr (inl h)
  sc_edge_is (from_read h) = inr (inr h)

  dec_sc_edge : (a b : Id) → Dec (ScEdge g a b)
  dec_sc_edge a b =
      dec_map (⊎_elim happens_before (⊎_elim modification_order from_read)) sc_edge_is
      (dec_or (dec_happens_before a b) (dec_or (dec_modification_order a b) (dec_from_read a b)))

  sc_listed : (a b : Id) → ScEdge g a b → Member b vertices
  sc_listed a b (happens_before h) = let e = last_edge h in happens_listed e.0 b e.1
  sc_listed a b (modification_order h) = later_listed h
  sc_listed a b (from_read r) = later_listed r.later

  pub dec_sc_order : (a b : Id) → Dec (ScOrder g a b)
  dec_sc_order = dec_closure (ScEdge g) dec_sc_edge vertices sc_listed

  -- Whether an id is, or comes before, one of a list in happens-before, and in SC order.
  pub dec_happens_reaches : (bs : List Id) (a : Id) → Dec (Reaches (HappensBefore g) bs a)
  dec_happens_reaches = dec_reaches (HappensBefore g) id_discrete dec_happens_before

  pub dec_sc_reaches : (bs : List Id) (a : Id) → Dec (Reaches (ScOrder g) bs a)
  dec_sc_reaches = dec_reaches (ScOrder g) id_discrete dec_sc_order
