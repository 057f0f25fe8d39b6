-- The event of an access has no way out: in happens-before always, in SC order where the picked write is the newest.
use mathlib.Core.Path.{◌≡◌, refl, sym, ap, ◌∙◌, subst, subst⁻¹}
use mathlib.Core.List.Memᴰ
use mathlib.Core.List.{[], ◌∷◌, ◌++◌, Memᴰ as Member}
use mathlib.Core.Option.{some}
use mathlib.Core.Logic.{◌⊎◌, inl, inr, ⊎_elim}
use Prim.Native.Nat.{ℕ, ◌<◌}
use native.Mathlib.Omega.{arith}
use native.Mathlib.Decide.{dec_lt}
use lib.ListN.{length}
use Rattle.relations.specs.Closure.{Precedes}
use Rattle.relations.proofs.Sink.{Sink, closure_sink, sink_keeps_acyclic}
use Rattle.lists.proofs.Ends.{length_of_snoc}
use Rattle.relations.proofs.Precedes.{precedes_members, precedes_put_in, precedes_in_front}
use Rattle.model.specs.Graph.{Id, event, Event, Graph, events_of, order, event_at, source_of, location_of}
use Rattle.model.specs.Order.{ThreadOrder, starting, within, ReadsFrom, ModificationOrder, at, FromRead}
use Rattle.model.specs.Order.{HappensEdge, thread_order, reads_from, ScEdge, happens_before, modification_order}
use Rattle.model.specs.Order.{from_read, ScOrder}
use Rattle.model.proofs.Lookup.{events_after, reading_event}
use Rattle.model.proofs.Growth.{Addition, in_order, new_id, new_event, new_order, grown, precedes_old_or_new}
use Rattle.model.proofs.Growth.{happens_edge_grows, sc_edge_grows, new_there, there_old_or_new, locations_stay}
use Rattle.model.proofs.Growth.{one_event_more, picked_last}
use Rattle.model.proofs.WellFormed.{WellFormed, listed_not_next, new_source, new_unlisted}

-- A write stands in the order of one location only.
pub one_location : {g : Graph} → WellFormed g → (a : Id) (x y : ℕ) → Member a (order g x) → Member a (order g y) → x ≡ y
one_location f a x y m n =
    let v = f.listed_writes x a m in
    let w = f.listed_writes y a n in
    cc (v.there, v.to, w.there, w.to)

module _ {g : Graph} (f : WellFormed g) (d : Addition g) where
  pub place_old_or_new : (u i : ℕ) → i < length (events_of (grown d) u)
      → (event u i ≡ new_id d) ⊎ (i < length (events_of g u))
  place_old_or_new u i h =
      ⊎_elim (λ p. inr (subst (λ es. i < length es) p.1 h)) (λ p. own p.0 (subst (λ es. i < length es) p.1 h))
      (events_after g d.thread (new_event d) d.location (new_order d) u d.thread_is_there)
    where
      own : u ≡ d.thread → i < length (events_of g u ++ new_event d ∷ [])
          → (event u i ≡ new_id d) ⊎ (i < length (events_of g u))
      own q k = go (dec_lt i (length (events_of g u)))
        where
          go : Dec (i < length (events_of g u)) → (event u i ≡ new_id d) ⊎ (i < length (events_of g u))
          go (yes l) = inr l
          go (no n) =
              let z : i ≡ length (events_of g u) = omega (arith, length_of_snoc (events_of g u) (new_event d)) in
              inl (λ j. event (q j) ((z ∙ ap (λ w. length (events_of g w)) q) j))

  -- Nothing reads the new write yet.
  pub new_unread : (r : Id) → ReadsFrom (grown d) (new_id d) r → ⊥
  new_unread r h =
      let e = reading_event (grown d) r h in
      ⊎_elim
      (λ n. listed_not_next f d.thread d.location d.picked (in_order d)
      (sym (new_source d.action d.location _ d.picked (ap (λ v. source_of (some v)) (sym n.1) ∙ e.2))))
      (λ o. new_unlisted f d (location_of e.0) (f.sources_listed r (new_id d) e.0 o e.2))
      (there_old_or_new d r e.1)

  last_in_thread : {a b : Id} → ThreadOrder (grown d) a b → a ≡ new_id d → ⊥
  last_in_thread (starting l h) q = absurd (let z : ◌≡◌ {A = ℕ} 0 1 = cc in omega arith)
  last_in_thread (within {t = t} {i = i} {j = j} l h) q =
      let q₁ : t ≡ d.thread = cc in
      let q₂ : i ≡ length (events_of g d.thread) = cc in
      let k : j < length (events_of (grown d) d.thread) = subst (λ u. j < length (events_of (grown d) u)) q₁ h in
      omega (arith, one_event_more d)

  happens_new : (a b : Id) → HappensEdge (grown d) a b → (b ≡ new_id d) ⊎ HappensEdge g a b
  happens_new a b (thread_order (starting {x = x} {t = t} {i = i} l h)) =
      ⊎_elim inl (λ k. inr (thread_order (starting (subst (λ n. x < n) (locations_stay d) l) k)))
      (place_old_or_new t i h)
  happens_new a b (thread_order (within {t = t} {i = i} {j = j} l h)) =
      ⊎_elim inl (λ k. inr (thread_order (within l k))) (place_old_or_new t j h)
  happens_new a b (reads_from h) =
      let e = reading_event (grown d) b h in
      ⊎_elim (λ n. inl n.0) (λ o. inr (reads_from (ap source_of o ∙ e.2))) (there_old_or_new d b e.1)

  pub happens_sink : Sink (HappensEdge g) (HappensEdge (grown d)) (new_id d)
  happens_sink = record { kept = happens_edge_grows d; no_way_out = none_out; new_end_there = happens_new }
    where
      none_out : (b : Id) → HappensEdge (grown d) (new_id d) b → ⊥
      none_out b (thread_order h) = last_in_thread h refl
      none_out b (reads_from h) = new_unread b h

  module _ (newest : d.after ≡ []) where
    none_after : (b : Id) → Member b d.after → ⊥
    none_after b m = Memᴰ.not-nil (subst (Member b) newest m)

    -- Nothing stands after the newest write.
    pub picked_is_last : (b : Id) (y : ℕ) → Precedes d.picked b (order g y) → ⊥
    picked_is_last b y h =
        let q = one_location f d.picked y d.location (precedes_members (order g y) h).0 (in_order d) in
        let m = precedes_in_front d.before d.picked
        (subst (Precedes d.picked b) (picked_last d newest) (subst (λ z. Precedes d.picked b (order g z)) q h)) in
        f.no_repeats d.location d.picked
        (subst⁻¹ (Precedes d.picked d.picked) (picked_last d newest)
        (precedes_put_in d.before d.picked [] m))

    new_precedes_none : (b : Id) → ModificationOrder (grown d) (new_id d) b → ⊥
    new_precedes_none b (at y h) =
        ⊎_elim (λ o. new_unlisted f d y (precedes_members (order g y) o).0)
        (⊎_elim (λ n. none_after b n.1)
        (λ n. new_unlisted f d d.location (subst⁻¹ (Member (new_id d)) (picked_last d newest) n.2)))
        (precedes_old_or_new d y h)

    new_reads_last : (b : Id) → FromRead (grown d) (new_id d) b → ⊥
    new_reads_last b r = go r.later
      where
        source_is : r.source ≡ d.picked
        source_is =
            new_source d.action d.location _ d.picked (ap source_of (sym (new_there d)) ∙ r.read)

        go : ModificationOrder (grown d) r.source b → ⊥
        go (at y h) =
            ⊎_elim (λ o. picked_is_last b y (subst (λ w. Precedes w b (order g y)) source_is o))
            (⊎_elim (λ n. none_after b n.1) (λ n. r.other (sym n.0))) (precedes_old_or_new d y h)

    sc_none_out : (b : Id) → ScEdge (grown d) (new_id d) b → ⊥
    sc_none_out b (happens_before h) = (closure_sink happens_sink).no_way_out b h
    sc_none_out b (modification_order h) = new_precedes_none b h
    sc_none_out b (from_read h) = new_reads_last b h

    later_new : {a b : Id} → ModificationOrder (grown d) a b → (b ≡ new_id d) ⊎ ModificationOrder g a b
    later_new {a} {b} (at y h) =
        ⊎_elim (λ o. inr (at y o)) (⊎_elim (λ n. absurd (none_after b n.1)) (λ n. inl n.0))
        (precedes_old_or_new d y h)

    sc_new : (a b : Id) → ScEdge (grown d) a b → (b ≡ new_id d) ⊎ ScEdge g a b
    sc_new a b (happens_before h) =
        ⊎_elim inl (λ o. inr (happens_before o)) ((closure_sink happens_sink).new_end_there a b h)
    sc_new a b (modification_order h) = ⊎_elim inl (λ o. inr (modification_order o)) (later_new h)
    sc_new a b (from_read r) = ⊎_elim inl (λ o. read o (there_old_or_new d a e.1)) (later_new r.later)
      where
        e : (v : Event) × (event_at (grown d) a ≡ some v) × (source_of (some v) ≡ some r.source)
        e = reading_event (grown d) a r.read

        read : ModificationOrder g r.source b → ((a ≡ new_id d) × (e.0 ≡ new_event d)) ⊎ (event_at g a ≡ some e.0)
            → (b ≡ new_id d) ⊎ ScEdge g a b
        read o (inl n) = absurd (new_reads_last b (subst (λ z. FromRead (grown d) z b) n.0 r))
        read o (inr k) =
            inr (from_read (record { source = r.source; read = ap source_of k ∙ e.2; later = o; other = r.other }))

    pub sc_sink : Sink (ScEdge g) (ScEdge (grown d)) (new_id d)
    sc_sink = record { kept = sc_edge_grows d; no_way_out = sc_none_out; new_end_there = sc_new }

    -- An SC step closes no cycle of SC order.
    pub acyclic_grows : ((a : Id) → ScOrder g a a → ⊥) → (a : Id) → ScOrder (grown d) a a → ⊥
    acyclic_grows = sink_keeps_acyclic sc_sink
