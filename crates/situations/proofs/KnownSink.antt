-- What comes in SC order before the event of an SC step: what is, or comes before, an event of its thread, a starting
-- write, or one of what it touches: every access to the location where it writes, the newest write where it reads.
use mathlib.Core.Path.{◌≡◌, refl, sym, ap, ◌∙◌, subst, subst⁻¹}
use mathlib.Core.Bool.{true, false, true≢false}
use mathlib.Core.List.Memᴰ
use mathlib.Core.List.{List, [], ◌∷◌, ◌++◌, Memᴰ as Member}
use mathlib.Core.Option.{some}
use mathlib.Core.Logic.{◌⊎◌, inl, inr, ⊎_elim}
use Rattle.relations.specs.Closure.{edge, IsOrBefore, Reaches, Precedes}
use Rattle.relations.proofs.Laws.{is_or_before_joins}
use Rattle.relations.proofs.Sink.{before_sink, reach_sink}
use Rattle.relations.proofs.Precedes.{precedes_members, precedes_put_in}
use Rattle.program.specs.Thread.{writing}
use Rattle.model.specs.Graph.{Id, Event, read_e, write_e, update_e, Graph, order, event_at, source_of, location_of}
use Rattle.model.specs.Graph.{thread_events}
use Rattle.model.specs.Readable.{starts, accesses}
use Rattle.model.specs.Order.{ThreadOrder, ModificationOrder, at, FromRead, HappensEdge, thread_order, reads_from}
use Rattle.model.specs.Order.{HappensBefore, ScEdge, happens_before, modification_order, from_read, ScOrder}
use Rattle.model.proofs.Lookup.{reading_event, present_not_next}
use Rattle.model.proofs.Growth.{Addition, in_order, new_id, grown, up_to_picked, member_old_or_new, precedes_old_or_new}
use Rattle.model.proofs.Growth.{new_there, there_old_or_new, event_stays, picked_last, order_put_in}
use Rattle.model.proofs.WellFormed.{WellFormed, writes_to, write_location, new_source, new_unlisted}
use Rattle.model.proofs.Sinks.{happens_sink, sc_sink, one_location}
use Rattle.model.proofs.NewEdges.{thread_order_in_sc, own_before_new, picked_before_new, start_before_new}
use Rattle.model.proofs.NewEdges.{in_thread_before_new}
use Rattle.situations.proofs.StepLists.{is_access, access_is, start_listed, listed_start}
use Rattle.situations.proofs.StepGrowth.{own_events}

-- An event reads, or it writes its location.
reads_or_writes : (v : Event) → ((w : Id) × (source_of (some v) ≡ some w)) ⊎ (writes_to v ≡ some (location_of v))
unfolding writes_to location_of source_of
reads_or_writes (read_e y u w) = inl (w, refl)
reads_or_writes (write_e y v) = inr refl
reads_or_writes (update_e y u v w) = inr refl

happens_in_sc : {g : Graph} {a b : Id} → IsOrBefore (HappensBefore g) a b → IsOrBefore (ScOrder g) a b
happens_in_sc (inl q) = inl q
happens_in_sc (inr h) = inr (edge (happens_before h))

-- Beside its thread's events and the starts, the new event comes directly after those of the list.
pub record Touches {g : Graph} (d : Addition g) (es : List Id) : Type 0 where
  pub has_picked : Member d.picked es
  pub has_readers : (b : Id) → FromRead (grown d) b (new_id d) → Member b es
  pub before_new : (b : Id) → Member b es → ScEdge (grown d) b (new_id d)

module _ {g : Graph} (f : WellFormed g) (d : Addition g) where
  thread_source : {a : Id} → ThreadOrder (grown d) a (new_id d) → Member a (own_events g d.thread)
  thread_source h =
      ⊎_elim
      (λ s. Memᴰ.append_right (thread_events g d.thread)
      (subst⁻¹ (λ b. Member b (starts g)) s.2 (start_listed g s.0 s.1)))
      (Memᴰ.append_left (starts g)) (in_thread_before_new d h refl)

  module _ (last : d.after ≡ []) where
    -- What the new event stands behind in an order is a write to its location, which it writes.
    new_stands_last : {a : Id} → ModificationOrder (grown d) a (new_id d)
        → (writing d.action ≡ true) × Member a (order g d.location)
    new_stands_last {a} (at y h) =
        let n = ⊎_elim (λ k. k) (λ k. absurd (new_unlisted f d y k))
        (member_old_or_new d y (precedes_members (order (grown d) y) h).1) in (
          n.2,
          ⊎_elim (λ k. absurd (new_unlisted f d y (precedes_members (order g y) k).1))
              (⊎_elim (λ k. absurd (Memᴰ.not-nil (subst (Member (new_id d)) last k.1)))
              (λ k. subst⁻¹ (Member a) (picked_last d last) k.2))
              (precedes_old_or_new d y h),
        )

    listed_before_picked : {a : Id} → Member a (order g d.location) → IsOrBefore (ScOrder g) a d.picked
    listed_before_picked {a} m =
        ⊎_elim
        (λ k. inr (edge (modification_order (at d.location
        (subst⁻¹ (Precedes a d.picked) (picked_last d last) (precedes_put_in d.before d.picked [] k))))))
        (λ k. inl (Memᴰ.eq_of_singleton k))
        (Memᴰ.append_cases d.before (subst (Member a) (picked_last d last) m))

    module _ {es : List Id} (touches : Touches d es) where
      abbrev reached : List Id
      reached = own_events g d.thread ++ es

      happens_source : {a : Id} → HappensEdge (grown d) a (new_id d) → Member a reached
      happens_source (thread_order h) = Memᴰ.append_left es (thread_source h)
      happens_source {a} (reads_from h) =
          Memᴰ.append_right (own_events g d.thread)
          (subst⁻¹ (λ w. Member w es)
          (new_source d.action d.location _ d.picked (ap source_of (sym (new_there d)) ∙ h))
          touches.has_picked)

      sc_source : {b : Id} → ScEdge (grown d) b (new_id d) → Reaches (ScOrder g) reached b
      sc_source (happens_before h) =
          let r = before_sink (happens_sink f d) h in
          record { target = r.0; listed = happens_source r.1; way = happens_in_sc r.2 }
      sc_source (modification_order h) =
          record {
            target = d.picked;
            listed = Memᴰ.append_right (own_events g d.thread) touches.has_picked;
            way = listed_before_picked (new_stands_last h).1;
          }
      sc_source {b} (from_read r) =
          record {
            target = b;
            listed = Memᴰ.append_right (own_events g d.thread) (touches.has_readers b r);
            way = inl refl;
          }

      pub before_new_event : {a : Id} → ScOrder (grown d) a (new_id d) → Reaches (ScOrder g) reached a
      before_new_event h =
          let r = before_sink (sc_sink f d last) h in
          let k = sc_source r.1 in
          record { target = k.target; listed = k.listed; way = is_or_before_joins r.2 k.way }

      direct : {a : Id} → Member a reached → ScEdge (grown d) a (new_id d)
      direct {a} m = ⊎_elim own (touches.before_new a) (Memᴰ.append_cases (own_events g d.thread) m)
        where
          begin : Member a (starts g) → ScEdge (grown d) a (new_id d)
          begin k =
              let r = listed_start g k in
              subst⁻¹ (λ b. ScEdge (grown d) b (new_id d)) r.2 (thread_order_in_sc (start_before_new d r.1))

          own : Member a (own_events g d.thread) → ScEdge (grown d) a (new_id d)
          own k =
              ⊎_elim (λ o. thread_order_in_sc (own_before_new d o)) begin
              (Memᴰ.append_cases (thread_events g d.thread) k)

      pub reaches_new_event : {a : Id} → Reaches (ScOrder g) reached a → ScOrder (grown d) a (new_id d)
      reaches_new_event r = reach_sink (sc_sink f d last) (direct r.listed) r.way

    -- A write comes after every access to its location, and a read after the newest write.
    pub write_touches : writing d.action ≡ true → Touches d (accesses g d.location)
    write_touches w = record { has_picked = picked; has_readers = readers; before_new = before }
      where
        picked : Member d.picked (accesses g d.location)
        picked =
            let k = f.listed_writes d.location d.picked (in_order d) in
            is_access g d.location d.picked k.there (write_location k.write k.to)

        readers : (b : Id) → FromRead (grown d) b (new_id d) → Member b (accesses g d.location)
        readers b r =
            let e = reading_event (grown d) b r.read in
            ⊎_elim (λ n. absurd (r.other n.0))
            (λ o. is_access g d.location b o
            (one_location f r.source (location_of e.0) d.location
            (f.sources_listed b r.source e.0 o e.2) (new_stands_last r.later).1))
            (there_old_or_new d b e.1)

        listed : {a : Id} → Member a (order g d.location) → ModificationOrder (grown d) a (new_id d)
        listed {a} m =
            at d.location
            (subst⁻¹ (Precedes a (new_id d)) (order_put_in d w)
            (precedes_put_in (up_to_picked d) (new_id d) d.after (subst (Member a) (picked_last d last) m)))

        before : (b : Id) → Member b (accesses g d.location) → ScEdge (grown d) b (new_id d)
        before b m = go (reads_or_writes r.0)
          where
            r : (v : Event) × (event_at g b ≡ some v) × (location_of v ≡ d.location)
            r = access_is g d.location b m

            go : ((w : Id) × (source_of (some r.0) ≡ some w)) ⊎ (writes_to r.0 ≡ some (location_of r.0))
                → ScEdge (grown d) b (new_id d)
            go (inl s) =
                from_read
                (record {
                  source = s.0;
                  read = ap source_of (event_stays d b r.1) ∙ s.1;
                  later =
                      listed
                      (subst (λ y. Member s.0 (order g y)) r.2 (f.sources_listed b s.0 r.0 r.1 s.1));
                  other = present_not_next g d.thread b r.1;
                })
            go (inr k) =
                modification_order
                (listed
                (f.writes_listed d.location b
                (record { write = r.0; there = r.1; to = k ∙ ap some r.2 })))

    pub read_touches : writing d.action ≡ false → Touches d (d.picked ∷ [])
    read_touches w =
        record {
          has_picked = Member.head refl;
          has_readers = λ b r. absurd (true≢false (sym (new_stands_last r.later).0 ∙ w));
          before_new =
              λ b m. subst⁻¹ (λ c. ScEdge (grown d) c (new_id d)) (Memᴰ.eq_of_singleton m) (picked_before_new d);
        }
