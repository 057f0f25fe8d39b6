-- The edges of the event that an access adds.
use mathlib.Core.Path.{◌≡◌, refl, sym, ap, ◌∙◌, subst⁻¹, subst}
use mathlib.Core.Bool.{true, false}
use mathlib.Core.List.Memᴰ
use mathlib.Core.List.{[], Memᴰ as Member}
use mathlib.Core.Option.{some}
use mathlib.Core.Logic.{⊎_elim, ◌⊎◌, inl, inr}
use Prim.Native.Nat.{ℕ, ◌<◌}
use native.Mathlib.Omega.{arith}
use lib.ListN.{length}
use Rattle.relations.specs.Closure.{Precedes, edge}
use Rattle.relations.proofs.Precedes.{precedes_after, precedes_put_in}
use Rattle.lists.proofs.Ends.{member_put_in}
use Rattle.program.specs.Thread.{Action, reads, writes, updates, writing}
use Rattle.model.specs.Graph.{Id, Graph, events_of, order, source_of, event_of, thread_events, start, event}
use Rattle.model.specs.Order.{ThreadOrder, thread_order, within, ReadsFrom, ModificationOrder, at, reads_from}
use Rattle.model.specs.Order.{ScEdge, happens_before, modification_order, from_read, starting}
use Rattle.model.proofs.Lookup.{place_of_own, own_event}
use Rattle.model.proofs.Growth.{Addition, new_id, grown, up_to_picked, writing_cases, new_there, precedes_stays}
use Rattle.model.proofs.Growth.{one_event_more, order_put_in, locations_stay}
use Rattle.model.proofs.WellFormed.{WellFormed, listed_not_next}

-- Thread order and reads-from lie in SC order.
pub thread_order_in_sc : {g : Graph} {a b : Id} → ThreadOrder g a b → ScEdge g a b
thread_order_in_sc h = happens_before (edge (thread_order h))

pub reads_from_in_sc : {g : Graph} (a b : Id) → ReadsFrom g a b → ScEdge g a b
reads_from_in_sc a b h = happens_before (edge (reads_from h))

-- An access that does not write reads.
pub unwriting_reads : (a : Action) (x u : ℕ) (w : Id) → writing a ≡ false → source_of (some (event_of a x u w)) ≡ some w
unfolding writing source_of event_of
unwriting_reads reads x u w h = refl
unwriting_reads (writes v) x u w h = absurd (let z : ◌≡◌ {A = ℕ} 0 1 = cc in omega arith)
unwriting_reads (updates v) x u w h = absurd (let z : ◌≡◌ {A = ℕ} 0 1 = cc in omega arith)

-- The new event comes after the starting writes and the events of its thread, and in thread order after nothing else;
module _ {g : Graph} (d : Addition g) where
  next_there : length (events_of g d.thread) < length (events_of (grown d) d.thread)
  next_there = omega (arith, one_event_more d)

  pub start_before_new : {x : ℕ} → x < length g.orders → ThreadOrder (grown d) (start x) (new_id d)
  start_before_new {x} h = starting (subst⁻¹ (λ n. x < n) (locations_stay d) h) next_there

  pub own_before_new : {a : Id} → Member a (thread_events g d.thread) → ThreadOrder (grown d) a (new_id d)
  own_before_new m =
      let r = place_of_own g d.thread m in
      subst⁻¹ (λ a. ThreadOrder (grown d) a (new_id d)) r.2 (within r.1 next_there)

  pub in_thread_before_new : {a b : Id} → ThreadOrder (grown d) a b → b ≡ new_id d
      → ((x : ℕ) × (x < length g.orders) × (a ≡ start x)) ⊎ Member a (thread_events g d.thread)
  in_thread_before_new (starting {x = x} l h) q = inl (x, subst (λ n. x < n) (locations_stay d) l, refl)
  in_thread_before_new (within {t = u} {i = i} {j = j} l h) q =
      let q₁ : u ≡ d.thread = cc in
      let q₂ : j ≡ length (events_of g d.thread) = cc in
      inr (subst⁻¹ (λ v. Member (event v i) (thread_events g d.thread)) q₁ (own_event g d.thread i (omega arith)))

  -- after the write that it picked;
  pub picked_listed_first : writing d.action ≡ true → ModificationOrder (grown d) d.picked (new_id d)
  picked_listed_first w =
      at d.location
      (subst⁻¹ (Precedes d.picked (new_id d)) (order_put_in d w)
      (precedes_put_in (up_to_picked d) (new_id d) d.after (member_put_in d.before d.picked [])))

  pub picked_read : writing d.action ≡ false → ReadsFrom (grown d) d.picked (new_id d)
  picked_read w = ap source_of (new_there d) ∙ unwriting_reads d.action d.location _ d.picked w

  pub picked_before_new : ScEdge (grown d) d.picked (new_id d)
  picked_before_new =
      ⊎_elim (λ w. modification_order (picked_listed_first w))
      (λ w. reads_from_in_sc d.picked (new_id d) (picked_read w))
      (writing_cases d.action)

-- and before what stood after the write that it picked.
module _ {g : Graph} (f : WellFormed g) (d : Addition g) where
  pub new_before_later : {v : Id} → Member v d.after → ScEdge (grown d) (new_id d) v
  new_before_later {v} m = ⊎_elim writes' reads' (writing_cases d.action)
    where
      writes' : writing d.action ≡ true → ScEdge (grown d) (new_id d) v
      writes' w =
          modification_order
          (at d.location
          (subst⁻¹ (Precedes (new_id d) v) (order_put_in d w)
          (precedes_after (up_to_picked d) (new_id d) m)))

      listed : Member v (order g d.location)
      listed = subst⁻¹ (Member v) d.split (Memᴰ.append_right d.before (Member.tail m))

      reads' : writing d.action ≡ false → ScEdge (grown d) (new_id d) v
      reads' w =
          from_read
          (record {
            source = d.picked;
            read = picked_read d w;
            later =
                at d.location
                (precedes_stays d d.location
                (subst⁻¹ (Precedes d.picked v) d.split (precedes_after d.before d.picked m)));
            other = λ q. listed_not_next f d.thread d.location v listed (sym q);
          })
