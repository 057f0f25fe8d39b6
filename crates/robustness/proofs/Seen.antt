-- What a thread has seen in SC order: what is, or comes before, one of its events. It stays seen, and conflicting
-- accesses pass it on.
use mathlib.Core.Path.{◌≡◌, refl, sym, ap, ◌∙◌, subst, subst⁻¹}
use mathlib.Core.Bool.{true, false}
use mathlib.Core.List.{[]}
use mathlib.Core.Logic.{inl, inr, ⊎_elim, ◌≢◌}
use Prim.Native.Nat.{ℕ}
use Rattle.relations.specs.Closure.{edge, IsOrBefore, Reaches}
use Rattle.relations.proofs.Laws.{before_joins, reaches_moves}
use Rattle.lists.proofs.Ends.{same_last}
use Rattle.program.specs.Thread.{writing}
use Rattle.program.specs.Program.{Program}
use Rattle.model.specs.Graph.{Id, Graph, order, thread_events}
use Rattle.model.specs.Order.{HappensBefore, from_read, ScEdge, ScOrder, ModificationOrder}
use Rattle.model.specs.Run.{State, graph_after, state_after, after_local, Rule, Step, local_step, access_step}
use Rattle.model.proofs.Growth.{Addition, new_id, grown, happens_before_grows, sc_order_grows, reads_from_grows}
use Rattle.model.proofs.Growth.{own_id_stays, new_is_own, order-grown, order_kept, picked_last, own_old_or_new}
use Rattle.model.proofs.NewEdges.{thread_order_in_sc, own_before_new, picked_before_new, picked_listed_first}
use Rattle.model.proofs.NewEdges.{picked_read}
use Rattle.model.proofs.Reachable.{Good, addition_of}

-- v is, or comes in SC order before, an event of thread t.
abbrev pub Seen : Graph → ℕ → Id → Type 0
Seen g t v = Reaches (ScOrder g) (thread_events g t) v

module _ {g : Graph} (d : Addition g) where
  pub seen_grows : (u : ℕ) {v : Id} → Seen g u v → Seen (grown d) u v
  seen_grows u = reaches_moves (λ b m. (own_id_stays d u m, sc_order_grows d))

  pub happens_seen_grows : (u : ℕ) {v : Id} → Reaches (HappensBefore g) (thread_events g u) v
      → Reaches (HappensBefore (grown d)) (thread_events (grown d) u) v
  happens_seen_grows u = reaches_moves (λ b m. (own_id_stays d u m, happens_before_grows d))

  pub new_is_seen : Seen (grown d) d.thread (new_id d)
  new_is_seen = record { target = new_id d; listed = new_is_own d; way = inl refl }

  -- What the thread has seen after its access comes before the access, or is it.
  pub seen_before_new : {v : Id} → Seen (grown d) d.thread v → IsOrBefore (ScOrder (grown d)) v (new_id d)
  seen_before_new {v} h =
      ⊎_elim (λ q. subst (IsOrBefore (ScOrder (grown d)) v) q h.way)
      (λ m. inr (before_joins h.way (edge (thread_order_in_sc (own_before_new d m))))) (own_old_or_new d h.listed)

pub step_seen_grows : {p : Program} {rule : Rule} {t : ℕ} {s s' : State} → Good p s → Step p rule t s s'
    → (u : ℕ) {v : Id} → Seen s.graph u v → Seen s'.graph u v
unfolding after_local state_after graph_after
step_seen_grows f (local_step q l e) u {v} h = subst⁻¹ (λ (c : State). Seen c.graph u v) e h
step_seen_grows f (access_step a r e) u {v} h =
    subst⁻¹ (λ (c : State). Seen c.graph u v) e (seen_grows (addition_of f a) u h)

-- Two accesses in a row at one location, the second with the newest write, of which one writes: an edge of SC order
-- joins them.
module _ {g : Graph} (d : Addition g) (e : Addition (grown d)) (newest : d.after ≡ []) (last : e.after ≡ [])
    (n : d.thread ≢ e.thread) (same : d.location ≡ e.location) where
  picks_new : writing d.action ≡ true → e.picked ≡ new_id d
  picks_new w =
      sym (same_last (order g d.location) e.before (new_id d) e.picked
      (sym (order-grown d newest w) ∙ ap (order (grown d)) same ∙ picked_last e last)).1

  picks_same : writing d.action ≡ false → e.picked ≡ d.picked
  picks_same w =
      sym (same_last d.before e.before d.picked e.picked
      (sym (picked_last d newest) ∙ sym (order_kept d w d.location) ∙ ap (order (grown d)) same
      ∙ picked_last e last)).1

  pub conflict_after_write : writing d.action ≡ true → ScEdge (grown e) (new_id d) (new_id e)
  conflict_after_write w = subst (λ a. ScEdge (grown e) a (new_id e)) (picks_new w) (picked_before_new e)

  pub conflict_after_read : writing d.action ≡ false → writing e.action ≡ true
      → ScEdge (grown e) (new_id d) (new_id e)
  conflict_after_read w k =
      from_read
      (record {
        source = d.picked;
        read = reads_from_grows e d.picked (new_id d) (picked_read d w);
        later = subst (λ a. ModificationOrder (grown e) a (new_id e)) (picks_same w) (picked_listed_first e k);
        other = λ q. n (let r : d.thread ≡ e.thread = cc in r);
      })
