-- The atomicity of read-modify-writes: in every release/acquire run a read-modify-write stands directly after the write
-- that it reads.
use mathlib.Core.Path.{◌≡◌, sym, ap, ◌∙◌, subst, subst⁻¹}
use mathlib.Core.Bool.{true, false, true≢false}
use mathlib.Core.List.{List, ◌∷◌, ◌++◌}
use mathlib.Core.Option.{some}
use mathlib.Core.Logic.{⊎_elim}
use Prim.Native.Nat.{ℕ}
use native.Mathlib.Omega.{arith}
use Rattle.program.specs.Program.{Program}
use Rattle.program.specs.Thread.{Action, reads, writes, updates, writing}
use Rattle.model.specs.Graph.{Id, write_e, update_e, Graph, order, event_at, is_update, event_of, start_graph}
use Rattle.model.specs.Run.{State, start_state, state_after, after_local, starts_with_update}
use Rattle.model.specs.Run.{local_step, access_step, no_step, and_step, RaStep, RaRun}
use Rattle.model.proofs.Growth.{Addition, new_id, new_event, grown, up_to_picked, OrderAfter, unchanged, put_in}
use Rattle.model.proofs.Growth.{order_put_in, order_after, there_old_or_new}
use Rattle.model.proofs.FenceLocation.{update_writes}
use Rattle.model.proofs.Start.{start_event_is}
use Rattle.model.proofs.Reachable.{Good, addition_of, graph_grown, run_good}
use Rattle.machine.proofs.Place.{DirectlyAfter, put_in_directly_after, directly_after_inserted}

-- Each read-modify-write stands directly after the write that it reads.
record Atomic (g : Graph) : Type 0 where
  follows : (a : Id) {x u v : ℕ} {w : Id} → event_at g a ≡ some (update_e x u v w) → DirectlyAfter w a (order g x)

start_atomic : (p : Program) → Atomic (start_graph p)
start_atomic p = record { follows = λ a h. absurd (no_update (start_event_is p a h).2) }
  where
    no_update : {x u v y : ℕ} {w : Id} → update_e x u v w ≡ write_e y 0 → ⊥
    no_update q = let z : ◌≡◌ {A = ℕ} 0 1 = cc in omega arith

-- A new event that is a read-modify-write comes of one, at the access's location, and reads the picked write.
pub new_update : (a : Action) (x u : ℕ) (w : Id) {x' u' v' : ℕ} {w' : Id} → update_e x' u' v' w' ≡ event_of a x u w
    → (a ≡ updates v') × (x' ≡ x) × (w' ≡ w)
unfolding event_of
new_update reads x u w h = absurd (let z : ◌≡◌ {A = ℕ} 0 1 = cc in omega arith)
new_update (writes v) x u w h = absurd (let z : ◌≡◌ {A = ℕ} 0 1 = cc in omega arith)
new_update (updates v) x u w h = ((cc), (cc), (cc))

-- A list that does not start with a read-modify-write does not start with this one.
starts_with_another : (g : Graph) (after : List Id) (a : Id) {x u v : ℕ} {w : Id} → starts_with_update g after ≡ false
    → event_at g a ≡ some (update_e x u v w) → (rest : List Id) → after ≡ a ∷ rest → ⊥
unfolding starts_with_update is_update
starts_with_another g after a n h rest q =
    true≢false (sym (ap is_update h) ∙ sym (ap (starts_with_update g) q) ∙ n)

-- No write comes between an older read-modify-write and its write, and a new one is put in directly after its own.
module _ {g : Graph} (d : Addition g) (unfollowed : writing d.action ≡ true → starts_with_update g d.after ≡ false)
    (old : Atomic g) where
  follows_still : (a : Id) {x u v : ℕ} {w : Id} → event_at (grown d) a ≡ some (update_e x u v w)
      → DirectlyAfter w a (order (grown d) x)
  follows_still a {x} {u} {v} {w} h = ⊎_elim fresh (λ k. kept k (order_after d x)) (there_old_or_new d a h)
    where
      fresh : (a ≡ new_id d) × (update_e x u v w ≡ new_event d) → DirectlyAfter w a (order (grown d) x)
      fresh n =
          let r = new_update d.action d.location _ d.picked n.1 in
          subst⁻¹ (λ y. DirectlyAfter w a (order (grown d) y)) r.1
          (subst⁻¹ (λ l. DirectlyAfter w a l) (order_put_in d (update_writes d.action r.0))
          (subst⁻¹ (λ b. DirectlyAfter w b (up_to_picked d ++ new_id d ∷ d.after)) n.0
          (subst⁻¹ (λ b. DirectlyAfter b (new_id d) (up_to_picked d ++ new_id d ∷ d.after)) r.2
          (put_in_directly_after d.before d.picked (new_id d) d.after))))

      kept : event_at g a ≡ some (update_e x u v w) → OrderAfter d x → DirectlyAfter w a (order (grown d) x)
      kept k (unchanged o) = subst⁻¹ (λ l. DirectlyAfter w a l) o (old.follows a k)
      kept k (put_in q wr o n) =
          subst⁻¹ (λ l. DirectlyAfter w a l) n
          (directly_after_inserted (up_to_picked d) (new_id d) d.after
          (starts_with_another g d.after a (unfollowed wr) k)
          (subst (λ l. DirectlyAfter w a l) o (old.follows a k)))

  atomic_grows : Atomic (grown d)
  atomic_grows = record { follows = follows_still }

step_atomic : {p : Program} {t : ℕ} {s s' : State} → Good p s → RaStep p t s s' → Atomic s.graph → Atomic s'.graph
unfolding after_local state_after
step_atomic f (local_step q l e) old = subst⁻¹ (λ (c : State). Atomic c.graph) e old
step_atomic f (access_step m r e) old =
    subst⁻¹ (λ (c : State). Atomic c.graph) e
    (subst⁻¹ Atomic (graph_grown f m) (atomic_grows (addition_of f m) r.unfollowed old))

run_atomic : {p : Program} {schedule : List ℕ} {s : State} → RaRun p schedule s → Atomic s.graph
unfolding start_state
run_atomic {p} no_step = start_atomic p
run_atomic (and_step r k) = step_atomic (run_good r) k (run_atomic r)

-- The atomicity of read-modify-writes.
pub update_follows_its_write : {p : Program} {schedule : List ℕ} {s : State} → RaRun p schedule s → (a : Id)
    {x u v : ℕ} {w : Id} → event_at s.graph a ≡ some (update_e x u v w) → DirectlyAfter w a (order s.graph x)
update_follows_its_write r = (run_atomic r).follows
