-- "Show that such a location is never the one named in an NR line": document 02, Point 5. Whatever stands after an older
-- write of a fence's location starts with a read-modify-write, so that no other may go directly after that write.
use mathlib.Core.Path.{◌≡◌, refl, sym, ap, ◌∙◌, subst, subst⁻¹}
use mathlib.Core.Bool.{true, false, true≢false}
use mathlib.Core.List.Memᴰ
use mathlib.Core.List.{List, [], ◌∷◌, ◌++◌, Memᴰ as Member}
use mathlib.Core.Option.{some}
use mathlib.Core.Logic.{◌⊎◌, inl, inr, ⊎_elim}
use Prim.Native.Nat.{ℕ, ◌<◌}
use native.Mathlib.Decide.{dec_lt}
use Rattle.lists.proofs.Ends.{split_not_nil}
use Rattle.relations.specs.Closure.{Precedes}
use Rattle.relations.proofs.Precedes.{precedes_after, precedes_members}
use Rattle.program.specs.Program.{Program, named_locations}
use Rattle.program.specs.Thread.{Action, updates, writing}
use Rattle.program.specs.Within.{Valid}
use Rattle.program.proofs.Located.{unnamed_is_updated}
use Rattle.program.specs.declared.Kind.{Kind}
use Rattle.model.specs.Graph.{Id, start, Graph, order, event_at, is_update, event_of, start_graph}
use Rattle.model.specs.Run.{State, start_state, thread_of, Access, state_after, graph_after, after_local, starts_with_update}
use Rattle.model.specs.Run.{Rule, Step, local_step, access_step, Run, no_step, and_step}
use Rattle.model.specs.Witness.{Witness, NamedOnly}
use Rattle.model.proofs.Growth.{new_event, grown, member_old_or_new, new_there}
use Rattle.model.proofs.WellFormed.{listed_event_stays}
use Rattle.model.proofs.StartsFirst.{nothing_precedes_start}
use Rattle.model.proofs.Start.{start_orders}
use Rattle.model.proofs.Reachable.{Good, addition_of, graph_grown, run_good}

-- Each write of x but the starting one is a read-modify-write.
abbrev Updated : Graph → ℕ → Type 0
Updated g x = (a : Id) → Member a (order g x) → (a ≡ start x) ⊎ (is_update (event_at g a) ≡ true)

update_is_update : (a : Action) (x u : ℕ) (w : Id) {v : ℕ} → a ≡ updates v → is_update (some (event_of a x u w)) ≡ true
unfolding is_update event_of
update_is_update a x u w q = ap (λ b. is_update (some (event_of b x u w))) q

pub update_writes : (a : Action) {v : ℕ} → a ≡ updates v → writing a ≡ true
unfolding writing
update_writes a q = ap writing q

module _ {p : Program} (valid : Valid p) (x : ℕ) (unnamed : x < named_locations p → ⊥) where
  start_updated : Updated (start_graph p) x
  start_updated a m =
      inl
      (⊎_elim (λ o. Memᴰ.eq_of_singleton (subst (Member a) o.1 m))
      (λ o. absurd (Memᴰ.not-nil (subst (Member a) o m))) (start_orders p x))

  access_updated : {s : State} {t : ℕ} → Good p s → (m : Access p s t) → Updated s.graph x → Updated (graph_after m) x
  access_updated {s} {t} f m old =
      let d = addition_of f m in
      subst⁻¹ (λ g. Updated g x) (graph_grown f m) (λ a there. ⊎_elim
      (λ n. inr (ap (λ b. is_update (event_at (grown d) b)) n.0 ∙ ap is_update (new_there d) ∙ new n.1))
      (λ k. ⊎_elim inl (λ e. inr (ap is_update (listed_event_stays f.well_formed d x a k) ∙ e)) (old a k))
      (member_old_or_new d x there))
    where
      new : x ≡ m.location → is_update (some (new_event (addition_of f m))) ≡ true
      new here =
          update_is_update m.effect.action m.location _ m.picked
          (unnamed_is_updated valid t (thread_of s t) m.line (λ h. unnamed (subst⁻¹ (λ y. y < named_locations p) here h))
          _ m.allows).1

  step_updated : {rule : Rule} {t : ℕ} {s s' : State} → Good p s → Step p rule t s s' → Updated s.graph x
      → Updated s'.graph x
  unfolding after_local state_after
  step_updated f (local_step q l e) old = subst⁻¹ (λ (c : State). Updated c.graph x) e old
  step_updated f (access_step m r e) old = subst⁻¹ (λ (c : State). Updated c.graph x) e (access_updated f m old)

  run_updated : {rule : Rule} {schedule : List ℕ} {s : State} → Run p rule schedule s → Updated s.graph x
  unfolding start_state
  run_updated no_step = start_updated
  run_updated (and_step r k) = step_updated (run_good r) k (run_updated r)

-- What stands after a write there starts with a read-modify-write.
starts_with_update_lem : {p : Program} {s : State} → Good p s → (x : ℕ) → Updated s.graph x → (before after : List Id) (w : Id)
    → order s.graph x ≡ before ++ w ∷ after → (after ≡ [] → ⊥) → starts_with_update s.graph after ≡ true
unfolding starts_with_update
starts_with_update_lem f x updated before [] w split older = absurd (older refl)
starts_with_update_lem {s = s} f x updated before (v ∷ after) w split older =
    let follows = subst⁻¹ (λ l. Precedes w v l) split (precedes_after before w (Member.head refl)) in
    ⊎_elim (λ q. absurd (nothing_precedes_start f.well_formed x x (subst (λ a. Precedes w a (order s.graph x)) q follows)))
    (λ e. e) (updated v (precedes_members (order s.graph x) follows).1)

-- The location of a witness is a named one, in whichever run it is found.
pub witness_named : {p : Program} → Valid p → {rule : Rule} {schedule : List ℕ} {s : State} → Run p rule schedule s
    → {t : ℕ} {kind : Kind} {x u : ℕ} → Witness p s t kind x u → x < named_locations p
witness_named {p} valid {s = s} run {t} {x = x} w = go (dec_lt x (named_locations p))
  where
    go : Dec (x < named_locations p) → x < named_locations p
    go (yes h) = h
    go (no h) =
        let m = w.access in
        let unnamed : m.location < named_locations p → ⊥ = λ k. h (subst (λ y. y < named_locations p) w.of_location k) in
        let updating = unnamed_is_updated valid t (thread_of s t) m.line unnamed _ m.allows in
        let older : m.after ≡ [] → ⊥ =
        λ q. split_not_nil w.stale.between w.stale.newest [] (sym q ∙ w.stale.last) in
        absurd
        (true≢false
        (sym (starts_with_update_lem (run_good run) m.location (run_updated valid m.location unnamed run) m.before
        m.after m.picked m.split older)
        ∙ w.allowed.unfollowed (update_writes m.effect.action updating.1)))

pub fence_never_named : {p : Program} → Valid p → NamedOnly p
fence_never_named valid schedule s t kind x u run w = witness_named valid run w
