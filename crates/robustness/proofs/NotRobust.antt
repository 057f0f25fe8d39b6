-- NR: at a witness no SC run builds the graph after the stale access.
use mathlib.Core.Path.{◌≡◌, refl, sym, ap, ◌∙◌, subst, subst⁻¹}
use mathlib.Core.List.{List, [], ◌∷◌, ◌++◌, Memᴰ as Member}
use Prim.Native.Nat.{ℕ}
use Rattle.relations.specs.Closure.{edge, further}
use Rattle.relations.proofs.Laws.{closure_joins}
use Rattle.lists.proofs.Ends.{same_last, regroup_snoc, member_put_in}
use Rattle.program.specs.Program.{Program}
use Rattle.program.specs.declared.Kind.{Kind}
use Rattle.model.specs.Graph.{Id, order}
use Rattle.model.specs.Order.{ScOrder}
use Rattle.model.specs.Run.{State, Access, graph_after, access_step, ScRun}
use Rattle.model.specs.Witness.{Stale, Witness}
use Rattle.robustness.specs.Robust.{BeyondSc, NotRobust}
use Rattle.model.proofs.Growth.{Addition, new_id, grown, sc_order_grows}
use Rattle.model.proofs.NewEdges.{thread_order_in_sc, own_before_new, new_before_later}
use Rattle.model.proofs.Reachable.{Good, addition_of, graph_grown, run_good, sc_order_acyclic, sc_run_is_ra_run}
use Rattle.model.proofs.Reachable.{same_location}

-- Two stale accesses of a thread have the same newest write.
pub same_newest_write : {p : Program} {s : State} {t : ℕ} (a b : Access p s t) (k : Stale a) (l : Stale b)
    → k.newest ≡ l.newest
same_newest_write {p} {s} {t} a b k l =
    (same_last (a.before ++ a.picked ∷ k.between) (b.before ++ b.picked ∷ l.between) k.newest l.newest
    (sym (whole a k) ∙ ap (order s.graph) (same_location a b) ∙ whole b l)).1
  where
    whole : (c : Access p s t) (m : Stale c)
        → order s.graph c.location ≡ (c.before ++ c.picked ∷ m.between) ++ m.newest ∷ []
    whole c m =
        c.split ∙ ap (λ r. c.before ++ c.picked ∷ r) m.last ∙ regroup_snoc c.before c.picked m.between
        m.newest

module _ {p : Program} {schedule : List ℕ} {s : State} {t : ℕ} {kind : Kind} {x u : ℕ} (run : ScRun p schedule s)
    (w : Witness p s t kind x u) where
  -- Whichever stale write the thread's next line picks, no SC run of any length builds the graph after it.
  pub stale_access_beyond_sc : (a : Access p s t) → Stale a → BeyondSc p (graph_after a)
  stale_access_beyond_sc a k schedule' s' run' same =
      sc_order_acyclic run' (new_id d) (subst⁻¹ (λ g. ScOrder g (new_id d) (new_id d)) (same ∙ graph_grown f a) cycle)
    where
      f : Good p s
      f = run_good run

      d : Addition s.graph
      d = addition_of f a

      newest : Id
      newest = k.newest

      there : Member newest d.after
      there = subst⁻¹ (Member newest) k.last (member_put_in k.between newest [])

      known : ScOrder s.graph newest w.event
      known = subst (λ v. ScOrder s.graph v w.event) (same_newest_write w.access a w.stale k) w.known

      cycle : ScOrder (grown d) (new_id d) (new_id d)
      cycle =
          closure_joins (edge (new_before_later f.well_formed d there))
          (further (sc_order_grows d known) (thread_order_in_sc (own_before_new d w.own)))

  -- NR.
  pub witness_not_robust : NotRobust p schedule t kind x u
  witness_not_robust =
      record {
        state = s;
        run = run;
        weak_run = sc_run_is_ra_run run;
        witness = w;
        weak_step = access_step w.access w.allowed refl;
        beyond = λ a k q. stale_access_beyond_sc a k;
      }
