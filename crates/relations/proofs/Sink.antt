-- A relation that grows by edges into one vertex without outgoing edges, a sink.
use mathlib.Core.Path.{◌≡◌, subst}
use mathlib.Core.Logic.{◌⊎◌, inl, inr, ⊎_elim}
use Rattle.relations.specs.Closure.{Relation, Closure, edge, further, IsOrBefore}
use Rattle.relations.proofs.Laws.{closure_grows, first_edge, last_edge, before_joins}

-- S is R with edges into e, from which no edge goes out.
pub record Sink {A : Type 0} (R S : Relation A) (e : A) : Type 0 where
  pub kept : (a b : A) → R a b → S a b
  pub no_way_out : (b : A) → S e b → ⊥
  pub new_end_there : (a b : A) → S a b → (b ≡ e) ⊎ R a b

module _ {A : Type 0} {R S : Relation A} {e : A} (sink : Sink R S e) where
  pub sink_has_no_way_out : {b : A} → Closure S e b → ⊥
  sink_has_no_way_out p = let f = first_edge p in sink.no_way_out f.0 f.1

  -- Between old vertices nothing changes.
  pub old_or_into_sink : {a b : A} → Closure S a b → (b ≡ e) ⊎ Closure R a b
  old_or_into_sink {a} (edge {b = b} r) = ⊎_elim inl (λ o. inr (edge o)) (sink.new_end_there a b r)
  old_or_into_sink {a} (further {b = b} {c = c} p r) =
      ⊎_elim inl
      (λ o. ⊎_elim (λ q. absurd (sink.no_way_out c (subst (λ x. S x c) q r))) (λ q. inr (further q o))
      (old_or_into_sink p))
      (sink.new_end_there b c r)

  pub old_way : {a b : A} → (b ≡ e → ⊥) → Closure S a b → Closure R a b
  old_way n p = ⊎_elim (λ q. absurd (n q)) (λ q. q) (old_or_into_sink p)

  pub way_kept : {a b : A} → Closure R a b → Closure S a b
  way_kept = closure_grows sink.kept

  -- What comes before the sink is, or comes before, a direct predecessor of it.
  pub before_sink : {a : A} → Closure S a e → (b : A) × S b e × IsOrBefore (Closure R) a b
  before_sink p =
      let l = last_edge p in (
        l.0,
        l.1,
        ⊎_elim inl (λ w. inr (old_way (λ q. sink.no_way_out e (subst (λ x. S x e) q l.1)) w)) l.2,
      )

  pub reach_sink : {a b : A} → S b e → IsOrBefore (Closure R) a b → Closure S a e
  reach_sink r h = before_joins (⊎_elim inl (λ w. inr (way_kept w)) h) (edge r)

  -- A sink closes no cycle.
  pub sink_keeps_acyclic : ((a : A) → Closure R a a → ⊥) → (a : A) → Closure S a a → ⊥
  sink_keeps_acyclic old a p =
      ⊎_elim (λ q. sink_has_no_way_out (subst (λ x. Closure S x a) q p)) (λ q. old a q) (old_or_into_sink p)

  -- The closures themselves are again such a pair.
  pub closure_sink : Sink (Closure R) (Closure S) e
  closure_sink =
      record { kept = λ a b. way_kept; no_way_out = λ b. sink_has_no_way_out; new_end_there = λ a b. old_or_into_sink }
