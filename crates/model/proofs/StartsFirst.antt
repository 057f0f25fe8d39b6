-- Nothing comes before a starting write: in happens-before, in a modification order, in SC order.
use mathlib.Core.Path.{◌≡◌, refl, subst, subst⁻¹}
use mathlib.Core.List.{List, ◌∷◌, Memᴰ as Member}
use mathlib.Core.Logic.{⊎_elim}
use Prim.Native.Nat.{ℕ, ◌<◌}
use lib.ListN.{length}
use Rattle.relations.specs.Closure.{Precedes, here}
use Rattle.relations.proofs.Laws.{last_edge}
use Rattle.relations.proofs.Precedes.{precedes_cases, precedes_members}
use Rattle.model.specs.Graph.{Id, start, Graph, order}
use Rattle.model.specs.Order.{ThreadOrder, ModificationOrder, at, HappensEdge, thread_order, reads_from}
use Rattle.model.specs.Order.{HappensBefore, ScEdge, happens_before, modification_order, from_read, ScOrder}
use Rattle.model.proofs.Lookup.{start_is, start_reads_nothing}
use Rattle.model.proofs.WellFormed.{writes_to, WellFormed}

start_is_first : {g : Graph} {a : Id} (z : ℕ) → ThreadOrder g a (start z) → ⊥
start_is_first z h = elim h [ ]

no_edge_to_start : {g : Graph} {a : Id} (z : ℕ) → HappensEdge g a (start z) → ⊥
no_edge_to_start z (thread_order h) = start_is_first z h
no_edge_to_start {g} z (reads_from h) = start_reads_nothing g z h

pub nothing_happens_before_start : {g : Graph} {a : Id} (z : ℕ) → HappensBefore g a (start z) → ⊥
nothing_happens_before_start z h = no_edge_to_start z (last_edge h).1

module _ {g : Graph} (f : WellFormed g) where
  -- A starting write stands first in its order.
  pub nothing_precedes_start : (y z : ℕ) {a : Id} → Precedes a (start z) (order g y) → ⊥
  unfolding writes_to
  nothing_precedes_start y z {a} h =
      let w = f.listed_writes y (start z) (precedes_members (order g y) h).1 in
      let r = start_is g z w.there in
      let q : z ≡ y = cc (w.to, r.0) in
      let o = f.headed y (subst (λ n. n < length g.orders) q r.1) in
      twice y o.0 o.1 (subst (λ n. Precedes a (start n) (order g y)) q h)
    where
      twice : (y : ℕ) (rest : List Id) → order g y ≡ start y ∷ rest → Precedes a (start y) (order g y) → ⊥
      twice y rest q k =
          ⊎_elim (λ m. again m.1) (λ m. again (precedes_members rest m).1)
          (precedes_cases (subst (Precedes a (start y)) q k))
        where
          again : Member (start y) rest → ⊥
          again m = f.no_repeats y (start y) (subst⁻¹ (Precedes (start y) (start y)) q (here refl m))

  later_than_none : {a : Id} (z : ℕ) → ModificationOrder g a (start z) → ⊥
  later_than_none z (at y k) = nothing_precedes_start y z k

  no_sc_edge_to_start : {a : Id} (z : ℕ) → ScEdge g a (start z) → ⊥
  no_sc_edge_to_start z (happens_before k) = nothing_happens_before_start z k
  no_sc_edge_to_start z (modification_order k) = later_than_none z k
  no_sc_edge_to_start z (from_read k) = later_than_none z k.later

  pub nothing_sc_before_start : {a : Id} (z : ℕ) → ScOrder g a (start z) → ⊥
  nothing_sc_before_start z h = no_sc_edge_to_start z (last_edge h).1
