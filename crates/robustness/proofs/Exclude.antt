-- RB and NR exclude each other: Theorem 5.1 of source document 001, both ways.
use mathlib.Core.Path.{◌≡◌, refl}
use mathlib.Core.List.{List, [], ◌∷◌, ◌++◌}
use Prim.Native.Nat.{ℕ}
use Rattle.program.specs.Program.{Program}
use Rattle.program.specs.declared.Kind.{Kind}
use Rattle.model.specs.Run.{state_after, and_step}
use Rattle.model.specs.Witness.{NoWitness}
use Rattle.robustness.specs.Robust.{Robust, NotRobust}
use Rattle.robustness.proofs.NotRobust.{witness_not_robust}

pub not_both : {p : Program} {schedule : List ℕ} {t : ℕ} {kind : Kind} {x u : ℕ} → NotRobust p schedule t kind x u
    → Robust p → ⊥
unfolding state_after
not_both {schedule = schedule} {t = t} n r =
    let a = n.witness.access in
    let q = r (schedule ++ t ∷ []) (state_after a) (and_step n.weak_run n.weak_step) in
    n.beyond a n.witness.stale n.witness.of_value q.0 (state_after a) q.1 refl

pub robust_has_no_witness : (p : Program) → Robust p → NoWitness p
robust_has_no_witness p r schedule s t kind x u run w = not_both (witness_not_robust run w) r
