-- Laws of Outcome: what check and and_then come to, and what an accepted outcome says of their parts.
use Prim.Native.Nat.{ℕ}
use mathlib.Core.Bool.{Bool, true, false}
use mathlib.Core.Path.{◌≡◌, refl}
use native.Mathlib.Omega.{arith}
use Rattle.program.specs.Outcome.{Outcome, check, and_then}
use Rattle.program.specs.Outcome.Outcome.{refused, accepted}

module _ {A : Type 0} where
  pub accepted_injective : {a b : A} → accepted a ≡ accepted b → a ≡ b
  accepted_injective e = cc

  pub refused_is_not_accepted : {k : ℕ} {a : A} → refused k ≡ accepted a → ⊥
  refused_is_not_accepted e = let z : ◌≡◌ {A = ℕ} 0 1 = cc in omega arith

  pub check_passes : (k : ℕ) (b : Bool) (rest : Outcome A) → b ≡ true → check k b rest ≡ rest
  unfolding check
  check_passes k b rest e = rw e

  pub check_accepted : (k : ℕ) (b : Bool) (rest : Outcome A) {a : A}
      → check k b rest ≡ accepted a → (b ≡ true) × (rest ≡ accepted a)
  unfolding check
  check_accepted k true rest e = (refl, e)
  check_accepted k false rest e = absurd (refused_is_not_accepted e)

module _ {A B : Type 0} where
  pub and_then_goes_on : (o : Outcome A) (f : A → Outcome B) {a : A} → o ≡ accepted a → and_then o f ≡ f a
  unfolding and_then
  and_then_goes_on o f e = rw e

  pub and_then_stops : (o : Outcome A) (f : A → Outcome B) {k : ℕ} → o ≡ refused k → and_then o f ≡ refused k
  unfolding and_then
  and_then_stops o f e = rw e

  pub and_then_accepted : (o : Outcome A) (f : A → Outcome B) {b : B}
      → and_then o f ≡ accepted b → (a : A) × (o ≡ accepted a) × (f a ≡ accepted b)
  unfolding and_then
  and_then_accepted (accepted a) f e = (a, refl, e)
  and_then_accepted (refused k) f e = absurd (refused_is_not_accepted e)
