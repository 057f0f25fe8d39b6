-- Parts read one after another: the step of read_lines and of read_threads.
use Prim.Native.Nat.{ℕ}
use mathlib.Core.List.{List, ◌∷◌}
use mathlib.Core.Path.{◌≡◌, ◌∙◌}
use Rattle.program.specs.Outcome.{Outcome, and_then}
use Rattle.program.specs.Outcome.Outcome.{accepted}
use Rattle.program.proofs.OutcomeLaws.{accepted_injective}
use Rattle.program.proofs.OutcomeLaws.{and_then_goes_on, and_then_accepted}

-- One part and then the others, each read with the bytes after it.
abbrev pub read_more : {A : Type 0} → Outcome (A × List ℕ) → (List ℕ → Outcome (List A × List ℕ))
    → Outcome (List A × List ℕ)
read_more one others =
    and_then one (λ first. and_then (others first.1) (λ more. accepted (first.0 ∷ more.0, more.1)))

module _ {A : Type 0} (one : Outcome (A × List ℕ)) (others : List ℕ → Outcome (List A × List ℕ)) where
  pub more_accepted : {got : List A × List ℕ}
      → read_more one others ≡ accepted got
      → (first : A × List ℕ)
      × (more : List A × List ℕ)
      × (one ≡ accepted first)
      × (others first.1 ≡ accepted more)
      × ((first.0 ∷ more.0, more.1) ≡ got)
  more_accepted e =
      let (first, at_first, then) = and_then_accepted one _ e in
      let (more, at_others, end) = and_then_accepted (others first.1) _ then in
      (first, more, at_first, at_others, accepted_injective end)

  pub more_read : {a : A} {parts : List A} {mid rest : List ℕ}
      → one ≡ accepted (a, mid)
      → others mid ≡ accepted (parts, rest)
      → read_more one others ≡ accepted (a ∷ parts, rest)
  more_read at_first at_others = and_then_goes_on one _ at_first ∙ and_then_goes_on _ _ at_others
