-- The witness that is found is the first of all.
use Prim.Native.Nat.{ℕ}
use mathlib.Core.Path.{◌≡◌, refl, ap, sym, ◌∙◌}
use mathlib.Core.List.{List}
use mathlib.Core.Option.{Option, none, some, map}
use mathlib.Core.Logic.{◌⊎◌}
use Rattle.program.specs.Program.{Program}
use Rattle.program.specs.declared.Kind.{Kind}
use Rattle.program.specs.Within.{Valid}
use Rattle.model.specs.Run.{State, ScRun}
use Rattle.model.specs.Witness.{Witness}
use Rattle.rules.specs.Situation.{Situation}
use Rattle.rules.specs.declared.Ending.{Ending}
use Rattle.rules.specs.Test.{ending_on}
use Rattle.situations.specs.Situation.{situation_of}
use Rattle.situations.specs.Schedule.{situation_by}
use Rattle.situations.specs.Verdict.{named}
use Rattle.situations.proofs.Reached.{run_has_state}
use Rattle.situations.proofs.Named.{unnamed_is_free}
use Rattle.situations.proofs.TestNamed.{named_on_situation}
use Rattle.numbering.specs.Schedule.{Earlier}
use Rattle.numbering.specs.Numbering.{Entry}
use Rattle.numbering.specs.Verdict.{Verdict, found}
use Rattle.numbering.proofs.Verdicts.{found_is_first}
use Rattle.verdicts.specs.Search.{verdict_of}
use Rattle.verdicts.proofs.SearchLaws.{steps_of, verdict_on_situations}

pub found_is_earliest : {p : Program} (valid : Valid p) (N : ℕ) (x : Entry Situation) (e : Ending)
    → (verdict_of p N).outcome ≡ found x e → (l : List ℕ) (s : State) {t : ℕ} {k : Kind} {y u : ℕ} → ScRun p l s
    → Witness p s t k y u → (l ≡ x.path) ⊎ Earlier x.path l
unfolding situation_by
found_is_earliest {p} valid N x e h l s run w = go (named p s) refl
  where
    go : (o : Option Ending) → named p s ≡ o → (l ≡ x.path) ⊎ Earlier x.path l
    go none q = absurd (unnamed_is_free valid run w q)
    go (some d) q =
        (found_is_first (steps_of valid) (ending_on p) N x e
        (ap (λ (v : Verdict (Entry Situation) Ending). v.outcome) (sym (verdict_on_situations valid N)) ∙ h)).earliest l
        (situation_of p s) d (ap (map (situation_of p)) (run_has_state run)) (sym (named_on_situation valid run) ∙ q)
