-- The numbers of a report, and those of the definition's.
use Prim.Native.Nat.{ℕ, ◌+◌}
use native.Mathlib.Numerals.{add-one}
use mathlib.Core.Path.{◌≡◌, ap, ap₂, sym, subst, ◌∙◌}
use mathlib.Core.List.{List}
use Rattle.program.specs.Program.{Program}
use Rattle.program.specs.Outcome.{Outcome}
use Rattle.program.specs.Steps.{kind_number}
use Rattle.rules.specs.declared.Ending.{Ending}
use Rattle.verdicts.specs.declared.Report.{Report}
use Rattle.verdicts.specs.declared.Report.TheVariants.{Ended}
use Rattle.verdicts.specs.Checked.{Checked}
use Rattle.order_check_c.specs.Answer.{eight, ending_numbers, numbers_of, Told}

pub witness_numbers : (count steps : ℕ) (e : Ending) {number : ℕ} → number ≡ kind_number e.kind
    → eight 1 0 count steps (e.thread + 1) number e.location e.value ≡ ending_numbers count steps e
unfolding ending_numbers
witness_numbers count steps e numbered =
    ap₂ (λ (t k : ℕ). eight 1 0 count steps t k e.location e.value) (add-one e.thread) numbered

pub ending_numbers_lem : {r : Report} {count steps : ℕ} {e : Ending} {numbers : List ℕ} → r ≡ Ended count steps e
    → numbers ≡ ending_numbers count steps e → numbers ≡ numbers_of r
unfolding numbers_of
ending_numbers_lem is told = told ∙ ap numbers_of (sym is)

pub all_told : {o : Outcome Program} {lent_table table lent_trace trace numbers : List ℕ} {r : Report}
    → Checked o lent_table table lent_trace trace r → numbers ≡ numbers_of r
    → Told o lent_table table lent_trace trace numbers
all_told {o} {lent_table} {table} {lent_trace} {trace} checked told =
    let is = checked.answered in
    record { told = told ∙ ap numbers_of is; checked = subst (Checked o lent_table table lent_trace trace) is checked }
