-- The answer of the checker in eight numbers, for C and Rust. order_check.h says the same in words.
use Rattle.std.specs.Prelude.{ℕ, ◌≡◌, List, [], ◌∷◌, length}
use Rattle.program.specs.Program.{Program}
use Rattle.program.specs.Steps.{kind_number}
use Rattle.program.specs.Outcome.{Outcome}
use Rattle.rules.specs.declared.Ending.{Ending}
use Rattle.program.specs.ThreadNumber.{thread_number}
use Rattle.verdicts.specs.Number.{check_number}
use Rattle.verdicts.specs.declared.Report.{Report}
use Rattle.verdicts.specs.declared.Report.TheVariants.{Robust, Ended, Full, Short, Refused}
use Rattle.verdicts.specs.Answer.{report_to}
use Rattle.verdicts.specs.Checked.{Checked}

-- Verdict, number, count, steps, thread, kind, location and value.
abbrev pub eight : (verdict number count steps thread kind location value : ℕ) → List ℕ
eight verdict number count steps thread kind location value =
    verdict ∷ number ∷ count ∷ steps ∷ thread ∷ kind ∷ location ∷ value ∷ []

-- NR. The thread is told from 1.
unfoldable pub ending_numbers : (count steps : ℕ) → Ending → List ℕ
ending_numbers count steps e =
    eight 1 0 count steps (thread_number e.thread) (kind_number e.kind) e.location e.value

-- Each report in these numbers; what it does not use is 0.
unfoldable pub numbers_of : Report → List ℕ
numbers_of (Robust count) = eight 0 0 count 0 0 0 0 0
numbers_of (Ended count steps e) = ending_numbers count steps e
numbers_of (Full count) = eight 2 (check_number (Full count)) count 0 0 0 0 0
numbers_of (Short wanted) = eight 3 (check_number (Short wanted)) 0 wanted 0 0 0 0
numbers_of (Refused number) = eight 3 (check_number (Refused number)) 0 0 0 0 0 0

-- The numbers are those of the definition's report for the bytes and the two lent lengths, and all that the checker
-- promises holds of that report.
pub record Told (o : Outcome Program) (lent_table table lent_trace trace numbers : List ℕ) : Type 0 where
  pub told : numbers ≡ numbers_of (report_to o (length lent_table) (length lent_trace))
  pub checked : Checked o lent_table table lent_trace trace (report_to o (length lent_table) (length lent_trace))
