-- "Hosts that get 10 lend the wanted length and call again": what the second call hands back, by the promises of both.
use Prim.Native.Nat.{ℕ, ◌*◌, ◌≤◌, ◌<◌}
use native.Mathlib.Omega.{arith}
use mathlib.Core.Path.{◌≡◌, refl, ap, sym, ◌∙◌}
use mathlib.Core.List.{List}
use lib.ListN.{length}
use Rattle.program.specs.Program.{Program}
use Rattle.program.specs.Outcome.{Outcome, accepted}
use Rattle.program.specs.Steps.{step_size}
use Rattle.rules.specs.declared.Ending.{Ending}
use Rattle.verdicts.specs.Answer.{verdict_in, report_to, table_after}
use Rattle.verdicts.specs.declared.Report.{Report}
use Rattle.verdicts.specs.declared.Report.TheVariants.{Ended, Short}
use Rattle.verdicts.specs.Promises.{Shown, Withheld}
use Rattle.verdicts.specs.Checked.{Checked}
use Rattle.verdicts.proofs.AnswerLaws.{short_is_read}

-- NR for the program that was read, in a table of that length, with all that it promises.
pub record GetsNotRobust (o : Outcome Program) (table_length wanted : ℕ) (trace : List ℕ) (r : Report) : Type 0 where
  pub program : Program
  pub read : o ≡ accepted program
  pub steps : ℕ
  pub exact : wanted ≡ step_size * steps
  pub ending : Ending
  pub report : r ≡ Ended (length (verdict_in program table_length).places) steps ending
  pub shown : Shown program trace steps ending

-- A call whose trace was too short, and a second one for the same bytes.
module _ (o : Outcome Program) (lent_table table lent_trace trace : List ℕ) {wanted : ℕ}
    (first : Checked o lent_table table lent_trace trace (Short wanted)) (lent_table' table' lent_trace' trace' : List ℕ)
    {r : Report} (second : Checked o lent_table' table' lent_trace' trace' r) where
  -- The second table has the same length. What it and the trace held is of no account.
  module _ (same : length lent_table' ≡ length lent_table) where
    accepts : (p : Program) × (o ≡ accepted p)
    accepts =
        let (p, is, short) = short_is_read o (length lent_table) (length lent_trace) (sym first.answered) in (p, is)

    abbrev p : Program
    p = accepts.0

    known : Withheld p (length lent_table) wanted
    known = first.short p accepts.1 wanted refl

    told : r ≡ report_to (accepted p) (length lent_table) (length lent_trace')
    told =
        second.answered
        ∙ ap (λ (n : ℕ). report_to o n (length lent_trace')) same
        ∙ ap (λ (q : Outcome Program). report_to q (length lent_table) (length lent_trace')) accepts.1

    -- A trace of the wanted length gets NR, and so does a longer one.
    pub wanted_gets_not_robust : wanted ≤ length lent_trace' → GetsNotRobust o (length lent_table) wanted trace' r
    wanted_gets_not_robust enough =
        let report = told ∙ known.enough (length lent_trace') (omega (arith, enough)) in
        let steps = length known.schedule in
        let count = length (verdict_in p (length lent_table)).places in
        record {
          program = p;
          read = accepts.1;
          steps = steps;
          exact = omega (arith, known.exact);
          ending = known.ending;
          report = report;
          shown = second.not_robust p accepts.1 count steps known.ending report;
        }

    -- Every shorter one gets 10 with the same wanted length.
    pub shorter_wants_the_same : length lent_trace' < wanted → r ≡ Short wanted
    shorter_wants_the_same short = told ∙ known.needed (length lent_trace') (omega (arith, short))

  -- "10 leaves the table as NR would have left it": the same lent table is left with the same bytes.
  pub same_table : lent_table' ≡ lent_table → table' ≡ table
  same_table same = second.tabled ∙ ap (table_after o) same ∙ sym first.tabled
