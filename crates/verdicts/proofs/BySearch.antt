-- Report and trace by the search, and the law that they are those by graphs and schedules.
use Prim.Native.Nat.{ℕ, ◌*◌}
use mathlib.Core.Path.{◌≡◌, refl, ap, ◌∙◌}
use mathlib.Core.Bool.{cond}
use mathlib.Core.List.{List, flat_map}
use lib.Dec.{leb}
use lib.ListN.{length}
use Rattle.program.specs.Program.{Program}
use Rattle.program.specs.Outcome.{Outcome, refused, accepted}
use Rattle.program.specs.Format.{read_program}
use Rattle.program.specs.Within.{Valid}
use Rattle.program.specs.Steps.{StepRecord, step_size, kind_number, label_bytes, bytes_of_steps}
use Rattle.rules.specs.Situation.{Situation}
use Rattle.rules.specs.declared.Ending.{Ending}
use Rattle.rules.proofs.Searched.{searched_on, shown_on}
use Rattle.numbering.specs.Numbering.{Entry}
use Rattle.numbering.specs.Verdict as numbering
use Rattle.numbering.specs.Verdict.{Verdict, found, full, closed}
use Rattle.place_bytes.specs.Layout.{place_size}
use Rattle.verdicts.proofs.Computed.{read_on, accepted_valid, by_search, shown_by_steps}
use Rattle.verdicts.proofs.Promises.{found_reaches}
use Rattle.verdicts.specs.Search.{verdict_of}
use Rattle.verdicts.specs.Answer.{places_in, ending_report, reported, report_to, written, traced_by, trace_after}
use Rattle.verdicts.specs.declared.Report.{Report}
use Rattle.verdicts.specs.declared.Report.TheVariants.{Refused}

-- The report, and the trace at exit.
pub record Result : Type 0 where
  pub report : Report
  pub trace : List ℕ

-- The trace by the search: what the steps show is computed on situations.
unfoldable traced_on : Program → numbering.Outcome (Entry Situation) Ending → List ℕ → List ℕ
traced_on p closed trace = trace
traced_on p full trace = trace
traced_on p (found x e) trace =
    cond (leb (step_size * length x.path) (length trace)) (written (bytes_of_steps (shown_on p x.path)) trace) trace

-- What a verdict comes to, where that trace is lent.
abbrev handed_back : Program → (trace : List ℕ) → Verdict (Entry Situation) Ending → Result
handed_back p trace v =
    record {
      report = reported (length v.places) (length trace) v.outcome;
      trace = traced_on p v.outcome trace;
    }

-- Where a witness was found, the steps to it show what single steps on situations show.
same_trace : {p : Program} → Valid p → (N : ℕ) (trace : List ℕ) (o : numbering.Outcome (Entry Situation) Ending)
    → (verdict_of p N).outcome ≡ o → traced_by p o trace ≡ traced_on p o trace
unfolding traced_by traced_on
same_trace valid N trace closed e = refl
same_trace valid N trace full e = refl
same_trace valid N trace (found x f) e =
    ap (λ (records : List StepRecord).
    cond (leb (step_size * length x.path) (length trace)) (written (bytes_of_steps records) trace) trace)
    (shown_by_steps valid x.path x.key (found_reaches valid N x f e))

unfoldable searched : Outcome Program → (table_length : ℕ) (trace : List ℕ) → Result
searched (refused number) table_length trace = record { report = Refused number; trace = trace }
searched (accepted p) table_length trace = handed_back p trace (searched_on p (places_in p table_length))

-- Opened, it computes.
unfoldable pub result_by_search : (bytes : List ℕ) (table_length : ℕ) (trace : List ℕ) → Result
unfolding searched read_on searched_on places_in place_size reported ending_report traced_on shown_on kind_number label_bytes flat_map
result_by_search bytes = searched (read_on bytes)

abbrev result_of : Outcome Program → (table_length : ℕ) (trace : List ℕ) → Result
result_of o table_length trace =
    record { report = report_to o table_length (length trace); trace = trace_after o table_length trace }

outcome_by_search : (bytes : List ℕ) (o : Outcome Program) → read_program bytes ≡ o → (table_length : ℕ) (trace : List ℕ)
    → result_of o table_length trace ≡ searched o table_length trace
unfolding searched report_to trace_after
outcome_by_search bytes (refused number) e table_length trace = refl
outcome_by_search bytes (accepted p) e table_length trace =
    let valid = accepted_valid bytes e in
    let N = places_in p table_length in
    let v = verdict_of p N in
    ap
    (λ (after : List ℕ). record { report = reported (length v.places) (length trace) v.outcome; trace = after })
    (same_trace valid N trace v.outcome refl)
    ∙ ap (handed_back p trace) (by_search valid N)

pub result_by_search_lem : (bytes : List ℕ) (table_length : ℕ) (trace : List ℕ)
    → result_of (read_program bytes) table_length trace ≡ result_by_search bytes table_length trace
unfolding result_by_search read_on
result_by_search_lem bytes = outcome_by_search bytes (read_program bytes) refl
