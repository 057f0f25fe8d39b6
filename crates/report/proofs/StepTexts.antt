-- The ST lines of steps whose bytes the trace has: each tells the step's thread and what it shows. So every kind in them
-- has its own letter.
use Prim.Native.Nat.{ℕ, suc, ◌*◌}
use mathlib.Core.Path.{◌≡◌, refl, ap, ap₂, sym, ◌∙◌}
use mathlib.Core.List.{List, [], ◌∷◌, ◌++◌, flat_map, append_assoc}
use lib.ListN.{length, drop, take-append-drop}
use Rattle.program.specs.Program.{Program}
use Rattle.program.specs.declared.Kind.TheVariants.{Read, Write, Update}
use Rattle.program.specs.declared.Label.{Label}
use Rattle.program.specs.declared.Label.TheVariants.{Local, Access}
use Rattle.program.specs.ThreadNumber.{thread_number}
use Rattle.program.specs.Steps.{StepRecord, step_size, kind_number, label_bytes, step_bytes, bytes_of_steps}
use Rattle.model.specs.Labels.{records_of}
use Rattle.model.proofs.Labels.{records_counted}
use Rattle.rules.specs.declared.Ending.{Ending}
use Rattle.verdicts.specs.Promises.{Shown}
use Rattle.verdicts.specs.declared.Report.TheVariants.{Ended}
use Rattle.report.specs.Text.{decimal, line, letter_of, mark_st, step_line, step_lines, ending_line, text_of}

-- "R with the value read, W and M with the value written, and L 0 0 for a local line"
unfoldable pub access_fields : Label → List (List ℕ)
access_fields Local = (76 ∷ []) ∷ decimal 0 ∷ decimal 0 ∷ []
access_fields (Access Read location value) = (82 ∷ []) ∷ decimal location ∷ decimal value ∷ []
access_fields (Access Write location value) = (87 ∷ []) ∷ decimal location ∷ decimal value ∷ []
access_fields (Access Update location value) = (77 ∷ []) ∷ decimal location ∷ decimal value ∷ []

abbrev pub line_of : StepRecord → List ℕ
line_of s = line (mark_st ∷ decimal (thread_number s.thread) ∷ access_fields s.label)

first_line : (n thread : ℕ) (label : Label) (trace : List ℕ)
    → step_lines (suc n) (thread_number thread ∷ label_bytes label ++ trace)
    ≡ line (mark_st ∷ decimal (thread_number thread) ∷ access_fields label) ++ step_lines n trace
unfolding step_lines step_line letter_of label_bytes kind_number access_fields
first_line n thread Local trace = refl
first_line n thread (Access Read location value) trace = refl
first_line n thread (Access Write location value) trace = refl
first_line n thread (Access Update location value) trace = refl

pub lines_of_steps : (steps : List StepRecord) (others : List ℕ)
    → step_lines (length steps) (bytes_of_steps steps ++ others) ≡ flat_map line_of steps
unfolding step_lines flat_map
lines_of_steps [] others = refl
lines_of_steps (s ∷ steps) others =
    rw (append_assoc (step_bytes s) (bytes_of_steps steps) others)
    (first_line (length steps) s.thread s.label _ ∙ rw (lines_of_steps steps others))

-- So for NR the ST lines tell the steps of the very run that the promise gives.
pub text_of_run : {p : Program} {trace : List ℕ} (count : ℕ) {steps : ℕ} {e : Ending} (s : Shown p trace steps e)
    → text_of (Ended count steps e) trace ≡ ending_line count steps e ++ flat_map line_of (records_of s.shows.run)
unfolding text_of
text_of_run {trace = trace} count {steps} {e} s =
    let records = records_of s.shows.run in
    let counted : steps ≡ length records = sym (records_counted s.shows.run ∙ s.counted) in
    let rest = drop (step_size * steps) trace in
    let front : trace ≡ bytes_of_steps records ++ rest =
    sym (take-append-drop (step_size * steps) trace) ∙ ap (λ (l : List ℕ). l ++ rest) s.in_trace in
    ap (λ (l : List ℕ). ending_line count steps e ++ l)
    (ap₂ step_lines counted front ∙ lines_of_steps records rest)
