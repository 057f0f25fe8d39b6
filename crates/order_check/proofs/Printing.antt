-- The text of the report on all of standard input is whole, and its bytes are bytes of the buffer.
use Prim.Native.Nat.{ℕ, ◌≤◌, min}
use native.Mathlib.Omega.{arith}
use mathlib.Core.Path.{◌≡◌, ap, sym, subst, ◌∙◌}
use mathlib.Core.List.{List}
use lib.ListN.{length, take, drop, length-append, length-take, length-drop}
use lib.Seq.{length-take-le, take_at, take_all}
use Rattle.program.specs.Program.{Program}
use Rattle.program.specs.Outcome.{Outcome}
use Rattle.program.specs.Format.{read_program}
use Rattle.program.proofs.Longer.{longer_judged_by_front}
use Rattle.verdicts.specs.declared.Report.{Report}
use Rattle.report.specs.Text.{text_of, longest_text, laid}
use Rattle.verdicts.specs.Checked.{Checked}
use Rattle.verdicts.proofs.LongTrace.{never_short}
use Rattle.order_check.specs.Printed.{Sizes, PrintedFor}

-- A text that fits is laid whole.
module _ (text buffer : List ℕ) {after : List ℕ} {count : ℕ} (fits : length text ≤ length buffer)
    (is : after ≡ laid text buffer) (counted : count ≡ min (length text) (length buffer)) where
  all_counted : count ≡ length text
  all_counted = omega (arith, counted)

  text_whole : take count after ≡ text
  text_whole =
      ap (take count) is
      ∙ take_at (take (length buffer) text) (drop (length text) buffer) count
      (omega (arith, length-take (length buffer) text, all_counted))
      ∙ take_all (length buffer) text fits

  text_counted : (count ≤ length after) × (count ≡ length (take count after))
  text_counted =
      let within : count ≤ length after =
      omega (
        arith,
        all_counted,
        ap length is,
        length-append (take (length buffer) text) (drop (length text) buffer),
        length-take (length buffer) text,
        length-drop (length text) buffer,
      ) in
      (within, sym (length-take-le count after within))

-- The front of the input that was kept is judged as the whole input is.
module _ (buffer : List ℕ) {kept : ℕ} (lent_table table lent_trace trace out : List ℕ)
    (sizes : Sizes (length buffer) kept (length lent_table) (length lent_trace) (length out))
    {program : List ℕ} (is_front : program ≡ take kept buffer) {r : Report}
    (checked : Checked (read_program program) lent_table table lent_trace trace r) where
  front_decides : (input : List ℕ) → take (length buffer) input ≡ take kept buffer
      → Checked (read_program input) lent_table table lent_trace trace r
  front_decides input front =
      subst (λ (o : Outcome Program). Checked o lent_table table lent_trace trace r)
      (ap read_program (is_front ∙ sym front) ∙ longer_judged_by_front (length buffer) input sizes.input_holds) checked

  pub printed : {after : List ℕ} {count : ℕ} → length trace ≡ length lent_trace
      → (count ≡ min (length (text_of r trace)) (length out))
      × ((length (text_of r trace) ≤ longest_text (length trace)) × (after ≡ laid (text_of r trace) out))
      → PrintedFor buffer kept lent_table table lent_trace trace (take count after)
      × ((count ≤ length after) × (count ≡ length (take count after)))
  printed {after} {count} same (counted, (short, is)) =
      let fits : length (text_of r trace) ≤ length out = omega (arith, short, sizes.text_fits, same) in (
        λ input front.
            let known = front_decides input front in
            record {
              checked = subst (Checked (read_program input) lent_table table lent_trace trace) known.answered known;
              never_short = never_short input (length lent_table) (length lent_trace)
                  (omega (arith, sizes.table_is, sizes.trace_is));
              whole = text_whole (text_of r trace) out fits is counted
                  ∙ ap (λ (q : Report). text_of q trace) known.answered;
            },
        text_counted (text_of r trace) out fits is counted,
      )
