-- What is printed: document 01, "The printing program", with document 02, Points 1 and 2.
use Rattle.std.specs.Prelude.{ℕ, ◌+◌, ◌*◌, ◌≤◌, ◌<◌, ◌≡◌, List, length, take, Option, IfSome}
use Rattle.limits.specs.Limits.{max_threads, max_lines}
use Rattle.program.specs.Format.{read_program, size_pr, size_th, size_in}
use Rattle.verdicts.specs.declared.Report.TheVariants.{Short}
use Rattle.report.specs.Text.{text_of, longest_text}
use Rattle.verdicts.specs.Answer.{report_of}
use Rattle.verdicts.specs.Checked.{Checked}

-- The bytes of the longest program: a header, and as many threads and lines as there can be.
abbrev pub longest_program : ℕ
longest_program = size_pr + max_threads * (size_th + max_lines * size_in)

-- What is lent to the checker and to the printer, by the lengths of the slices.
pub record Sizes (input kept table trace buffer : ℕ) : Type 0 where
  -- The input's buffer holds more than the longest program, so that a longer input is judged by its front.
  pub input_holds : longest_program < input
  pub kept_there : kept ≤ input
  -- "with a table of 49,152 bytes"
  pub table_is : table ≡ 49152
  -- "The printing program's trace grows to 8,192 bytes."
  pub trace_is : trace ≡ 8192
  -- The longest text fits.
  pub text_fits : longest_text trace ≤ buffer

-- The definition's report on all of standard input, with all that the checker promises of it, and its text.
pub record Printed (input lent_table table lent_trace trace text : List ℕ) : Type 0 where
  pub checked : Checked (read_program input) lent_table table lent_trace trace
      (report_of input (length lent_table) (length lent_trace))
  -- The trace always has four bytes for each step.
  pub never_short : (wanted : ℕ) → report_of input (length lent_table) (length lent_trace) ≡ Short wanted → ⊥
  -- The text is whole.
  pub whole : text ≡ text_of (report_of input (length lent_table) (length lent_trace)) trace

-- The same for every input whose front was kept in the buffer: nothing describes what is read from standard input.
abbrev pub PrintedFor : (buffer : List ℕ) (kept : ℕ) (lent_table table lent_trace trace text : List ℕ) → Type 0
PrintedFor buffer kept lent_table table lent_trace trace text =
    (input : List ℕ) → take (length buffer) input ≡ take kept buffer → Printed input lent_table table lent_trace trace text

-- These bytes are the front of a known input: all of it, where it is no longer than so many bytes.
abbrev pub IsFront : (known : Option (List ℕ)) (kept : List ℕ) (most : ℕ) → Type 0
IsFront known kept most = IfSome known (λ input. take most input ≡ kept)
