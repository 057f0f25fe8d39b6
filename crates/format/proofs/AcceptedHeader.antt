-- What the reader's answer tells its callers: an accepted input, and what its header holds.
use Prim.Native.Nat.{ℕ, zero, suc, ◌+◌, ◌*◌, ◌≤◌, ◌<◌}
use native.Mathlib.Omega.{arith}
use mathlib.Core.Path.{◌≡◌, refl, ap, sym, ◌∙◌}
use mathlib.Core.List.{List, [], ◌∷◌}
use lib.ListN.{length, get_or, replicate, length-replicate, get_or-append}
use lib.Seq.{sets, sets-eq}
use Rattle.limits.specs.Limits.{max_threads}
use Rattle.program.specs.Program.{Line, lines_of}
use Rattle.std.specs.Prelude.{Result, Ok}
use Rattle.program.specs.Outcome.{told}
use Rattle.program.specs.Outcome.Outcome.{accepted}
use Rattle.program.specs.Number.{outcome_of}
use Rattle.program.specs.declared.Refusal.{Refusal}
use Rattle.program.specs.Within.{Within}
use Rattle.program.specs.Format.{size_pr, size_in, read_program, program_in, program_of}
use Rattle.program.specs.Layout.{thread_size, starts_from, start_of}
use Rattle.format.specs.Answer.{Accepted, LineAt}
use Rattle.format.specs.Source.{span_of, spans_from, header_of}
use Rattle.format.specs.declared.Span.{Span}
use Rattle.format.specs.declared.Header.{Header}
use Rattle.format.proofs.Turns.{is_accepted}
use Rattle.program.proofs.RoundTrip.{accepted_is_spelling}
use Rattle.format.proofs.AcceptedLines.{line_fits}

-- What fills the front of a row is read there.
front_of_row : {A : Type 0} (none : A) (width : ℕ) (l : List A) (t : ℕ) → t < length l → length l ≤ width
    → get_or (sets (replicate width none) 0 l) t none ≡ get_or l t none
front_of_row {A} none width l t h fits =
    let room = length-replicate {A = A} width none in
    rw (sets-eq l (replicate width none) 0 (omega arith), get_or-append l _ none t h)

length-spans_from : (at : ℕ) (threads : List (List Line)) → length (spans_from at threads) ≡ length threads
unfolding spans_from
length-spans_from at [] = refl
length-spans_from at (lines ∷ threads) = ap suc (length-spans_from (at + thread_size lines) threads)

-- The span of a thread is where it starts, and its length.
span_at : (at : ℕ) (threads : List (List Line)) (t : ℕ) → t < length threads
    → get_or (spans_from at threads) t (span_of 0 0)
    ≡ span_of (get_or (starts_from at threads) t 0) (length (get_or threads t []))
unfolding spans_from starts_from
span_at at [] t h = absurd (omega arith)
span_at at (lines ∷ threads) zero h = refl
span_at at (lines ∷ threads) (suc t) h = span_at (at + thread_size lines) threads t (omega arith)

-- An input that is read to a header is accepted, and the header is its program's.
pub read_is_accepted : (bytes : List ℕ) (r : Result Header Refusal) → outcome_of r ≡ told header_of (read_program bytes)
    → {h : Header} → r ≡ Ok h → Accepted bytes h
unfolding program_in
read_is_accepted bytes r e {h} read =
    let told_of = sym e ∙ ap (outcome_of {A = Header}) read in
    let (p, accepts, header) = is_accepted header_of (read_program bytes) told_of in
    record {
      program = accepts ∙ ap accepted (sym (ap program_in accepts));
      header = sym header ∙ ap header_of (sym (ap program_in accepts));
    }

module _ (bytes : List ℕ) (h : Header) (is : Accepted bytes h) where
  -- The program is within the limits.
  pub accepted_within : Within (program_of bytes)
  accepted_within = (accepted_is_spelling bytes (program_of bytes) is.program).1

  pub threads_counted : h.threads ≡ length (program_of bytes).threads
  unfolding header_of
  threads_counted = ap (λ (x : Header). x.threads) is.header

  pub locations_counted : h.locations ≡ (program_of bytes).locations
  unfolding header_of
  locations_counted = ap (λ (x : Header). x.locations) is.header

  pub values_counted : h.values ≡ (program_of bytes).values
  unfolding header_of
  values_counted = ap (λ (x : Header). x.values) is.header

  -- The span of each thread.
  span_is : (t : ℕ) → t < length (program_of bytes).threads
      → get_or h.lines t (span_of 0 0)
      ≡ span_of (start_of (program_of bytes).threads t) (length (lines_of (program_of bytes) t))
  unfolding header_of start_of
  span_is t less =
      let threads = (program_of bytes).threads in
      let long = length-spans_from size_pr threads in
      let few = accepted_within.few_threads in
      rw (is.header, front_of_row (span_of 0 0) max_threads (spans_from size_pr threads) t (omega arith) (omega arith))
      (span_at size_pr threads t less)

  -- The number of lines of each thread.
  pub lines_counted : (t : ℕ) → t < length (program_of bytes).threads
      → (get_or h.lines t (span_of 0 0)).count ≡ length (lines_of (program_of bytes) t)
  lines_counted t less = ap (λ (x : Span). x.count) (span_is t less)

  -- Where the lines of each thread start.
  pub starts_at_lem : (t : ℕ) → t < length (program_of bytes).threads
      → (get_or h.lines t (span_of 0 0)).start ≡ start_of (program_of bytes).threads t
  starts_at_lem t less = ap (λ (x : Span). x.start) (span_is t less)

  -- Line i of thread t, where the header counts both, as line_at is to find it.
  module _ {t i : ℕ} (in_threads : t < h.threads) (in_counts : i < (get_or h.lines t (span_of 0 0)).count) where
    pub line_counted : LineAt bytes ((get_or h.lines t (span_of 0 0)).start) h.values i t
    line_counted =
        let there : t < length (program_of bytes).threads = omega (arith, threads_counted) in
        record {
          program = is.program;
          starts = starts_at_lem t there;
          values = values_counted;
          in_program = there;
          in_lines = omega (arith, lines_counted t there);
        }

    -- What line_at asks.
    pub line_inside : (get_or h.lines t (span_of 0 0)).start + i * size_in + size_in ≤ length bytes
    line_inside = line_fits line_counted
