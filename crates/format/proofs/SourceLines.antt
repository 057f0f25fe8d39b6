-- What a source says of itself, and its lines.
use Prim.Native.Nat.{ℕ, ◌<◌, ◌≤◌}
use native.Mathlib.Omega.{arith}
use mathlib.Core.Path.{◌≡◌, refl, ap, sym, ◌∙◌}
use mathlib.Core.Bool.{true, false}
use mathlib.Core.Option.{none, some, some-injective}
use mathlib.Core.List.{List}
use lib.ListN.{length, get_or, get_elem?}
use Rattle.limits.specs.Limits.{max_threads}
use Rattle.lists.proofs.Places.{place_past_end, place_has_entry, place_in_range, place_empty}
use Rattle.program.specs.Program.{Program, Line, read, lines_of}
use Rattle.std.specs.Prelude.{Result, Ok, Err, IsErr, IsErrAnd, Some, None}
use Rattle.program.specs.Outcome.{Outcome, told}
use Rattle.program.specs.Outcome.Outcome.{refused, accepted}
use Rattle.program.specs.Format.{read_program, program_in, program_of}
use Rattle.format.specs.Source.{span_of, header_of, is_accepted}
use Rattle.format.specs.Answer.{Accepted, LineAt, line_means, found_line}
use Rattle.program.specs.Number.{refusal_number}
use Rattle.program.specs.declared.Refusal.{Refusal}
use Rattle.format.specs.Read.{header_read}
use Rattle.format.specs.declared.Header.{Header}
use Rattle.format.specs.declared.source.Source.{Source}
use Rattle.format.specs.declared.Line as code
use Rattle.format.proofs.FieldChecks.{handed_on}
use Rattle.format.proofs.AcceptedHeader.{read_is_accepted, accepted_within, threads_counted}
use Rattle.format.proofs.AcceptedHeader.{lines_counted, line_counted}

outcome_accepted : (o : Outcome Program) → is_accepted o ≡ true → o ≡ accepted (program_in o)
unfolding is_accepted program_in
outcome_accepted (refused k) e = absurd (let z : false ≡ true = e in cc)
outcome_accepted (accepted p) e = refl

accepted_outcome : (o : Outcome Program) → o ≡ accepted (program_in o) → is_accepted o ≡ true
unfolding is_accepted program_in
accepted_outcome (refused k) e = absurd cc
accepted_outcome (accepted p) e = refl

-- What the reader reads is a source.
module _ (bytes : List ℕ) {h : Header} (e : accepted h ≡ told header_of (read_program bytes)) where
  is : Accepted bytes h
  is = read_is_accepted bytes (Ok h) e refl

  pub passes : is_accepted (read_program bytes) ≡ true
  passes = accepted_outcome (read_program bytes) is.program

  pub is_header : h ≡ header_of (program_of bytes)
  is_header = is.header

  pub header_told : (s : Source) → s.header ≡ h → header_read (Ok s) ≡ told header_of (read_program bytes)
  unfolding told
  header_told s same = ap accepted same ∙ e

-- What it refuses is refused.
pub refusal_told : (bytes : List ℕ) (why : Refusal)
    → refused (refusal_number why) ≡ told header_of (read_program bytes)
    → (r : Result Source Refusal) → IsErr r × IsErrAnd r (λ x. x ≡ why)
    → header_read r ≡ told header_of (read_program bytes)
unfolding told
refusal_told bytes why e r err = ap (told (λ (x : Source). x.header)) (handed_on r why err) ∙ e

-- What the reader tells, as it is told of the input.
module _ (bytes : List ℕ) where
  pub source_told : (s : Source) → header_read (Ok s) ≡ told header_of (read_program bytes)
      → accepted s.header ≡ told header_of (read_program bytes)
  unfolding told
  source_told s e = e

  pub why_told : (why : Refusal) → header_read (Err why) ≡ told header_of (read_program bytes)
      → refused (refusal_number why) ≡ told header_of (read_program bytes)
  unfolding told
  why_told why e = e

pub ruleset source_read = (passes, is_header, header_told, refusal_told)

-- The header of a source is that of its accepted input.
pub source_accepted : (s : Source) → Accepted s.bytes.now s.header
source_accepted s =
    record { program = outcome_accepted (read_program s.bytes.now) s.accepted; header = s.of_program }

module _ (s : Source) where
  abbrev bytes : List ℕ
  bytes = s.bytes.now

  abbrev h : Header
  h = s.header

  module _ {t : ℕ} (less : t < h.threads) where
    pub thread_in_limit : t < max_threads
    thread_in_limit =
        let is = source_accepted s in
        omega (arith, threads_counted bytes h is, (accepted_within bytes h is).few_threads)

    in_threads : t < length (program_of bytes).threads
    in_threads = omega (arith, threads_counted bytes h (source_accepted s))

    pub no_line : {n : ℕ} → (get_or h.lines t (span_of 0 0)).count ≤ n
        → none ≡ get_elem? (lines_of (program_of bytes) t) n
    no_line {n} over =
        sym (place_past_end (lines_of (program_of bytes) t) n
        (omega (arith, lines_counted bytes h (source_accepted s) t in_threads)))

    pub a_line : {n : ℕ} → n < (get_or h.lines t (span_of 0 0)).count → (line : code.Line)
        → ((u : ℕ) → LineAt bytes (get_or h.lines t (span_of 0 0)).start h.values n u → (other : Line)
        → line_means line ≡ get_or (lines_of (program_of bytes) u) n other)
        → some (line_means line) ≡ get_elem? (lines_of (program_of bytes) t) n
    a_line {n} inside line found =
        let counted = line_counted bytes h (source_accepted s) less inside in
        ap some (found t counted (read 0 0))
        ∙ sym (place_has_entry (lines_of (program_of bytes) t) n (read 0 0) counted.in_lines)

pub ruleset lines_known = (thread_in_limit, no_line, a_line)

-- The line that was found is the one that stands there.
module _ (lines : List Line) (n : ℕ) where
  module _ (line : code.Line) (found : found_line (Some line) ≡ get_elem? lines n) where
    pub line_in_lines : n < length lines
    unfolding found_line
    line_in_lines = place_in_range lines n (sym found)

    pub line_is : (other : Line) → line_means line ≡ get_or lines n other
    unfolding found_line
    line_is other =
        some-injective (line_means line) (get_or lines n other)
        (found ∙ place_has_entry lines n other line_in_lines)

  pub end_past : found_line None ≡ get_elem? lines n → length lines ≤ n
  unfolding found_line
  end_past e = place_empty lines n (sym e)
