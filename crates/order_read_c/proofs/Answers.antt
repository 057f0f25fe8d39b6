-- The exported answers, from what the reader ensures.
use Prim.Native.Nat.{ℕ, zero, suc, ◌+◌, ◌≤◌, ◌<◌}
use native.Mathlib.Omega.{arith}
use mathlib.Core.Path.{◌≡◌, refl, ap, ap₂, sym, ◌∙◌}
use mathlib.Core.List.{List, [], ◌∷◌, map}
use lib.ListN.{length, get_or, get_elem?, set, replicate, length-map, get_or-map}
use lib.Seq.{sets, ext_get_or}
use borrow.Author.Tests.{lt-ltb, le-ltb}
use Rattle.program.specs.Program.{Line, Program, lines_of, named_locations}
use Rattle.program.specs.Program.Operand.{constant}
use Rattle.program.specs.Program.Line.{wait}
use Rattle.limits.specs.Limits.{max_threads}
use Rattle.program.specs.Outcome.{Outcome, told}
use Rattle.program.specs.Outcome.Outcome.{accepted}
use Rattle.program.specs.Number.{refusal_number}
use Rattle.program.specs.declared.Refusal.{Refusal}
use Rattle.program.specs.Format.{size_pr, size_th, read_program, program_of}
use Rattle.program.specs.Layout.{thread_size, starts_from}
use Rattle.program.proofs.RoundTrip.{named_in_header}
use Rattle.std.specs.Prelude.{Ok, Err, Some, None}
use Rattle.format.specs.Answer.{Accepted, line_means, found_line}
use Rattle.format.specs.Source.{span_of, spans_from, header_of}
use Rattle.format.specs.Read.{header_read}
use Rattle.format.specs.declared.Header.{Header}
use Rattle.format.specs.declared.Span.{Span}
use Rattle.format.specs.declared.Line as code
use Rattle.format.specs.declared.source.Source.{Source}
use Rattle.format.proofs.Turns.{is_refused}
use Rattle.format.proofs.AcceptedHeader.{read_is_accepted, threads_counted}
use Rattle.format.proofs.SourceLines.{source_told, why_told, line_in_lines, line_is, end_past}
use Rattle.order_read_c.specs.declared.HeaderAnswer.{HeaderAnswer}
use Rattle.order_read_c.specs.Answer.{refused_answer, header_answer, no_line, line_fields, line_answer}

-- A refused input has its number, and no line.
module _ (bytes : List ℕ) (why : Refusal) (e : header_read (Err why) ≡ told header_of (read_program bytes)) where
  pub refusal_answered : header_answer (read_program bytes) ≡ refused_answer (refusal_number why)
  unfolding header_answer
  refusal_answered = rw (is_refused header_of (read_program bytes) (sym (why_told bytes why e)))

  pub none_answered : (t i : ℕ) → line_answer (read_program bytes) t i ≡ no_line
  unfolding line_answer
  none_answered t i = rw (is_refused header_of (read_program bytes) (sym (why_told bytes why e)))

-- A part of each span.
module _ (part : Span → ℕ) where
  map-set : (l : List Span) (i : ℕ) (a : Span) → map part (set l i a) ≡ set (map part l) i (part a)
  map-set [] i a = refl
  map-set (b ∷ l) zero a = refl
  map-set (b ∷ l) (suc i) a = ap (λ (r : List ℕ). part b ∷ r) (map-set l i a)

  map-sets : (l : List Span) (i : ℕ) (others : List Span)
      → map part (sets l i others) ≡ sets (map part l) i (map part others)
  map-sets l i [] = refl
  map-sets l i (a ∷ others) =
      map-sets (set l i a) (suc i) others
      ∙ ap (λ (r : List ℕ). sets r (suc i) (map part others)) (map-set l i a)

-- A row that has that part of each span.
pub row_is : (part : Span → ℕ) (l : List Span) (row : List ℕ) → length row ≡ length l
    → ((i : ℕ) → i < length l → get_or row i (part (span_of 0 0)) ≡ part (get_or l i (span_of 0 0))) → row ≡ map part l
row_is part l row long each =
    ext_get_or (part (span_of 0 0)) row (map part l) (long ∙ sym (length-map l part))
    (λ i less. each i (omega arith) ∙ sym (get_or-map part l i (span_of 0 0)))

starts_in : (at : ℕ) (threads : List (List Line))
    → map (λ (s : Span). s.start) (spans_from at threads) ≡ starts_from at threads
unfolding spans_from starts_from
starts_in at [] = refl
starts_in at (lines ∷ threads) = ap (λ (r : List ℕ). (at + size_th) ∷ r) (starts_in (at + thread_size lines) threads)

counts_in : (at : ℕ) (threads : List (List Line))
    → map (λ (s : Span). s.count) (spans_from at threads) ≡ map length threads
unfolding spans_from
counts_in at [] = refl
counts_in at (lines ∷ threads) = ap (λ (r : List ℕ). length lines ∷ r) (counts_in (at + thread_size lines) threads)

-- The header's numbers, with L in byte 3.
abbrev pub with_header : (number L : ℕ) → Header → HeaderAnswer
with_header number L h =
    record {
      number = number;
      threads = h.threads;
      locations = L;
      values = h.values;
      starts = map (λ (s : Span). s.start) h.lines;
      counts = map (λ (s : Span). s.count) h.lines;
    }

module _ (p : Program) where
  starts_handed : map (λ (s : Span). s.start) (header_of p).lines
      ≡ sets (replicate max_threads 0) 0 (starts_from size_pr p.threads)
  unfolding header_of
  starts_handed =
      map-sets (λ s. s.start) (replicate max_threads (span_of 0 0)) 0 (spans_from size_pr p.threads)
      ∙ ap (sets (replicate max_threads 0) 0) (starts_in size_pr p.threads)

  counts_handed : map (λ (s : Span). s.count) (header_of p).lines
      ≡ sets (replicate max_threads 0) 0 (map length p.threads)
  unfolding header_of
  counts_handed =
      map-sets (λ s. s.count) (replicate max_threads (span_of 0 0)) 0 (spans_from size_pr p.threads)
      ∙ ap (sets (replicate max_threads 0) 0) (counts_in size_pr p.threads)

  header_handed : header_answer (accepted p) ≡ with_header 0 (named_locations p) (header_of p)
  unfolding header_answer header_of
  header_handed =
      let answer : List ℕ → List ℕ → HeaderAnswer =
      λ starts counts. record {
        number = 0;
        threads = length p.threads;
        locations = named_locations p;
        values = p.values;
        starts = starts;
        counts = counts;
      } in
      ap₂ answer (sym starts_handed) (sym counts_handed)

module _ (bytes : List ℕ) (s : Source) (e : header_read (Ok s) ≡ told header_of (read_program bytes)) where
  is : Accepted bytes s.header
  is = read_is_accepted bytes (Ok s.header) (source_told bytes s e) refl

  -- The header of an accepted input is whole.
  pub header_whole : size_pr ≤ length bytes
  header_whole = (named_in_header bytes (program_of bytes) is.program).0

  pub header_answered : header_answer (read_program bytes) ≡ with_header 0 (get_or bytes 3 0) s.header
  header_answered =
      ap header_answer is.program ∙ header_handed (program_of bytes)
      ∙ ap₂ (with_header 0) (sym (named_in_header bytes (program_of bytes) is.program).1) (sym is.header)

  module _ (t i : ℕ) where
    answer_is : line_answer (read_program bytes) t i ≡ line_answer (accepted (program_of bytes)) t i
    answer_is = ap (λ (o : Outcome Program). line_answer o t i) is.program

    -- A thread past the last one has no line.
    pub thread_missing : s.header.threads ≤ t → line_answer (read_program bytes) t i ≡ no_line
    unfolding line_answer
    thread_missing past =
        answer_is
        ∙ rw (le-ltb t (length (program_of bytes).threads) (omega (arith, threads_counted bytes s.header is)))

    module _ (there : t < s.header.threads) (same : s.bytes.now ≡ bytes) where
      thread_there : t < length (program_of bytes).threads
      thread_there = omega (arith, threads_counted bytes s.header is)

      -- A line past the last one is none.
      pub line_missing : found_line None ≡ get_elem? (lines_of (program_of s.bytes.now) t) i
          → line_answer (read_program bytes) t i ≡ no_line
      unfolding line_answer
      line_missing none =
          let past = end_past (lines_of (program_of bytes) t) i (rw same at none) in
          answer_is ∙ rw (
            lt-ltb t (length (program_of bytes).threads) thread_there,
            le-ltb i (length (lines_of (program_of bytes) t)) past,
          )

      -- A line that is found is the answer's.
      pub line_answered : (line : code.Line)
          → found_line (Some line) ≡ get_elem? (lines_of (program_of s.bytes.now) t) i
          → line_answer (read_program bytes) t i ≡ line_fields (line_means line)
      unfolding line_answer
      line_answered line some =
          let found = rw same at some in
          let lines = lines_of (program_of bytes) t in
          rw (line_is lines i line found (wait 0 (constant 0))) (answer_is ∙ rw (
            lt-ltb t (length (program_of bytes).threads) thread_there,
            lt-ltb i (length lines) (line_in_lines lines i line found),
          ))

pub ruleset header_read_there = (refusal_answered, header_whole, header_answered)

pub ruleset line_read = (none_answered, thread_missing, line_missing, line_answered)
