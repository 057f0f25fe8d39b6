-- The header of a program, and what it is to be accepted.
use Rattle.std.specs.Prelude.{ℕ, ◌+◌, Bool, true, false, List, [], ◌∷◌, length, replicate}
use Rattle.std.proofs.lemmas.List.Edits.{sets}
use Rattle.limits.specs.Limits.{max_threads}
use Rattle.program.specs.Program.{Line, Program}
use Rattle.program.specs.Outcome.{Outcome}
use Rattle.program.specs.Outcome.Outcome.{refused, accepted}
use Rattle.program.specs.Format.{size_pr, size_th}
use Rattle.program.specs.Layout.{thread_size}
use Rattle.format.specs.declared.Header.{Header}
use Rattle.format.specs.declared.Span.{Span}

-- Where the lines of a thread start, and how many there are.
abbrev pub span_of : (start count : ℕ) → Span
span_of start count = record { start = start; count = count }

-- The span of each thread, when the first TH record stands at byte `at`.
unfoldable pub spans_from : ℕ → List (List Line) → List Span
spans_from at [] = []
spans_from at (lines ∷ threads) = span_of (at + size_th) (length lines) ∷ spans_from (at + thread_size lines) threads

-- The header of a program: T, the number of all its locations, K, and for each thread where its lines start and how
-- many there are, 0 past the last thread.
unfoldable pub header_of : Program → Header
header_of p =
    record {
      threads = length p.threads;
      locations = p.locations;
      values = p.values;
      lines = sets (replicate max_threads (span_of 0 0)) 0 (spans_from size_pr p.threads);
    }

-- The input passed all checks.
unfoldable pub is_accepted : Outcome Program → Bool
is_accepted (refused number) = false
is_accepted (accepted p) = true
