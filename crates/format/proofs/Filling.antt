-- The turns of the loop over the threads: the header is filled in as the threads are read.
use Prim.Native.Nat.{ℕ, zero, suc, ◌+◌, ◌-◌, ◌*◌, ◌≤◌, ◌<◌}
use native.Mathlib.Omega.{arith}
use native.Mathlib.Numerals.{add-one}
use mathlib.Core.Path.{◌≡◌, refl, ap, sym, ◌∙◌}
use mathlib.Core.Bool.{Bool, true, false, cond, ◌||◌, or_assoc, or-false}
use mathlib.Core.List.{List, ◌∷◌}
use lib.ListN.{length, drop, set, replicate, length-drop}
use lib.Seq.{sets, drop-drop}
use Rattle.std.specs.Int.{from_bool}
use lib.Dec.{eqb}
use borrow.Author.Tests.{eq-eqb, ne_eqb}
use Rattle.limits.specs.Limits.{max_threads, max_lines}
use Rattle.program.specs.Program.{Line, Program, any_is, has_fence, have_fence, fence_locations}
use Rattle.program.specs.Outcome.{Outcome, check, and_then, told}
use Rattle.program.specs.Outcome.Outcome.{refused, accepted}
use Rattle.program.specs.Format.{size_pr, size_th, size_in, read_thread, read_threads, ends_after}
use Rattle.program.specs.Layout.{thread_size}
use Rattle.format.specs.Source.{span_of, spans_from, header_of}
use Rattle.format.specs.Inner.{lines_told}
use Rattle.format.specs.declared.Header.{Header}
use Rattle.format.specs.declared.threads.ThreadRead.{ThreadRead}
use Rattle.format.proofs.Turns.{is_accepted, is_refused}
use Rattle.program.proofs.AcceptedThreads.{thread_read, threads_read}

-- A header with thread i's lines filled in.
abbrev pub with_thread : Header → (i start count : ℕ) → Header
with_thread h i start count =
    record {
      threads = h.threads;
      locations = h.locations;
      values = h.values;
      lines = set h.lines i (span_of start count);
    }

-- The answer once the rest of the threads, from thread i and byte next on, has been read into a header that counts the
-- named locations, where a thread before may have had a fence.
unfoldable pub filled : Bool → Header → (i next : ℕ) → Outcome Program → Outcome Header
filled fenced h i next (refused number) = refused number
filled fenced h i next (accepted p) =
    accepted
    (record {
      threads = h.threads;
      locations = h.locations + cond (fenced || have_fence p.threads) 1 0;
      values = h.values;
      lines = sets h.lines i (spans_from next p.threads);
    })

-- The rest of an input: so many threads, and the end.
abbrev pub rest_of : (L K left : ℕ) → List ℕ → Outcome Program
rest_of L K left bytes = and_then (read_threads L K left bytes) (ends_after L K)

-- The header that the loop starts from: no thread is read.
abbrev pub none_read : (T L K : ℕ) → Header
none_read T L K =
    record {
      threads = T;
      locations = L;
      values = K;
      lines = replicate max_threads (span_of 0 0);
    }

-- A header with the fence's location counted, which is known behind the last thread.
abbrev pub with_fence : Bool → Header → Header
with_fence fenced h =
    record {
      threads = h.threads;
      locations = h.locations + cond fenced 1 0;
      values = h.values;
      lines = h.lines;
    }

-- The program of threads that were read, among L named locations.
abbrev program_read : (L K : ℕ) → List (List Line) → Program
program_read L K threads = record { threads = threads; locations = L + fence_locations threads; values = K }

-- One thread more at the front of a rest.
filled_cons : (L K : ℕ) (fenced : Bool) (h : Header) (i next : ℕ) (lines : List Line)
    (o : Outcome (List (List Line) × List ℕ))
    → filled fenced h i next
    (and_then (and_then o (λ others. accepted (lines ∷ others.0, others.1))) (ends_after L K))
    ≡ filled (fenced || has_fence lines) (with_thread h i (next + size_th) (length lines)) (i + 1)
    (next + thread_size lines) (and_then o (ends_after L K))
unfolding filled and_then ends_after check spans_from any_is
filled_cons L K fenced h i next lines (refused k) = refl
filled_cons L K fenced h i next lines (accepted others) = ends_or_not (eqb (length others.1) 0)
  where
    ends_or_not : (b : Bool)
        → filled fenced h i next
        (check 9 b (accepted (program_read L K (lines ∷ others.0))))
        ≡ filled (fenced || has_fence lines) (with_thread h i (next + size_th) (length lines)) (i + 1)
        (next + thread_size lines) (check 9 b (accepted (program_read L K others.0)))
    ends_or_not true = rw (add-one, or_assoc fenced (has_fence lines) (have_fence others.0))
    ends_or_not false = refl

module _ (L K : ℕ) (bytes : List ℕ) (fenced : Bool) where
  -- A thread that fails ends the reading.
  thread_fails : (left : ℕ) → 0 < left → {k : ℕ} (h : Header) (i next : ℕ) → told lines_told
      (read_thread L K bytes) ≡ refused k
      → filled fenced h i next (rest_of L K left bytes) ≡ refused k
  unfolding filled read_threads and_then
  thread_fails zero some h i next e = absurd (omega arith)
  thread_fails (suc left) some h i next e = rw (is_refused lines_told (read_thread L K bytes) e)

  -- A thread that is read leaves one fewer.
  thread_passes : (left : ℕ) → 0 < left → {n : ℕ} {b : Bool} (h : Header) (i next : ℕ)
      → told lines_told (read_thread L K bytes) ≡ accepted (record { count = n; fenced = b })
      → (n ≤ max_lines) × (size_th + n * size_in ≤ length bytes)
      × (filled fenced h i next (rest_of L K left bytes)
      ≡ filled (fenced || b) (with_thread h i (next + size_th) n) (i + 1) (next + (size_th + n * size_in))
      (rest_of L K (left - 1) (drop (size_th + n * size_in) bytes)))
  unfolding read_threads and_then
  thread_passes zero some h i next e = absurd (omega arith)
  thread_passes (suc left) some {n} {b} h i next e =
      let (got, read, same) = is_accepted lines_told (read_thread L K bytes) e in
      let counted : length got.0 ≡ n = ap (λ (x : ThreadRead). x.count) same in
      let is : has_fence got.0 ≡ b = ap (λ (x : ThreadRead). x.fenced) same in
      let now = thread_read L K bytes read in
      let one : left ≡ suc left - 1 = omega arith in
      let o = read_threads L K left got.1 in (
        omega (arith, now.within.few),
        rw counted at now.whole,
        rw read (filled_cons L K fenced h i next got.0 o ∙ rw (now.after, counted, is, ← one)),
      )

-- Behind the last thread the input ends, or check 9 fails.
ends : (L K : ℕ) (bytes : List ℕ) (fenced : Bool) (h : Header) (i next : ℕ) → length bytes ≡ 0
    → filled fenced h i next (rest_of L K 0 bytes)
    ≡ accepted (with_fence fenced h)
unfolding filled read_threads and_then ends_after check spans_from any_is
ends L K bytes fenced h i next e = rw (eq-eqb (length bytes) 0 e, or-false fenced)

goes_on : (L K : ℕ) (bytes : List ℕ) (fenced : Bool) (h : Header) (i next : ℕ) → 0 < length bytes
    → filled fenced h i next (rest_of L K 0 bytes) ≡ refused 9
unfolding filled read_threads and_then ends_after check
goes_on L K bytes fenced h i next e = rw (ne_eqb (length bytes) 0 (λ z. omega arith))

-- Filled from the start it is the answer.
filled_is_reading : (T L K : ℕ) (bytes : List ℕ)
    → filled false (none_read T L K) 0 size_pr (rest_of L K T bytes) ≡ told header_of (rest_of L K T bytes)
unfolding filled and_then ends_after check told header_of fence_locations
filled_is_reading T L K bytes = go (read_threads L K T bytes) refl
  where
    go : (o : Outcome (List (List Line) × List ℕ)) → read_threads L K T bytes ≡ o
        → filled false (none_read T L K) 0 size_pr (and_then o (ends_after L K))
        ≡ told header_of (and_then o (ends_after L K))
    go (refused k) e = refl
    go (accepted got) e = ends_or_not (eqb (length got.1) 0)
      where
        ends_or_not : (b : Bool)
            → filled false (none_read T L K) 0 size_pr (check 9 b (accepted (program_read L K got.0)))
            ≡ told header_of (check 9 b (accepted (program_read L K got.0)))
        ends_or_not true = rw (sym (threads_read L K T bytes e).counted)
        ends_or_not false = refl

-- The loop's invariant: after i of T threads, at byte next, what is left comes to the answer.
pub record Ahead (L K T : ℕ) (bytes : List ℕ) (h : Header) (fenced : Bool) (i next : ℕ) : Type 0 where
  pub inside : next ≤ length bytes
  pub named : h.locations ≡ L
  pub not_past : i ≤ T
  -- Each thread so far had few lines.
  pub early : next ≤ size_pr + i * (size_th + max_lines * size_in)
  pub comes_to :
      filled fenced h i next (rest_of L K (T - i) (drop next bytes))
      ≡ told header_of (rest_of L K T (drop size_pr bytes))

-- Where the loop begins.
pub begins : (T L K : ℕ) (bytes : List ℕ) → size_pr ≤ length bytes
    → Ahead L K T bytes (none_read T L K) false 0 size_pr
begins T L K bytes fits =
    let none : T - 0 ≡ T = omega arith in
    record {
      inside = fits;
      named = refl;
      not_past = omega arith;
      early = omega arith;
      comes_to = rw none (filled_is_reading T L K (drop size_pr bytes));
    }

module _ {L K T : ℕ} {bytes : List ℕ} {h : Header} {fenced : Bool} {i next : ℕ}
    (ahead : Ahead L K T bytes h fenced i next) where
  pub turn_fails : i < T → {k : ℕ} → told lines_told (read_thread L K (drop next bytes)) ≡ refused k
      → refused k ≡ told header_of (rest_of L K T (drop size_pr bytes))
  turn_fails more e =
      sym (thread_fails L K (drop next bytes) fenced (T - i) (omega arith) h i next e) ∙ ahead.comes_to

  pub turn_passes : i < T → {n : ℕ} {b : Bool}
      → told lines_told (read_thread L K (drop next bytes)) ≡ accepted (record { count = n; fenced = b })
      → Ahead L K T bytes (with_thread h i (next + size_th) n) (fenced || b) (i + 1) (next + (size_th + n * size_in))
  turn_passes more {n} e =
      let p = thread_passes L K (drop next bytes) fenced (T - i) (omega arith) h i next e in
      let one : T - (i + 1) ≡ T - i - 1 = omega arith in
      record {
        inside = omega (arith, p.1, length-drop next bytes);
        named = ahead.named;
        not_past = omega arith;
        early = omega (arith, p.0, ahead.early);
        comes_to =
            rw (one, ← drop-drop (size_th + n * size_in) next bytes) (sym p.2 ∙ ahead.comes_to);
      }

  all_read : T ≤ i → filled fenced h i next (rest_of L K 0 (drop next bytes))
      ≡ told header_of (rest_of L K T (drop size_pr bytes))
  all_read e = let none : 0 ≡ T - i = omega arith in rw none ahead.comes_to

  pub input_ends : T ≤ i → length bytes ≤ next
      → accepted (with_fence fenced h)
      ≡ told header_of (rest_of L K T (drop size_pr bytes))
  input_ends e end =
      sym (ends L K (drop next bytes) fenced h i next (omega (arith, length-drop next bytes))) ∙ all_read e

  pub input_goes_on : T ≤ i → next < length bytes → refused 9 ≡ told header_of (rest_of L K T (drop size_pr bytes))
  input_goes_on e more =
      sym (goes_on L K (drop next bytes) fenced h i next (omega (arith, length-drop next bytes))) ∙ all_read e

-- A flag as a number.
pub flag_counted : (b : Bool) → from_bool b ≡ cond b 1 0
flag_counted true = refl
flag_counted false = refl

pub flag_small : (b : Bool) → from_bool b ≤ 1
flag_small true = omega arith
flag_small false = omega arith
