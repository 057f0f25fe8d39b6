-- An input that is longer than any program is judged by its front: the reader looks no further than the longest program
-- and one byte more.
use Prim.Native.Nat.{ℕ, zero, suc, ◌+◌, ◌-◌, ◌*◌, ◌≤◌, ◌<◌}
use mathlib.Core.Bool.{Bool, true, false, ◌&&◌}
use mathlib.Core.List.{List, [], ◌∷◌}
use mathlib.Core.Path.{◌≡◌, refl, sym, ap, ap₂, ◌∙◌}
use native.Mathlib.Decide.{dec_le}
use native.Mathlib.Omega.{arith}
use lib.Dec.{leb, eqb, eqb-suc-zero}
use lib.ListN.{length, get_or, take, drop, length-take}
use lib.Seq.{get_or-take}
use borrow.Author.Tests.{leb-true, le-leb, lt-leb}
use Rattle.lists.proofs.Stores.{drop_of_front}
use Rattle.limits.specs.Limits.{max_threads, max_lines}
use Rattle.program.specs.Program.{Line}
use Rattle.program.specs.Outcome.{Outcome, check, and_then}
use Rattle.program.specs.Outcome.Outcome.{refused, accepted}
use Rattle.program.specs.Format.{mark_pr, mark_th, mark_in, size_pr, size_th, size_in, starts_with, is_record}
use Rattle.program.specs.Format.{are_in_range, fields_to_line, read_line, read_lines, read_thread, read_threads}
use Rattle.program.specs.Format.{ends_after, read_program}
use Rattle.program.proofs.HeaderLaws.{in_range}
use Rattle.program.proofs.PartsLaws.{read_more, more_read}
use Rattle.program.proofs.OutcomeLaws.{and_then_goes_on, and_then_stops}

-- The front is long enough where the whole is.
length_of_front : (size n : ℕ) (bytes : List ℕ) → size ≤ n → leb size (length (take n bytes)) ≡ leb size (length bytes)
length_of_front size n bytes h = go (dec_le size (length bytes))
  where
    go : Dec (size ≤ length bytes) → leb size (length (take n bytes)) ≡ leb size (length bytes)
    go (yes there) =
        le-leb size (length (take n bytes)) (omega (arith, length-take n bytes))
        ∙ sym (le-leb size (length bytes) there)
    go (no short) =
        lt-leb size (length (take n bytes)) (omega (arith, length-take n bytes))
        ∙ sym (lt-leb size (length bytes) (omega arith))

-- The front starts with the mark where the whole does.
mark_of_front : (mark : List ℕ) (n : ℕ) (bytes : List ℕ) → length mark ≤ n
    → starts_with mark (take n bytes) ≡ starts_with mark bytes
unfolding starts_with
mark_of_front [] n bytes h = refl
mark_of_front (m ∷ mark) zero bytes h = absurd (omega arith)
mark_of_front (m ∷ mark) (suc n) [] h = refl
mark_of_front (m ∷ mark) (suc n) (b ∷ bytes) h =
    ap (λ (t : Bool). eqb b m && t) (mark_of_front mark n bytes (omega arith))

record_of_front : (mark : List ℕ) (size n : ℕ) (bytes : List ℕ) → length mark ≤ n → size ≤ n
    → is_record mark size (take n bytes) ≡ is_record mark size bytes
unfolding is_record
record_of_front mark size n bytes marked whole =
    ap₂ ◌&&◌ (length_of_front size n bytes whole) (mark_of_front mark n bytes marked)

-- What a front and the whole input give: the same refusal, or the same part and, of what follows it, a front that is
-- not cut before so many bytes.
data Alike {A : Type 0} (room : ℕ) (front whole : Outcome (A × List ℕ)) : Type 0 where
  refusals : (k : ℕ) → front ≡ refused k → whole ≡ refused k → Alike room front whole
  readings : (a : A) (rest : List ℕ) (n : ℕ) → room ≤ n → front ≡ accepted (a, take n rest)
      → whole ≡ accepted (a, rest) → Alike room front whole

module _ {A : Type 0} {room : ℕ} where
  check_alike : (k : ℕ) (b : Bool) {front whole : Outcome (A × List ℕ)} → (b ≡ true → Alike room front whole)
      → Alike room (check k b front) (check k b whole)
  unfolding check
  check_alike k true rest = rest refl
  check_alike k false rest = refusals k refl refl

  part_alike : (o : Outcome A) (n : ℕ) (rest : List ℕ) → room ≤ n
      → Alike room (and_then o (λ a. accepted (a, take n rest))) (and_then o (λ a. accepted (a, rest)))
  unfolding and_then
  part_alike (refused k) n rest h = refusals k refl refl
  part_alike (accepted a) n rest h = readings a rest n h refl refl

  -- One part and then the others.
  parts_alike : (size : ℕ) {front whole : Outcome (A × List ℕ)} (others : List ℕ → Outcome (List A × List ℕ))
      → Alike (room + size) front whole
      → ((n : ℕ) (rest : List ℕ) → room + size ≤ n → Alike room (others (take n rest)) (others rest))
      → Alike room (read_more front others) (read_more whole others)
  parts_alike size others (refusals k e f) on =
      refusals k (and_then_stops _ _ e) (and_then_stops _ _ f)
  parts_alike size {front} {whole} others (readings a rest n h e f) on = go (on n rest h)
    where
      go : Alike room (others (take n rest)) (others rest) → Alike room (read_more front others) (read_more whole others)
      go (refusals k i j) =
          refusals k (and_then_goes_on front _ e ∙ and_then_stops _ _ i) (and_then_goes_on whole _ f ∙ and_then_stops _ _ j)
      go (readings parts more m l i j) =
          readings (a ∷ parts) more m l (more_read front others e i) (more_read whole others f j)

module _ (L K : ℕ) where
  line_alike : (room lines n : ℕ) (bytes : List ℕ) → room + size_in ≤ n
      → Alike room (read_line L K lines (take n bytes)) (read_line L K lines bytes)
  unfolding read_line
  line_alike room lines n bytes h =
      rw (
        record_of_front mark_in size_in n bytes (omega arith) (omega arith),
        get_or-take n bytes 2 0 (omega arith),
        get_or-take n bytes 3 0 (omega arith),
        get_or-take n bytes 4 0 (omega arith),
        get_or-take n bytes 5 0 (omega arith),
        get_or-take n bytes 6 0 (omega arith),
        drop_of_front size_in n bytes (omega arith),
      )
      (check_alike 3 (is_record mark_in size_in bytes)
      (λ due. part_alike (fields_to_line L K lines (get_or bytes 2 0) (get_or bytes 3 0) (get_or bytes 4 0) (get_or bytes 5 0)
      (get_or bytes 6 0)) (n - size_in) (drop size_in bytes) (omega arith)))

  lines_alike : (room lines count n : ℕ) (bytes : List ℕ) → room + count * size_in ≤ n
      → Alike room (read_lines L K lines count (take n bytes)) (read_lines L K lines count bytes)
  unfolding read_lines
  lines_alike room lines zero n bytes h = readings [] bytes n (omega arith) refl refl
  lines_alike room lines (suc count) n bytes h =
      parts_alike (count * size_in) (read_lines L K lines count)
      (line_alike (room + count * size_in) lines n bytes (omega arith))
      (λ m rest l. lines_alike room lines count m rest l)

  thread_alike : (room n : ℕ) (bytes : List ℕ) → room + (size_th + max_lines * size_in) ≤ n
      → Alike room (read_thread L K (take n bytes)) (read_thread L K bytes)
  unfolding read_thread
  thread_alike room n bytes h =
      let lines = get_or bytes 2 0 in
      rw (
        record_of_front mark_th size_th n bytes (omega arith) (omega arith),
        get_or-take n bytes 2 0 (omega arith),
        drop_of_front size_th n bytes (omega arith),
      )
      (check_alike 3 (is_record mark_th size_th bytes)
      (λ due. check_alike 4 (leb lines max_lines)
      (λ few. lines_alike room lines lines (n - size_th) (drop size_th bytes)
      (omega (arith, leb-true lines max_lines few)))))

  threads_alike : (room count n : ℕ) (bytes : List ℕ) → room + count * (size_th + max_lines * size_in) ≤ n
      → Alike room (read_threads L K count (take n bytes)) (read_threads L K count bytes)
  unfolding read_threads
  threads_alike room zero n bytes h = readings [] bytes n (omega arith) refl refl
  threads_alike room (suc count) n bytes h =
      let size = size_th + max_lines * size_in in
      parts_alike (count * size) (read_threads L K count)
      (thread_alike (room + count * size) n bytes (omega arith))
      (λ m rest l. threads_alike room count m rest l)

  -- The front ends after the threads where the whole does, if it would have a byte more.
  ends_alike : (threads : List (List Line)) (n : ℕ) (rest : List ℕ) → 1 ≤ n
      → ends_after L K (threads, take n rest) ≡ ends_after L K (threads, rest)
  unfolding ends_after
  ends_alike threads zero rest h = absurd (omega arith)
  ends_alike threads (suc n) [] h = refl
  ends_alike threads (suc n) (b ∷ rest) h = rw (eqb-suc-zero (length (take n rest)), eqb-suc-zero (length rest))

  judged_alike : {front whole : Outcome (List (List Line) × List ℕ)} → Alike 1 front whole
      → and_then front (ends_after L K) ≡ and_then whole (ends_after L K)
  judged_alike (refusals k e f) = and_then_stops _ _ e ∙ sym (and_then_stops _ _ f)
  judged_alike (readings threads rest n h e f) =
      and_then_goes_on _ _ e ∙ ends_alike threads n rest h ∙ sym (and_then_goes_on _ _ f)

check_same : {A : Type 0} (k : ℕ) (b : Bool) {front whole : Outcome A} → (b ≡ true → front ≡ whole)
    → check k b front ≡ check k b whole
unfolding check
check_same k true rest = rest refl
check_same k false rest = refl

-- A front that is longer than the longest program is judged as the whole input is.
pub longer_judged_by_front : (n : ℕ) (bytes : List ℕ) → size_pr + max_threads * (size_th + max_lines * size_in) < n
    → read_program (take n bytes) ≡ read_program bytes
unfolding read_program
longer_judged_by_front n bytes h =
    let T = get_or bytes 2 0 in
    let L = get_or bytes 3 0 in
    let K = get_or bytes 4 0 in
    rw (
      record_of_front mark_pr size_pr n bytes (omega arith) (omega arith),
      get_or-take n bytes 2 0 (omega arith),
      get_or-take n bytes 3 0 (omega arith),
      get_or-take n bytes 4 0 (omega arith),
      drop_of_front size_pr n bytes (omega arith),
    )
    (check_same 1 (is_record mark_pr size_pr bytes)
    (λ due. check_same 2 (are_in_range T L K)
    (λ ranged. judged_alike L K
    (threads_alike L K 1 T (n - size_pr) (drop size_pr bytes) (omega (arith, (in_range T L K ranged).few_threads))))))
