-- The PR record: its range, and the record that is due.
use Prim.Native.Nat.{ℕ, ◌≤◌}
use mathlib.Core.Bool.{true, ◌&&◌, and-eq-true_iff}
use mathlib.Core.List.{List, ◌∷◌, ◌++◌}
use mathlib.Core.Path.{◌≡◌, ◌∙◌}
use native.Mathlib.Omega.{arith}
use lib.ListN.{get_or, drop}
use lib.Seq.{drop-cons}
use lib.Dec.{leb}
use borrow.Author.Tests.{leb-true, le-leb}
use Rattle.limits.specs.Limits.{max_threads, max_locations, min_values, max_values}
use Rattle.program.specs.Format.{mark_pr, size_pr, is_record, are_in_range}
use Rattle.program.proofs.RecordLaws.{record_stands}

-- Check 2, as inequalities.
pub record InRange (T L K : ℕ) : Type 0 where
  pub some_threads : 1 ≤ T
  pub few_threads : T ≤ max_threads
  pub some_locations : 1 ≤ L
  pub few_locations : L ≤ max_locations
  pub some_values : min_values ≤ K
  pub few_values : K ≤ max_values

pub in_range : (T L K : ℕ) → are_in_range T L K ≡ true → InRange T L K
unfolding are_in_range
in_range T L K test =
    let threads = leb 1 T && leb T max_threads in
    let locations = leb 1 L && leb L max_locations in
    let values = leb min_values K && leb K max_values in
    let first = (and-eq-true_iff threads (locations && values)).0 test in
    let second = (and-eq-true_iff locations values).0 first.1 in
    let t = (and-eq-true_iff (leb 1 T) (leb T max_threads)).0 first.0 in
    let l = (and-eq-true_iff (leb 1 L) (leb L max_locations)).0 second.0 in
    let k = (and-eq-true_iff (leb min_values K) (leb K max_values)).0 second.1 in
    record {
      some_threads = leb-true 1 T t.0;
      few_threads = leb-true T max_threads t.1;
      some_locations = leb-true 1 L l.0;
      few_locations = leb-true L max_locations l.1;
      some_values = leb-true min_values K k.0;
      few_values = leb-true K max_values k.1;
    }

between : (low x high : ℕ) → low ≤ x → x ≤ high → (leb low x && leb x high) ≡ true
between low x high p q = (and-eq-true_iff (leb low x) (leb x high)).1 (le-leb low x p, le-leb x high q)

pub are_in_range_lem : (T L K : ℕ) → InRange T L K → are_in_range T L K ≡ true
unfolding are_in_range
are_in_range_lem T L K h =
    (and-eq-true_iff _ _).1 (
      between 1 T max_threads h.some_threads h.few_threads,
      (and-eq-true_iff _ _).1 (
        between 1 L max_locations h.some_locations h.few_locations,
        between min_values K max_values h.some_values h.few_values,
      ),
    )

-- A PR record that is due is its three fields, and what follows.
pub program_record_stands : (bytes : List ℕ) → is_record mark_pr size_pr bytes ≡ true
    → bytes ≡ mark_pr ++ get_or bytes 2 0 ∷ get_or bytes 3 0 ∷ get_or bytes 4 0 ∷ drop size_pr bytes
program_record_stands bytes due =
    let (whole, marked) = record_stands mark_pr size_pr bytes due in
    marked
    ∙ rw (drop-cons bytes 2 0 (omega arith), drop-cons bytes 3 0 (omega arith), drop-cons bytes 4 0 (omega arith))
