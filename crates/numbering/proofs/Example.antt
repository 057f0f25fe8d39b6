-- The definitions and the queue computed: a counter modulo m, to which thread 0 adds one and which thread 1 doubles
-- unless it is 0.
use Prim.Native.Nat.{ℕ, zero, suc, ◌+◌, ◌*◌, ◌%◌, ◌≤◌}
use native.Mathlib.Omega.{arith}
use mathlib.Core.Path.{◌≡◌, refl, ap}
use mathlib.Core.Bool.{cond}
use mathlib.Core.List.{[], ◌∷◌, flat_map, filter_map}
use mathlib.Core.Option.{Option, none, some, Option-elim, bind, map-id}
use lib.Dec.{eqb}
use borrow.Author.Tests.{eq-eqb, eqb-true}
use Rattle.numbering.specs.Schedule.{Schedule, threads_from, of_length, up_to, after, situation_after}
use Rattle.numbering.specs.Numbering.{Entry, extend, known, keep_unless, number, visits, firsts, by_of, from_of}
use Rattle.numbering.specs.Numbering.{entry_of, entries}
use Rattle.numbering.specs.Verdict.{Verdict, found, full, closed, judged, cut, verdict, entry_ends}
use Rattle.numbering.specs.Queue.{first, child, children_by, children_at, queue, Steps}
use Rattle.numbering.proofs.Verdicts.{verdict_by_queue}
use Rattle.numbering.proofs.Simulation.{steps_of_simulation}

count : ℕ → ℕ → ℕ → Option ℕ
count m zero a = some ((a + 1) % m)
count m (suc zero) zero = none
count m (suc zero) (suc a) = some ((2 * suc a) % m)
count m (suc (suc t)) a = none

ends_at : ℕ → ℕ → Option ℕ
ends_at k a = cond (eqb a k) (some k) none

reached : ℕ → Schedule → Option ℕ
reached m = situation_after (count m) 0 (λ a. a)

counted : (m : ℕ) → Steps eqb 2 (reached m) 0 (count m)
unfolding reached count
counted m =
    steps_of_simulation eqb 2 0 (count m) (λ a. a) (count m) eqb-true (λ a. eq-eqb a a refl)
    (λ s. Unit {0}) tt (λ t s u g h. tt) (λ t s lt g i. map-id i (count m t s)) no_thread
  where
    no_thread : (t a : ℕ) → 2 ≤ t → Unit {0} → count m t a ≡ none
    no_thread zero a le g = absurd (omega arith)
    no_thread (suc zero) a le g = absurd (omega arith)
    no_thread (suc (suc t)) a le g = refl

entry : ℕ → ℕ → Schedule → ℕ → Entry ℕ
entry from by path key = record { from = from; by = by; path = path; key = key }

-- The definition itself, over all schedules of at most three threads.
entries_of_three : entries eqb 2 (reached 3) 3 ≡ entry 0 0 [] 0 ∷ entry 1 1 (0 ∷ []) 1 ∷ entry 2 1 (0 ∷ 0 ∷ []) 2 ∷ []
unfolding entries entry_of from_of by_of firsts visits up_to of_length threads_from number known extend keep_unless
    reached situation_after after bind count entry flat_map filter_map Option-elim
entries_of_three = refl

-- The verdict for N places, by the theorem and the queue: 2^101 - 1 schedules stand behind the last one.
answer : (m k N : ℕ) → Verdict (Entry ℕ) ℕ
unfolding cut judged queue first children_at children_by child threads_from known extend keep_unless count filter_map
    Option-elim ends_at
answer m k N = cut (entry_ends (ends_at k)) N (queue eqb 2 0 (count m) N)

as_answered : (m k N : ℕ) → verdict eqb 2 (reached m) (ends_at k) N ≡ answer m k N
unfolding answer
as_answered m k N = verdict_by_queue (counted m) (ends_at k) N

found_in_three : verdict eqb 2 (reached 3) (ends_at 1) 3
    ≡ record { places = entry 0 0 [] 0 ∷ entry 1 1 (0 ∷ []) 1 ∷ []; outcome = found (entry 1 1 (0 ∷ []) 1) 1 }
unfolding answer entry
found_in_three = as_answered 3 1 3

full_with_two : verdict eqb 2 (reached 3) (ends_at 2) 2
    ≡ record { places = entry 0 0 [] 0 ∷ entry 1 1 (0 ∷ []) 1 ∷ []; outcome = full }
unfolding answer entry
full_with_two = as_answered 3 2 2

closed_with_hundred : (verdict eqb 2 (reached 100) (ends_at 100) 100).outcome ≡ closed
unfolding answer
closed_with_hundred = ap (λ v. v.outcome) (as_answered 100 100 100)
