-- The queue's table, without where each place was reached from, is the list of first visits: the first i + 1 agree for
-- every i.
use Prim.Native.Nat.{ℕ, zero, suc, ◌≤◌, ◌<◌}
use native.Mathlib.Omega.{arith}
use native.Mathlib.Decide.{dec_lt}
use mathlib.Core.Path.{◌≡◌, sym, ap, ◌∙◌, subst₂}
use mathlib.Core.Bool.{Bool}
use mathlib.Core.List.{List, [], ◌∷◌, map, flat_map, IsPrefix}
use mathlib.Core.Option.{Option}
use lib.ListN.{length, take, length-map}
use lib.Seq.{take_all}
use Rattle.numbering.specs.Schedule.{Schedule}
use Rattle.numbering.specs.Numbering.{Visit, Entry, firsts, visit}
use Rattle.numbering.specs.Queue.{first, queue, Steps}
use Rattle.numbering.proofs.Fronts.{front_of_equal, front_of_front, fronts_of_each_other, front_taken}
use Rattle.numbering.proofs.Fronts.{front_of_map, taken_from_front}
use Rattle.numbering.proofs.Extend.{extend_front}
use Rattle.numbering.proofs.Visits.{kids}
use Rattle.numbering.proofs.Firsts.{key_of, expanded, expanded_front, firsts_of_no_thread, firsts_step_by_step}
use Rattle.numbering.proofs.Firsts.{firsts_front}
use Rattle.numbering.proofs.Turns.{front_settled}
use Rattle.numbering.proofs.Expansion.{visit_of, visited_by_expansion}

module _ {A : Type 0} {same : A → A → Bool} {T : ℕ} {reached : Schedule → Option A} {start : A}
    {step : ℕ → A → Option A} (laws : Steps same T reached start step) where
  abbrev table : ℕ → List (Entry A)
  table i = queue same T start step i

  abbrev visited : ℕ → List (Visit A)
  visited i = map visit_of (table i)

  abbrev grown : List (Visit A) → List (Visit A)
  grown l = expanded same T start step l

  abbrev numbered : ℕ → List (Visit A)
  numbered n = firsts same T reached n

  visited_in_firsts : (i : ℕ) → IsPrefix (visited i) (numbered i)
  unfolding queue first
  visited_in_firsts zero = front_of_equal (visit [] start ∷ []) (numbered zero) (sym (firsts_of_no_thread laws))
  visited_in_firsts (suc i) =
      subst₂ IsPrefix
      (ap (λ m. grown (map visit_of m)) (sym (front_settled same T start step i))
      ∙ sym (visited_by_expansion same T start step (suc i)))
      (sym (firsts_step_by_step laws i))
      (expanded_front same T start step (map visit_of settled) (numbered i)
      (front_of_front (map visit_of settled) (visited i) (numbered i)
      (front_of_map visit_of settled (table i) (front_taken (suc i) (table i))) (visited_in_firsts i)))
    where
      settled : List (Entry A)
      settled = take (suc i) (table i)

  -- A table whose every place is expanded has all first visits, of any length.
  pub firsts_in_table : (i : ℕ) → length (table i) ≤ i → (n : ℕ) → IsPrefix (numbered n) (visited i)
  firsts_in_table i h zero =
      subst₂ IsPrefix (sym (firsts_of_no_thread laws)) (sym (visited_by_expansion same T start step i))
      (extend_front same key_of (visit [] start ∷ []) (flat_map (kids T step) (map visit_of (take i (table i)))))
  firsts_in_table i h (suc n) =
      subst₂ IsPrefix (sym (firsts_step_by_step laws n))
      (ap (λ m. grown (map visit_of m)) (sym (take_all i (table i) h)) ∙ sym (visited_by_expansion same T start step i))
      (expanded_front same T start step (numbered n) (visited i) (firsts_in_table i h n))

  pub table_in_firsts : (i n : ℕ) → i ≤ n → IsPrefix (visited i) (numbered n)
  table_in_firsts i n le =
      front_of_front (visited i) (numbered i) (numbered n) (visited_in_firsts i) (firsts_front laws i n le)

  pub same_first_visits : (i n : ℕ) → i ≤ n → take (suc i) (numbered n) ≡ take (suc i) (visited i)
  same_first_visits i n le = go (dec_lt i (length (visited i)))
    where
      go : Dec (i < length (visited i)) → take (suc i) (numbered n) ≡ take (suc i) (visited i)
      go (yes lt) = taken_from_front (suc i) (visited i) (numbered n) (table_in_firsts i n le) lt
      go (no ge) =
          ap (take (suc i)) (fronts_of_each_other (numbered n) (visited i)
          (firsts_in_table i (omega (arith, length-map (table i) visit_of)) n) (table_in_firsts i n le))

  -- Theorem: looking at longer schedules changes none of the first i + 1.
  pub longer_schedules_number_alike : (i n : ℕ) → i ≤ n → take (suc i) (numbered n) ≡ take (suc i) (numbered i)
  longer_schedules_number_alike i n le = same_first_visits i n le ∙ sym (same_first_visits i i (omega arith))
