-- The prefix of a first schedule is the first schedule of its own situation, which stands at an earlier place.
use Prim.Native.Nat.{ℕ, suc, ◌+◌}
use native.Mathlib.Omega.{arith}
use mathlib.Core.Path.{◌≡◌, sym, ap, ◌∙◌, subst}
use mathlib.Core.Logic.{⊎_elim}
use mathlib.Core.Bool.{Bool}
use mathlib.Core.List.{List, [], ◌∷◌, ◌++◌, map}
use mathlib.Core.Option.{Option, some}
use lib.ListN.{length, take, get_elem?, length-append}
use Rattle.lists.proofs.Places.{place_in_map, place_of_map, place_taken}
use Rattle.lists.proofs.Ends.{same_last}
use Rattle.numbering.specs.Schedule.{Schedule}
use Rattle.numbering.specs.Numbering.{Visit, Entry, firsts, entries, FirstSchedule, visit}
use Rattle.numbering.specs.Queue.{first, queue, Steps}
use Rattle.numbering.proofs.Fronts.{front_taken, place_behind_front}
use Rattle.numbering.proofs.Firsts.{firsts_front}
use Rattle.numbering.proofs.FirstSchedules.{place_has_first_schedule, first_schedule_placed}
use Rattle.numbering.proofs.Expansion.{visit_of}
use Rattle.numbering.proofs.Numbered.{table_in_firsts, same_first_visits}
use Rattle.numbering.proofs.Origins.{Parent, Rooted, rooted_front, queue_rooted}
use Rattle.numbering.proofs.Entries.{entries_by_queue}

module _ {A : Type 0} {same : A → A → Bool} {T : ℕ} {reached : Schedule → Option A} {start : A}
    {step : ℕ → A → Option A} (laws : Steps same T reached start step) where
  abbrev table : ℕ → List (Entry A)
  table i = queue same T start step i

  abbrev numbered : ℕ → List (Visit A)
  numbered n = firsts same T reached n

  -- A place among the first visits is that place of the queue, once as many places are expanded.
  pub place_in_queue : (n k : ℕ) (v : Visit A) → get_elem? (numbered n) k ≡ some v
      → (x : Entry A) × (get_elem? (table (n + k)) k ≡ some x) × (visit_of x ≡ v)
  place_in_queue n k v h =
      place_in_map visit_of (table N) k (sym (place_taken (suc N) (map visit_of (table N)) k (omega arith)) ∙ in_front)
    where
      N : ℕ
      N = n + k

      in_firsts : get_elem? (numbered N) k ≡ some v
      in_firsts = place_behind_front (numbered n) (numbered N) (firsts_front laws n N (omega arith)) k h

      in_front : get_elem? (take (suc N) (map visit_of (table N))) k ≡ some v
      in_front =
          subst (λ l. get_elem? l k ≡ some v) (same_first_visits laws N N (omega arith))
          (place_taken (suc N) (numbered N) k (omega arith) ∙ in_firsts)

  pub queue_has_first_schedules : (i k : ℕ) (x : Entry A) → get_elem? (table i) k ≡ some x
      → FirstSchedule reached x.path x.key
  queue_has_first_schedules i k x h =
      place_has_first_schedule laws i k (visit_of x)
      (place_behind_front (map visit_of (table i)) (numbered i) (table_in_firsts laws i i (omega arith)) k
      (place_of_map visit_of (table i) k h))

  -- Theorem: the prefix of a first schedule is the first schedule of its own situation.
  pub prefix_of_first_schedule : (s : Schedule) (t : ℕ) (b : A) → FirstSchedule reached (s ++ t ∷ []) b
      → (a : A) × FirstSchedule reached s a × (step t a ≡ some b)
  unfolding first
  prefix_of_first_schedule s t b f = ⊎_elim root child (queue_rooted same T start step N k x w.1)
    where
      n : ℕ
      n = length (s ++ t ∷ [])

      p : (k : ℕ) × (get_elem? (numbered n) k ≡ some (visit (s ++ t ∷ []) b))
      p = first_schedule_placed laws (s ++ t ∷ []) b f n (omega arith)

      k : ℕ
      k = p.0

      N : ℕ
      N = n + k

      w : (x : Entry A) × (get_elem? (table N) k ≡ some x) × (visit_of x ≡ visit (s ++ t ∷ []) b)
      w = place_in_queue n k (visit (s ++ t ∷ []) b) p.1

      x : Entry A
      x = w.0

      root : (k ≡ 0) × (x ≡ first start) → (a : A) × FirstSchedule reached s a × (step t a ≡ some b)
      root e = absurd (omega (arith, no_length, length-append s (t ∷ [])))
        where
          no_length : 0 ≡ length (s ++ t ∷ [])
          no_length = ap (λ z. length z.path) (sym e.1) ∙ ap (λ v. length v.path) w.2

      child : Parent T start step (table N) k x → (a : A) × FirstSchedule reached s a × (step t a ≡ some b)
      child r = (
        a,
        subst (λ z. FirstSchedule reached z a) last.0
            (queue_has_first_schedules N r.index r.parent r.there),
        sym (ap (λ u. step u a) last.1) ∙ r.made ∙ ap (λ v. some v.key) w.2,
      )
        where
          a : A
          a = r.parent.key

          s' : Schedule
          s' = r.parent.path

          path_of_x : s' ++ r.thread ∷ [] ≡ s ++ t ∷ []
          path_of_x = ap (λ z. z.path) (sym r.child_is) ∙ ap (λ v. v.path) w.2

          last : (s' ≡ s) × (r.thread ≡ t)
          last = same_last s' s r.thread t path_of_x

  -- Theorem: of the first n + 1 entries, the first has the start, and every other is a child of an earlier one.
  pub entries_rooted : (n : ℕ) → Rooted T start step (take (suc n) (entries same T reached n))
  entries_rooted n =
      subst (Rooted T start step) (sym (entries_by_queue laws n n (omega arith)))
      (rooted_front T start step (take (suc n) (table n)) (table n)
      (front_taken (suc n) (table n)) (queue_rooted same T start step n))
