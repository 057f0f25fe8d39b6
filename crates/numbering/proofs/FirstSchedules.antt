-- Each situation stands in the numbering with its first schedule, and the first place that passes a test is the place
-- of the first schedule that passes it.
use Prim.Native.Nat.{ℕ, ◌+◌, ◌≤◌}
use native.Mathlib.Omega.{arith}
use mathlib.Core.Path.{◌≡◌, refl, sym, ap, ◌∙◌, subst}
use mathlib.Core.Logic.{◌⊎◌, inl, inr, ⊎_elim}
use mathlib.Core.Bool.{Bool}
use mathlib.Core.List.Memᴰ
use mathlib.Core.List.{List, [], ◌∷◌, ◌++◌, IsPrefix, Memᴰ as Member}
use mathlib.Core.Option.{Option, some, none-ne-some}
use lib.ListN.{length, take, get_elem?}
use Rattle.lists.proofs.Places.{place_in_range, place_of_member}
use Rattle.lists.proofs.Tests.{not_both}
use Rattle.numbering.specs.Schedule.{Schedule, Earlier}
use Rattle.numbering.specs.Numbering.{Visit, extend, visits, firsts, FirstSchedule, visit}
use Rattle.numbering.specs.Queue.{Steps}
use Rattle.numbering.proofs.Fronts.{place_behind_front, taken_from_front}
use Rattle.numbering.proofs.Extend.{Known, Added, old_or_added, member_is_known, offered_is_known}
use Rattle.numbering.proofs.Extend.{known_member}
use Rattle.numbering.proofs.Schedules.{Ascending, later_in_order, not_earlier_both_ways}
use Rattle.numbering.proofs.Visits.{visit_is_run, run_is_visit, visits_in_order}
use Rattle.numbering.proofs.Firsts.{key_of, firsts_front}

module _ {A : Type 0} {same : A → A → Bool} {T : ℕ} {reached : Schedule → Option A} {start : A}
    {step : ℕ → A → Option A} (laws : Steps same T reached start step) where
  abbrev numbered : ℕ → List (Visit A)
  numbered n = firsts same T reached n

  -- A first visit among all visits.
  first_visit_added : (n k : ℕ) (v : Visit A) → get_elem? (numbered n) k ≡ some v
      → Added same key_of [] (visits T reached n) k v
  unfolding firsts
  first_visit_added n k v h =
      ⊎_elim (λ e. absurd (none-ne-some _ e)) (λ r. r) (old_or_added same key_of [] (visits T reached n) k h)

  -- Theorem: no schedule that passes a test is earlier than the first place that passes it.
  pub first_passing_lem : (n k : ℕ) (v : Visit A) → get_elem? (numbered n) k ≡ some v → (P : A → Type 0)
      → ((w : Visit A) → Member w (take k (numbered n)) → P w.key → ⊥)
      → (s : Schedule) (b : A) → reached s ≡ some b → P b → (s ≡ v.path) ⊎ Earlier v.path s
  unfolding firsts
  first_passing_lem n k v h P none_before s b run p = ⊎_elim before here (Memᴰ.append_cases r.before listed)
    where
      m : ℕ
      m = n + length s

      front : IsPrefix (numbered n) (numbered m)
      front = firsts_front laws n m (omega arith)

      r : Added same key_of [] (visits T reached m) k v
      r = first_visit_added m k v (place_behind_front (numbered n) (numbered m) front k h)

      short : k ≤ length (numbered n)
      short = omega (arith, place_in_range (numbered n) k h)

      same_front : extend same key_of [] r.before ≡ take k (numbered n)
      same_front = r.front ∙ taken_from_front k (numbered n) (numbered m) front short

      listed : Member (visit s b) (r.before ++ v ∷ r.after)
      listed = subst (Member (visit s b)) r.split (run_is_visit laws m s b run (omega arith))

      before : Member (visit s b) r.before → (s ≡ v.path) ⊎ Earlier v.path s
      before l =
          let c = offered_is_known same key_of laws.same_self [] r.before l in
          let w = known_member same key_of laws.same_means b (take k (numbered n))
          (subst (Known same key_of b) same_front c) in
          absurd (none_before w.0 w.1 (subst P w.2 p))

      after : Member (visit s b) r.after → Earlier v.path s
      after =
          later_in_order (λ x y. Earlier x.path y.path) r.before v r.after
          (subst (Ascending (λ x y. Earlier x.path y.path)) r.split (visits_in_order laws m)) (visit s b)

      here : Member (visit s b) (v ∷ r.after) → (s ≡ v.path) ⊎ Earlier v.path s
      here l = ⊎_elim (λ e. inl (ap (λ x. x.path) e)) (λ l'. inr (after l')) (Memᴰ.cases_cons l)

  -- Theorem: each place has the first schedule that reaches its situation.
  pub place_has_first_schedule : (n k : ℕ) (v : Visit A) → get_elem? (numbered n) k ≡ some v
      → FirstSchedule reached v.path v.key
  unfolding firsts
  place_has_first_schedule n k v h =
      record {
        reaches = visit_is_run laws n
            (subst (Member v) (sym r.split) (Memᴰ.append_right r.before (Member.head refl)));
        earliest = λ s run. first_passing_lem n k v h (λ b. b ≡ v.key) differs s v.key run refl;
      }
    where
      r : Added same key_of [] (visits T reached n) k v
      r = first_visit_added n k v h

      differs : (w : Visit A) → Member w (take k (numbered n)) → w.key ≡ v.key → ⊥
      differs w l e =
          not_both (subst (λ a. Known same key_of a (take k (numbered n))) e
          (member_is_known same key_of laws.same_self (take k (numbered n)) l)) r.fresh

  -- Every situation that a schedule of at most n threads reaches is among the first visits up to n.
  pub every_situation_numbered : (n : ℕ) (s : Schedule) (a : A) → reached s ≡ some a → length s ≤ n
      → Known same key_of a (numbered n)
  unfolding firsts
  every_situation_numbered n s a run le =
      offered_is_known same key_of laws.same_self [] (visits T reached n) (run_is_visit laws n s a run le)

  -- A first schedule stands in the numbering.
  pub first_schedule_placed : (s : Schedule) (a : A) → FirstSchedule reached s a → (n : ℕ) → length s ≤ n
      → (k : ℕ) × (get_elem? (numbered n) k ≡ some (visit s a))
  first_schedule_placed s a f n le = (p.0, p.1 ∙ ap some is)
    where
      w : (v : Visit A) × Member v (numbered n) × (a ≡ v.key)
      w = known_member same key_of laws.same_means a (numbered n) (every_situation_numbered n s a f.reaches le)

      p : (k : ℕ) × (get_elem? (numbered n) k ≡ some w.0)
      p = place_of_member (numbered n) w.1

      g : FirstSchedule reached w.0.path w.0.key
      g = place_has_first_schedule n p.0 w.0 p.1

      path_is : w.0.path ≡ s
      path_is =
          ⊎_elim (λ e. e)
          (λ l. ⊎_elim sym (λ l'. absurd (not_earlier_both_ways s w.0.path l l'))
          (g.earliest s (f.reaches ∙ ap some w.2)))
          (f.earliest w.0.path (g.reaches ∙ ap some (sym w.2)))

      is : w.0 ≡ visit s a
      is = λ i. record { path = path_is i; key = sym w.2 i }
