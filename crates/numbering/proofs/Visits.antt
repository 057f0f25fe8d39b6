-- The runs in the order of schedules: those of at most n + 1 threads are the empty one and then the kids of those of at
-- most n.
use Prim.Native.Nat.{ℕ, zero, suc, ◌≤◌, ◌<◌}
use native.Mathlib.Omega.{arith}
use native.Mathlib.Decide.{dec_lt}
use mathlib.Core.Path.{◌≡◌, refl, sym, ap, ap₂, ◌∙◌, subst, subst₂}
use mathlib.Core.Logic.{⊎_elim}
use mathlib.Core.Bool.{Bool}
use mathlib.Core.List.{List, [], ◌∷◌, ◌++◌, flat_map, filter_map, filter_map-append, filter_map-map, filter_map-cons-some}
use mathlib.Core.List.Memᴰ
use mathlib.Core.List.{Memᴰ as Member}
use mathlib.Core.Option.{Option, none, some, map, Option-elim, bind, map-eq-some_iff, bind-eq-some_iff}
use mathlib.Core.Option.{none-ne-some}
use lib.ListN.{length}
use Rattle.lists.proofs.Ends.{from_the_end}
use Rattle.numbering.specs.Schedule.{Schedule, threads, up_to, of_length, Earlier}
use Rattle.numbering.specs.Numbering.{Visit, visit, visits}
use Rattle.numbering.specs.Queue.{Steps}
use Rattle.numbering.proofs.Kept.{kept_from, kept_of, kept_alike, none_kept}
use Rattle.numbering.proofs.Schedules.{Ascending, ascending_kept, thread_in_range, every_schedule}
use Rattle.numbering.proofs.Schedules.{schedules_in_order, followed, schedules_step_by_step}

abbrev pub visit_by : {A : Type 0} → (Schedule → Option A) → Schedule → Option (Visit A)
visit_by reached s = map (visit s) (reached s)

-- The visits one step after v.
unfoldable pub kids : {A : Type 0} → ℕ → (ℕ → A → Option A) → Visit A → List (Visit A)
kids T step v = filter_map (λ t. map (visit (v.path ++ t ∷ [])) (step t v.key)) (threads T)

module _ {A : Type 0} {same : A → A → Bool} {T : ℕ} {reached : Schedule → Option A} {start : A}
    {step : ℕ → A → Option A} (laws : Steps same T reached start step) where
  after_one : (s : Schedule)
      → filter_map (visit_by reached) (followed T s) ≡ Option-elim (visit_by reached s) [] (kids T step)
  unfolding kids bind Option-elim
  after_one s =
      filter_map-map (λ t. s ++ t ∷ []) (visit_by reached) (threads T)
      ∙ kept_alike (λ t. visit_by reached (s ++ t ∷ []))
      (λ t. map (visit (s ++ t ∷ [])) (bind (reached s) (step t))) (threads T)
      (λ t m. ap (map (visit (s ++ t ∷ []))) (laws.one_more s t (omega (arith, thread_in_range 0 T m))))
      ∙ go (reached s)
    where
      go : (o : Option A) → filter_map (λ t. map (visit (s ++ t ∷ [])) (bind o (step t))) (threads T)
          ≡ Option-elim (map (visit s) o) [] (kids T step)
      go none = none_kept (λ t. none) (threads T) (λ t m. refl)
      go (some a) = refl

  after_each : (l : List Schedule)
      → filter_map (visit_by reached) (flat_map (followed T) l) ≡ flat_map (kids T step) (filter_map (visit_by reached) l)
  unfolding flat_map filter_map
  after_each [] = refl
  after_each (s ∷ l) =
      filter_map-append (visit_by reached) (followed T s) (flat_map (followed T) l) ∙ ap₂ ◌++◌ (after_one s) (after_each l)
      ∙ go (visit_by reached s)
    where
      rest : List (Visit A)
      rest = filter_map (visit_by reached) l

      go : (o : Option (Visit A)) → Option-elim o [] (kids T step) ++ flat_map (kids T step) rest
          ≡ flat_map (kids T step) (Option-elim o rest (λ v. v ∷ rest))
      go none = refl
      go (some v) = refl

  first_visit : (l : List Schedule)
      → filter_map (visit_by reached) ([] ∷ l) ≡ visit [] start ∷ filter_map (visit_by reached) l
  first_visit l = filter_map-cons-some (visit_by reached) [] l (ap (map (visit [])) laws.at_start)

  pub visits_of_no_thread : visits T reached zero ≡ visit [] start ∷ []
  unfolding visits up_to of_length filter_map
  visits_of_no_thread = first_visit []

  pub visits_step_by_step : (n : ℕ)
      → visits T reached (suc n) ≡ visit [] start ∷ flat_map (kids T step) (visits T reached n)
  unfolding visits
  visits_step_by_step n =
      ap (filter_map (visit_by reached)) (schedules_step_by_step T n) ∙ first_visit (flat_map (followed T) (up_to T n))
      ∙ ap (λ l. visit [] start ∷ l) (after_each (up_to T n))

  -- A run's last step.
  pub record LastStep (s : Schedule) (t : ℕ) (b : A) : Type 0 where
    pub thread : t < T
    pub before : A
    pub run : reached s ≡ some before
    pub made : step t before ≡ some b

  pub last_step : (s : Schedule) (t : ℕ) {b : A} → reached (s ++ t ∷ []) ≡ some b → LastStep s t b
  last_step s t {b} h = go (dec_lt t T)
    where
      go : Dec (t < T) → LastStep s t b
      go (yes lt) =
          let r = (bind-eq-some_iff (reached s) (step t)).0 (sym (laws.one_more s t lt) ∙ h) in
          record { thread = lt; before = r.0; run = r.1; made = r.2 }
      go (no n) = absurd (none-ne-some _ (sym (laws.no_such_thread s t (omega arith)) ∙ h))

  threads_of_run : (s : Schedule) (a : A) → reached s ≡ some a → (t : ℕ) → Member t s → t < T
  threads_of_run =
      from_the_end (λ s. (a : A) → reached s ≡ some a → (t : ℕ) → Member t s → t < T)
      (λ a h t m. absurd (Memᴰ.not-nil m)) further
    where
      further : (s : Schedule) (u : ℕ) → ((a : A) → reached s ≡ some a → (t : ℕ) → Member t s → t < T)
          → (b : A) → reached (s ++ u ∷ []) ≡ some b → (t : ℕ) → Member t (s ++ u ∷ []) → t < T
      further s u below b h t m =
          let r = last_step s u h in
          ⊎_elim (below r.before r.run t)
          (λ k. subst (λ v. v < T) (sym (Memᴰ.eq_of_singleton k)) r.thread) (Memᴰ.append_cases s m)

  -- What is listed is a run, and every run is listed.
  visit_by_schedule : (s : Schedule) {v : Visit A} → visit_by reached s ≡ some v
      → (s ≡ v.path) × (reached v.path ≡ some v.key)
  visit_by_schedule s {v} h =
      let r = (map-eq-some_iff (visit s) (reached s)).0 h in
      let p : s ≡ v.path = ap (λ w. w.path) r.2 in
      (p, ap reached (sym p) ∙ r.1 ∙ ap (λ w. some w.key) r.2)

  pub visit_is_run : (n : ℕ) {v : Visit A} → Member v (visits T reached n) → reached v.path ≡ some v.key
  unfolding visits
  visit_is_run n m = let r = kept_from (visit_by reached) (up_to T n) m in (visit_by_schedule r.0 r.2).1

  pub run_is_visit : (n : ℕ) (s : Schedule) (a : A) → reached s ≡ some a → length s ≤ n
      → Member (visit s a) (visits T reached n)
  unfolding visits
  run_is_visit n s a h le =
      kept_of (visit_by reached) (up_to T n) (every_schedule T n s (threads_of_run s a h) le)
      (ap (map (visit s)) h)

  pub visits_in_order : (n : ℕ) → Ascending (λ v w. Earlier v.path w.path) (visits T reached n)
  unfolding visits
  visits_in_order n =
      ascending_kept Earlier (λ v w. Earlier v.path w.path) (visit_by reached)
      (λ r s e v w p q. subst₂ Earlier (visit_by_schedule r p).0 (visit_by_schedule s q).0 e) (up_to T n)
      (schedules_in_order T n)
