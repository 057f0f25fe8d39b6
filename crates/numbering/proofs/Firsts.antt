-- The first visits step by step: those of at most n + 1 threads are the start and then what is new among the kids of
-- those of at most n.
use Prim.Native.Nat.{ℕ, zero, suc, ◌≤◌, ◌<◌}
use native.Mathlib.Omega.{arith}
use mathlib.Core.Path.{◌≡◌, refl, sym, ap, ◌∙◌, subst}
use mathlib.Core.Logic.{⊎_elim}
use mathlib.Core.Bool.{Bool, true, false}
use mathlib.Core.List.{List, [], ◌∷◌, ◌++◌, flat_map, filter_map, filter_map-append, IsPrefix, Memᴰ as Member}
use mathlib.Core.List.Memᴰ
use mathlib.Core.Option.{Option, some, map, map-eq-some_iff}
use Rattle.numbering.specs.Schedule.{Schedule, threads, of_length, up_to}
use Rattle.numbering.specs.Numbering.{Visit, visits, known, extend, firsts, visit}
use Rattle.numbering.specs.Queue.{Steps}
use Rattle.numbering.proofs.Fronts.{front_of_later, front_of_pieces}
use Rattle.numbering.proofs.Kept.{kept_from, kept_of}
use Rattle.numbering.proofs.Extend.{Known, known_in_append, known_member, known_stays, extend_done}
use Rattle.numbering.proofs.Extend.{extend_from_nothing, extend_append, extend_front_grows, nothing_new}
use Rattle.numbering.proofs.Extend.{offered_is_known, news, news_none, news_known, news_new, extend_adds_news}
use Rattle.numbering.proofs.Schedules.{thread_in_range, thread_listed}
use Rattle.numbering.proofs.Visits.{visit_by, kids, visits_of_no_thread, visits_step_by_step}

abbrev pub key_of : {A : Type 0} → Visit A → A
key_of v = v.key

-- A step that a visit's kid was made by.
pub record Kid {A : Type 0} (T : ℕ) (step : ℕ → A → Option A) (v w : Visit A) : Type 0 where
  pub thread : ℕ
  pub there : thread < T
  pub made : step thread v.key ≡ some w.key
  pub longer : w.path ≡ v.path ++ thread ∷ []

module _ {A : Type 0} (same : A → A → Bool) (T : ℕ) (start : A) (step : ℕ → A → Option A) where
  pub kid_by_step : (v w : Visit A) → Member w (kids T step v) → Kid T step v w
  unfolding kids
  kid_by_step v w m =
      let r = kept_from (λ t. map (visit (v.path ++ t ∷ [])) (step t v.key)) (threads T) m in
      let q = (map-eq-some_iff (visit (v.path ++ r.0 ∷ [])) (step r.0 v.key)).0 r.2 in
      record {
        thread = r.0;
        there = omega (arith, thread_in_range 0 T r.1);
        made = q.1 ∙ ap (λ z. some z.key) q.2;
        longer = ap (λ z. z.path) (sym q.2);
      }

  pub step_gives_kid : (v : Visit A) (t : ℕ) → t < T → (b : A) → step t v.key ≡ some b
      → Member (visit (v.path ++ t ∷ []) b) (kids T step v)
  unfolding kids
  step_gives_kid v t lt b h =
      kept_of (λ u. map (visit (v.path ++ u ∷ [])) (step u v.key)) (threads T)
      (thread_listed 0 T t (omega arith) (omega arith))
      (ap (map (visit (v.path ++ t ∷ []))) h)

  -- Every step from the situation a leads to one that the list has.
  abbrev pub Expanded : List (Visit A) → A → Type 0
  Expanded l a = (t : ℕ) → t < T → (b : A) → step t a ≡ some b → Known same key_of b l

  -- The start, and then what is new among the kids of the list.
  abbrev pub expanded : List (Visit A) → List (Visit A)
  expanded l = extend same key_of (visit [] start ∷ []) (flat_map (kids T step) l)

  pub expanded_front : (l m : List (Visit A)) → IsPrefix l m → IsPrefix (expanded l) (expanded m)
  expanded_front l m p =
      extend_front_grows same key_of (visit [] start ∷ []) (flat_map (kids T step) l) (flat_map (kids T step) m)
      (front_of_pieces (kids T step) l m p)

module _ {A : Type 0} {same : A → A → Bool} {T : ℕ} {reached : Schedule → Option A} {start : A}
    {step : ℕ → A → Option A} (laws : Steps same T reached start step) where
  abbrev joined : List (Visit A) → List (Visit A) → List (Visit A)
  joined l vs = extend same key_of l vs

  abbrev kids_of : Visit A → List (Visit A)
  kids_of v = kids T step v

  abbrev grown : List (Visit A) → List (Visit A)
  grown l = expanded same T start step l

  abbrev StepsKnown : List (Visit A) → A → Type 0
  StepsKnown l a = Expanded same T start step l a

  abbrev numbered : ℕ → List (Visit A)
  numbered n = firsts same T reached n

  no_new_kid : (l : List (Visit A)) (v : Visit A) → StepsKnown l v.key → joined l (kids_of v) ≡ l
  no_new_kid l v h =
      nothing_new same key_of l (kids_of v)
      (λ w m. let r = kid_by_step same T start step v w m in h r.thread r.there w.key r.made)

  pub kids_offered : (l : List (Visit A)) (v : Visit A) → StepsKnown (joined l (kids_of v)) v.key
  kids_offered l v t lt b h =
      offered_is_known same key_of laws.same_self l (kids_of v) (step_gives_kid same T start step v t lt b h)

  -- The kids of a visit whose situation an earlier visit has are known.
  kids_of_news : (l seen vs : List (Visit A)) → ((a : A) → Known same key_of a seen → StepsKnown l a)
      → joined l (flat_map kids_of vs) ≡ joined l (flat_map kids_of (news same key_of seen vs))
  unfolding flat_map
  kids_of_news l seen [] h = ap (λ m. joined l (flat_map kids_of m)) (sym (news_none same key_of seen))
  kids_of_news l seen (v ∷ vs) h =
      extend_append same key_of l (kids_of v) (flat_map kids_of vs)
      ∙ turn (known same key_of v.key seen) refl (kids_of_news l seen vs h) (kids_of_news l' (seen ++ v ∷ []) vs more)
    where
      l' : List (Visit A)
      l' = joined l (kids_of v)

      more : (a : A) → Known same key_of a (seen ++ v ∷ []) → StepsKnown l' a
      more a k = ⊎_elim old new (known_in_append same key_of a seen (v ∷ []) k)
        where
          old : Known same key_of a seen → StepsKnown l' a
          old q t lt b e = known_stays same key_of b l (kids_of v) (h a q t lt b e)

          new : Known same key_of a (v ∷ []) → StepsKnown l' a
          new q =
              let r = known_member same key_of laws.same_means a (v ∷ []) q in
              subst (StepsKnown l') (ap key_of (sym (Memᴰ.eq_of_singleton r.1)) ∙ sym r.2) (kids_offered l v)

      turn : (b : Bool) → known same key_of v.key seen ≡ b
          → joined l (flat_map kids_of vs) ≡ joined l (flat_map kids_of (news same key_of seen vs))
          → joined l' (flat_map kids_of vs) ≡ joined l' (flat_map kids_of (news same key_of (seen ++ v ∷ []) vs))
          → joined l' (flat_map kids_of vs) ≡ joined l (flat_map kids_of (news same key_of seen (v ∷ vs)))
      turn true q e₁ e₂ =
          ap (λ m. joined m (flat_map kids_of vs)) (no_new_kid l v (h v.key q)) ∙ e₁
          ∙ ap (λ m. joined l (flat_map kids_of m)) (sym (news_known same key_of seen v vs q))
      turn false q e₁ e₂ =
          e₂ ∙ sym (extend_append same key_of l (kids_of v) (flat_map kids_of (news same key_of (seen ++ v ∷ []) vs)))
          ∙ ap (λ m. joined l (flat_map kids_of m)) (sym (news_new same key_of seen v vs q))

  -- The first visits, one length after the other.
  pub firsts_of_no_thread : numbered zero ≡ visit [] start ∷ []
  unfolding firsts
  firsts_of_no_thread =
      ap (joined []) (visits_of_no_thread laws) ∙ extend_from_nothing same key_of (visit [] start) []
      ∙ extend_done same key_of (visit [] start ∷ [])

  pub firsts_step_by_step : (n : ℕ) → numbered (suc n) ≡ grown (numbered n)
  unfolding firsts
  firsts_step_by_step n =
      ap (joined []) (visits_step_by_step laws n)
      ∙ extend_from_nothing same key_of (visit [] start) (flat_map kids_of (visits T reached n))
      ∙ kids_of_news (visit [] start ∷ []) [] (visits T reached n) (λ a k. absurd (nothing_known a k))
      ∙ ap grown (sym (extend_adds_news same key_of [] (visits T reached n)))
    where
      nothing_known : (a : A) → Known same key_of a [] → ⊥
      nothing_known a k = Memᴰ.not-nil (known_member same key_of laws.same_means a [] k).1

  visits_front : (n : ℕ) → IsPrefix (visits T reached n) (visits T reached (suc n))
  unfolding visits up_to
  visits_front n = (longest, sym (filter_map-append (visit_by reached) (up_to T n) (of_length T (suc n))))
    where
      longest : List (Visit A)
      longest = filter_map (visit_by reached) (of_length T (suc n))

  firsts_grow : (n : ℕ) → IsPrefix (numbered n) (numbered (suc n))
  unfolding firsts
  firsts_grow n = extend_front_grows same key_of [] (visits T reached n) (visits T reached (suc n)) (visits_front n)

  pub firsts_front : (n m : ℕ) → n ≤ m → IsPrefix (numbered n) (numbered m)
  firsts_front = front_of_later numbered firsts_grow
