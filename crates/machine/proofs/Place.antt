-- The place of an element in a list, counted from 0. Where nothing stands twice, what stands before something has the
-- smaller place, and what stands directly after it has the next place.
use mathlib.Core.Path.{◌≡◌, refl, sym, ap, ◌∙◌, subst⁻¹}
use mathlib.Core.List.{List, [], ◌∷◌, ◌++◌, Memᴰ as Member, head-eq_of_cons-eq}
use mathlib.Core.Logic.{◌⊎◌, inl, inr, ⊎_elim, ◌≢◌, ite, if_pos, if_neg}
use Prim.Native.Nat.{ℕ, suc, ◌<◌}
use native.Mathlib.Omega.{arith}
use Rattle.relations.specs.Closure.{Precedes, here, later}
use Rattle.relations.proofs.Precedes.{precedes_not_nil, precedes_cases, precedes_members}

-- b stands directly after a in the list.
pub data DirectlyAfter {A : Type 0} (a b : A) : List A → Type 0 where
  at_head : {c : A} {l rest : List A} → a ≡ c → l ≡ b ∷ rest → DirectlyAfter a b (c ∷ l)
  in_rest : {c : A} {l : List A} → DirectlyAfter a b l → DirectlyAfter a b (c ∷ l)

-- Nothing stands twice in the list.
abbrev pub NoRepeats : {A : Type 0} → List A → Type 0
NoRepeats {A} l = (a : A) → Precedes a a l → ⊥

-- The place of the first a in the list; the length where there is none.
unfoldable pub place : {A : Type 0} → Discrete A → A → List A → ℕ
place discrete a [] = 0
place discrete a (b ∷ l) = ite (discrete a b) 0 (suc (place discrete a l))

module _ {A : Type 0} where
  pub directly_after_not_nil : {a b : A} → DirectlyAfter a b [] → ⊥
  directly_after_not_nil h = elim h [ ]

  pub directly_after_cases : {a b c : A} {l : List A} → DirectlyAfter a b (c ∷ l)
      → ((rest : List A) × (a ≡ c) × (l ≡ b ∷ rest)) ⊎ DirectlyAfter a b l
  directly_after_cases (at_head {rest = rest} q r) = inl (rest, q, r)
  directly_after_cases (in_rest h) = inr h

  pub directly_after_precedes : (l : List A) {a b : A} → DirectlyAfter a b l → Precedes a b l
  directly_after_precedes [] h = absurd (directly_after_not_nil h)
  directly_after_precedes (c ∷ l) {a} {b} h =
      ⊎_elim (λ z. here z.1 (subst⁻¹ (Member b) z.2 (Member.head refl)))
      (λ z. later (directly_after_precedes l z)) (directly_after_cases h)

  -- What is put in directly after an element stands there.
  pub put_in_directly_after : (l : List A) (a b : A) (m : List A) → DirectlyAfter a b ((l ++ a ∷ []) ++ b ∷ m)
  put_in_directly_after [] a b m = at_head refl refl
  put_in_directly_after (c ∷ l) a b m = in_rest (put_in_directly_after l a b m)

  -- What stands directly after something still does when an element is put in elsewhere: not directly before it.
  pub directly_after_inserted : (l : List A) (e : A) (m : List A) {a b : A} → ((rest : List A) → m ≡ b ∷ rest → ⊥)
      → DirectlyAfter a b (l ++ m) → DirectlyAfter a b (l ++ e ∷ m)
  directly_after_inserted [] e m other h = in_rest h
  directly_after_inserted (c ∷ []) e m other h =
      ⊎_elim (λ z. absurd (other z.0 z.2)) (λ z. in_rest (in_rest z)) (directly_after_cases h)
  directly_after_inserted (c ∷ d ∷ l) e m other h =
      ⊎_elim (λ z. at_head z.1 (λ i. head-eq_of_cons-eq z.2 i ∷ (l ++ e ∷ m)))
      (λ z. in_rest (directly_after_inserted (d ∷ l) e m other z)) (directly_after_cases h)

  -- Nothing stands twice in the rest, and the head does not stand there.
  rest_no_repeats : {c : A} {l : List A} → NoRepeats (c ∷ l) → NoRepeats l
  rest_no_repeats once a h = once a (later h)

  rest_not_head : {a c : A} {l : List A} → NoRepeats (c ∷ l) → Member a l → a ≢ c
  rest_not_head {a} once m q = once a (here q m)

module _ {A : Type 0} (discrete : Discrete A) where
  pub place_of_head : (l : List A) {a c : A} → a ≡ c → place discrete a (c ∷ l) ≡ 0
  unfolding place
  place_of_head l {a} {c} q = if_pos (discrete a c) q 0 _

  place_in_rest : (l : List A) {a c : A} → NoRepeats (c ∷ l) → Member a l
      → place discrete a (c ∷ l) ≡ suc (place discrete a l)
  unfolding place
  place_in_rest l {a} {c} once m = if_neg (discrete a c) (rest_not_head once m) 0 _

  pub earlier_has_smaller_place : (l : List A) {a b : A} → NoRepeats l → Precedes a b l
      → place discrete a l < place discrete b l
  earlier_has_smaller_place [] once h = absurd (precedes_not_nil h)
  earlier_has_smaller_place (c ∷ l) {a} {b} once h =
      ⊎_elim (λ z. first z.0 z.1) (λ z. both z (earlier_has_smaller_place l (rest_no_repeats once) z))
      (precedes_cases h)
    where
      first : a ≡ c → Member b l → place discrete a (c ∷ l) < place discrete b (c ∷ l)
      first q m = let p = place_of_head l q in let r = place_in_rest l once m in omega arith

      both : Precedes a b l → place discrete a l < place discrete b l
          → place discrete a (c ∷ l) < place discrete b (c ∷ l)
      both k less =
          let m = precedes_members l k in
          let p = place_in_rest l once m.0 in
          let r = place_in_rest l once m.1 in
          omega arith

  pub next_has_next_place : (l : List A) {a b : A} → NoRepeats l → DirectlyAfter a b l
      → place discrete b l ≡ suc (place discrete a l)
  next_has_next_place [] once h = absurd (directly_after_not_nil h)
  next_has_next_place (c ∷ l) {a} {b} once h =
      ⊎_elim (λ z. first z.0 z.1 z.2) (λ z. both z (next_has_next_place l (rest_no_repeats once) z))
      (directly_after_cases h)
    where
      first : (rest : List A) → a ≡ c → l ≡ b ∷ rest → place discrete b (c ∷ l) ≡ suc (place discrete a (c ∷ l))
      first rest q o =
          place_in_rest l once (subst⁻¹ (Member b) o (Member.head refl))
          ∙ ap suc (ap (place discrete b) o ∙ place_of_head rest refl ∙ sym (place_of_head l q))

      both : DirectlyAfter a b l → place discrete b l ≡ suc (place discrete a l)
          → place discrete b (c ∷ l) ≡ suc (place discrete a (c ∷ l))
      both k next =
          let m = precedes_members l (directly_after_precedes l k) in
          place_in_rest l once m.1 ∙ ap suc (next ∙ sym (place_in_rest l once m.0))
