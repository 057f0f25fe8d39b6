-- What stands at a place of a list; its members by their places; and which rows a list of lists has.
use mathlib.Core.Path.{◌≡◌, refl, sym, ap, ◌∙◌}
use mathlib.Core.List.Memᴰ
use mathlib.Core.List.{List, [], ◌∷◌, ◌++◌, map, Memᴰ as Member}
use mathlib.Core.Option
use mathlib.Core.Option.{none, some, map-eq-some_iff, none-ne-some, some-ne-none}
use mathlib.Core.Option.{some-injective}
use mathlib.Core.Logic.{◌⊎◌, inl, inr, ⊎_elim}
use Prim.Native.Nat.{ℕ, zero, suc, ◌≤◌, ◌<◌}
use native.Mathlib.Omega.{arith}
use lib.ListN.{length, take, get_or, get_elem?}

module _ {A : Type 0} where
  -- A place in range and past the end.
  pub place_in_range : (l : List A) (i : ℕ) {a : A} → get_elem? l i ≡ some a → i < length l
  place_in_range [] i h = absurd (none-ne-some _ h)
  place_in_range (b ∷ l) zero h = omega arith
  place_in_range (b ∷ l) (suc i) h = let r : i < length l = place_in_range l i h in omega arith

  pub place_empty : (l : List A) (i : ℕ) → get_elem? l i ≡ none → length l ≤ i
  place_empty [] i h = omega arith
  place_empty (b ∷ l) zero h = absurd (some-ne-none b h)
  place_empty (b ∷ l) (suc i) h = let r : length l ≤ i = place_empty l i h in omega arith

  pub place_past_end : (l : List A) (i : ℕ) → length l ≤ i → get_elem? l i ≡ none
  place_past_end [] i h = refl
  place_past_end (b ∷ l) zero h = absurd (omega arith)
  place_past_end (b ∷ l) (suc i) h = place_past_end l i (omega arith)

  pub place_has_entry : (l : List A) (i : ℕ) (d : A) → i < length l → get_elem? l i ≡ some (get_or l i d)
  place_has_entry [] i d h = absurd (omega arith)
  place_has_entry (b ∷ l) zero d h = refl
  place_has_entry (b ∷ l) (suc i) d h = place_has_entry l i d (omega arith)

  pub place_is_filled : (l : List A) (i : ℕ) → i < length l → (a : A) × (get_elem? l i ≡ some a)
  place_is_filled [] i h = absurd (omega arith)
  place_is_filled (b ∷ l) i h = (get_or (b ∷ l) i b, place_has_entry (b ∷ l) i b h)

  pub nothing_of_length_zero : (l : List A) → length l ≡ 0 → l ≡ []
  nothing_of_length_zero [] e = refl
  nothing_of_length_zero (a ∷ l) e = absurd (omega arith)

  -- Two lists one after the other.
  pub place_kept : (l m : List A) (i : ℕ) {a : A} → get_elem? l i ≡ some a → get_elem? (l ++ m) i ≡ some a
  place_kept [] m i h = absurd (none-ne-some _ h)
  place_kept (b ∷ l) m zero h = h
  place_kept (b ∷ l) m (suc i) h = place_kept l m i h

  pub place_of_split : (l : List A) (a : A) (m : List A) → get_elem? (l ++ a ∷ m) (length l) ≡ some a
  place_of_split [] a m = refl
  place_of_split (b ∷ l) a m = place_of_split l a m

  pub place_old_or_last : (l : List A) (a : A) (i : ℕ) {b : A} → get_elem? (l ++ a ∷ []) i ≡ some b
      → ((i ≡ length l) × (b ≡ a)) ⊎ (get_elem? l i ≡ some b)
  place_old_or_last [] a zero {b} h = inl (refl, sym (some-injective a b h))
  place_old_or_last [] a (suc i) h = absurd (none-ne-some _ h)
  place_old_or_last (c ∷ l) a zero h = inr h
  place_old_or_last (c ∷ l) a (suc i) h = ⊎_elim (λ q. inl (ap suc q.0, q.1)) inr (place_old_or_last l a i h)

  -- The first n of a list.
  pub place_taken : (n : ℕ) (l : List A) (i : ℕ) → i < n → get_elem? (take n l) i ≡ get_elem? l i
  place_taken zero l i lt = absurd (omega arith)
  place_taken (suc n) [] i lt = refl
  place_taken (suc n) (b ∷ l) zero lt = refl
  place_taken (suc n) (b ∷ l) (suc i) lt = place_taken n l i (omega arith)

  -- Members.
  pub place_of_member : {a : A} (l : List A) → Member a l → (i : ℕ) × (get_elem? l i ≡ some a)
  place_of_member [] m = absurd (Memᴰ.not-nil m)
  place_of_member (b ∷ l) m =
      ⊎_elim (λ q. (0, ap some (sym q))) (λ m'. let r = place_of_member l m' in (suc r.0, r.1))
      (Memᴰ.cases_cons m)

  pub member_at_place : {a : A} (l : List A) (i : ℕ) → get_elem? l i ≡ some a → Member a l
  member_at_place [] i h = absurd (none-ne-some _ h)
  member_at_place {a} (b ∷ l) zero h = Member.head (sym (some-injective b a h))
  member_at_place (b ∷ l) (suc i) h = Member.tail (member_at_place l i h)

  pub member_row : (ls : List A) (i : ℕ) (d : A) → i < length ls → Member (get_or ls i d) ls
  member_row [] i d h = absurd (omega arith)
  member_row (r ∷ ls) zero d h = Member.head refl
  member_row (r ∷ ls) (suc i) d h = Member.tail (member_row ls i d (omega arith))

  -- A row that has something is in range.
  pub filled_row_in_range : (ls : List (List A)) (i : ℕ) {n : ℕ} → n < length (get_or ls i []) → i < length ls
  filled_row_in_range [] i h = absurd (omega arith)
  filled_row_in_range (r ∷ ls) zero h = omega arith
  filled_row_in_range (r ∷ ls) (suc i) h = let s : i < length ls = filled_row_in_range ls i h in omega arith

  pub member_in_range : (ls : List (List A)) (i : ℕ) {a : A} → Member a (get_or ls i []) → i < length ls
  member_in_range ls i m =
      let p = place_of_member (get_or ls i []) m in
      filled_row_in_range ls i (place_in_range (get_or ls i []) p.0 p.1)

-- Mapped lists.
module _ {A B : Type 0} (f : A → B) where
  pub place_mapped : (l : List A) (i : ℕ) → get_elem? (map f l) i ≡ Option.map f (get_elem? l i)
  place_mapped [] i = refl
  place_mapped (a ∷ l) zero = refl
  place_mapped (a ∷ l) (suc i) = place_mapped l i

  pub place_of_map : (l : List A) (i : ℕ) {a : A} → get_elem? l i ≡ some a → get_elem? (map f l) i ≡ some (f a)
  place_of_map l i h = place_mapped l i ∙ ap (Option.map f) h

  pub place_in_map : (l : List A) (i : ℕ) {b : B} → get_elem? (map f l) i ≡ some b
      → (a : A) × (get_elem? l i ≡ some a) × (f a ≡ b)
  place_in_map l i h = (map-eq-some_iff f (get_elem? l i)).0 (sym (place_mapped l i) ∙ h)
