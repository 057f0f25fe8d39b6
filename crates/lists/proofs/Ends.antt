-- Lists by their last element, and lists split at an element or with one put in.
use mathlib.Core.Path.{◌≡◌, refl, sym, ap, ◌∙◌, subst}
use mathlib.Core.List.Memᴰ
use mathlib.Core.List.{List, [], ◌∷◌, ◌++◌, append-nil, append_assoc, Memᴰ as Member}
use mathlib.Core.List.{head-eq_of_cons-eq, tail-eq_of_cons-eq, nil≢cons}
use mathlib.Core.Logic.{◌⊎◌, inl, inr, ⊎_elim}
use Prim.Native.Nat.{suc}
use lib.ListN.{length}

module _ {A : Type 0} where
  pub split_not_nil : (l : List A) (a : A) (m : List A) → [] ≡ l ++ a ∷ m → ⊥
  split_not_nil [] a m h = nil≢cons h
  split_not_nil (b ∷ l) a m h = nil≢cons h

  -- Lists by their last element.
  pub length_of_snoc : (l : List A) (a : A) → length (l ++ a ∷ []) ≡ suc (length l)
  length_of_snoc [] a = refl
  length_of_snoc (b ∷ l) a = ap suc (length_of_snoc l a)

  pub same_last : (l m : List A) (a b : A) → l ++ a ∷ [] ≡ m ++ b ∷ [] → (l ≡ m) × (a ≡ b)
  same_last [] [] a b h = (refl, head-eq_of_cons-eq h)
  same_last [] (c ∷ m) a b h = absurd (split_not_nil m b [] (tail-eq_of_cons-eq h))
  same_last (c ∷ l) [] a b h = absurd (split_not_nil l a [] (sym (tail-eq_of_cons-eq h)))
  same_last (c ∷ l) (d ∷ m) a b h =
      let r = same_last l m a b (tail-eq_of_cons-eq h) in
      ((λ i. head-eq_of_cons-eq h i ∷ r.0 i), r.1)

  pub record Snoc (l : List A) : Type 0 where
    pub front : List A
    pub final : A
    pub whole : l ≡ front ++ final ∷ []

  cons_has_last : (a : A) {l : List A} → (l ≡ []) ⊎ Snoc l → Snoc (a ∷ l)
  cons_has_last a (inl q) = record { front = []; final = a; whole = ap (λ m. a ∷ m) q }
  cons_has_last a (inr r) = record { front = a ∷ r.front; final = r.final; whole = ap (λ m. a ∷ m) r.whole }

  pub empty_or_snoc : (l : List A) → (l ≡ []) ⊎ Snoc l
  empty_or_snoc [] = inl refl
  empty_or_snoc (a ∷ l) = inr (cons_has_last a (empty_or_snoc l))

  pub split_has_last : (l : List A) (a : A) (m : List A) → Snoc (l ++ a ∷ m)
  split_has_last [] a m = cons_has_last a (empty_or_snoc m)
  split_has_last (b ∷ l) a m = cons_has_last b (inr (split_has_last l a m))

  -- Induction from the end of a list.
  pub from_the_end : (P : List A → Type 0) → P [] → ((l : List A) (a : A) → P l → P (l ++ a ∷ [])) → (l : List A) → P l
  from_the_end P base step l = go [] l base
    where
      go : (front rest : List A) → P front → P (front ++ rest)
      go front [] p = subst P (sym (append-nil front)) p
      go front (a ∷ rest) p = subst P (append_assoc front (a ∷ []) rest) (go (front ++ a ∷ []) rest (step front a p))

  -- A split of a list with one element more at its end: at the end, or a split of the list without it.
  pub regroup_snoc : (l : List A) (w : A) (m : List A) (a : A) → l ++ w ∷ (m ++ a ∷ []) ≡ (l ++ w ∷ m) ++ a ∷ []
  regroup_snoc l w m a = sym (append_assoc l (w ∷ m) (a ∷ []))

  pub split_of_snoc : (l : List A) (w : A) (m k : List A) (a : A) → l ++ w ∷ m ≡ k ++ a ∷ []
      → ((m ≡ []) × (w ≡ a)) ⊎ ((m' : List A) × (m ≡ m' ++ a ∷ []) × (l ++ w ∷ m' ≡ k))
  split_of_snoc l w m k a h = go (empty_or_snoc m)
    where
      go : (m ≡ []) ⊎ Snoc m → ((m ≡ []) × (w ≡ a)) ⊎ ((m' : List A) × (m ≡ m' ++ a ∷ []) × (l ++ w ∷ m' ≡ k))
      go (inl q) = inl (q, (same_last l k w a (sym (ap (λ r. l ++ w ∷ r) q) ∙ h)).1)
      go (inr r) =
          let s = same_last (l ++ w ∷ r.front) k r.final a
          (sym (regroup_snoc l w r.front r.final) ∙ sym (ap (λ z. l ++ w ∷ z) r.whole) ∙ h) in
          inr (r.front, r.whole ∙ ap (λ z. r.front ++ z ∷ []) s.1, s.0)

  -- Of two splits of one list, what stands after the one is among what stands after the other.
  pub splits_nest : (l : List A) (a : A) (m k : List A) (b : A) (n : List A) → l ++ a ∷ m ≡ k ++ b ∷ n
      → ((c : A) → Member c m → Member c n) ⊎ ((c : A) → Member c n → Member c m)
  splits_nest [] a m [] b n q = inl (λ c. subst (Member c) (tail-eq_of_cons-eq q))
  splits_nest [] a m (d ∷ k) b n q =
      inr (λ c h. subst (Member c) (sym (tail-eq_of_cons-eq q)) (Memᴰ.append_right k (Member.tail h)))
  splits_nest (d ∷ l) a m [] b n q =
      inl (λ c h. subst (Member c) (tail-eq_of_cons-eq q) (Memᴰ.append_right l (Member.tail h)))
  splits_nest (d ∷ l) a m (e ∷ k) b n q = splits_nest l a m k b n (tail-eq_of_cons-eq q)

  -- A list and the same with another rest have the same head, where something stands before the rest.
  pub same_head : (l : List A) (a : A) (m k : List A) (b : A) (r : List A) → (l ++ a ∷ []) ++ m ≡ b ∷ r
      → (r' : List A) × ((l ++ a ∷ []) ++ k ≡ b ∷ r')
  same_head [] a m k b r h = (k, (λ i. head-eq_of_cons-eq h i ∷ k))
  same_head (c ∷ l) a m k b r h = ((l ++ a ∷ []) ++ k, (λ i. head-eq_of_cons-eq h i ∷ ((l ++ a ∷ []) ++ k)))

  -- Members when one element is put in.
  pub member_inserted : (l : List A) (e : A) (m : List A) {a : A} → Member a (l ++ m) → Member a (l ++ e ∷ m)
  member_inserted l e m h =
      ⊎_elim (λ p. Memᴰ.append_left (e ∷ m) p) (λ p. Memᴰ.append_right l (Member.tail p))
      (Memᴰ.append_cases l h)

  pub member_put_in : (l : List A) (e : A) (m : List A) → Member e (l ++ e ∷ m)
  member_put_in l e m = Memᴰ.append_right l (Member.head refl)

  pub member_old_or_put_in : (l : List A) (e : A) (m : List A) {a : A} → Member a (l ++ e ∷ m)
      → (a ≡ e) ⊎ Member a (l ++ m)
  member_old_or_put_in l e m h =
      ⊎_elim (λ p. inr (Memᴰ.append_left m p))
      (λ p. ⊎_elim inl (λ q. inr (Memᴰ.append_right l q)) (Memᴰ.cases_cons p))
      (Memᴰ.append_cases l h)
