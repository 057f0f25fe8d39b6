-- Which member of a list stands before which: in lists put together, with one element put in, or made piece by piece.
use mathlib.Core.Path.{◌≡◌, refl, sym, ◌∙◌}
use mathlib.Core.List.Memᴰ
use mathlib.Core.List.{List, [], ◌∷◌, ◌++◌, flat_map, Memᴰ as Member}
use mathlib.Core.Logic.{◌⊎◌, inl, inr, ⊎_elim}
use Rattle.lists.proofs.Ends.{member_inserted, member_put_in, member_old_or_put_in}
use Rattle.lists.proofs.Pieces.{piece_of_member}
use Rattle.relations.specs.Closure.{Precedes, here, later}

module _ {A : Type 0} where
  pub precedes_not_nil : {a b : A} → Precedes a b [] → ⊥
  precedes_not_nil h = elim h [ ]

  pub precedes_cases : {a b c : A} {l : List A} → Precedes a b (c ∷ l) → ((a ≡ c) × Member b l) ⊎ Precedes a b l
  precedes_cases (here q m) = inl (q, m)
  precedes_cases (later h) = inr h

  pub precedes_not_single : {a b c : A} → Precedes a b (c ∷ []) → ⊥
  precedes_not_single h = ⊎_elim (λ q. Memᴰ.not-nil q.1) precedes_not_nil (precedes_cases h)

  pub precedes_members : (l : List A) {a b : A} → Precedes a b l → Member a l × Member b l
  precedes_members [] h = absurd (precedes_not_nil h)
  precedes_members (c ∷ l) h =
      ⊎_elim (λ p. (Member.head p.0, Member.tail p.1))
      (λ p. (Member.tail (precedes_members l p).0, Member.tail (precedes_members l p).1)) (precedes_cases h)

  pub precedes_inserted : (l : List A) (e : A) (m : List A) {a b : A} → Precedes a b (l ++ m)
      → Precedes a b (l ++ e ∷ m)
  precedes_inserted [] e m h = later h
  precedes_inserted (c ∷ l) e m h =
      ⊎_elim (λ p. here p.0 (member_inserted l e m p.1)) (λ p. later (precedes_inserted l e m p))
      (precedes_cases h)

  pub precedes_old_or_put_in : (l : List A) (e : A) (m : List A) {a b : A} → Precedes a b (l ++ e ∷ m)
      → Precedes a b (l ++ m) ⊎ (((a ≡ e) × Member b m) ⊎ ((b ≡ e) × Member a l))
  precedes_old_or_put_in [] e m h = ⊎_elim (λ p. inr (inl p)) inl (precedes_cases h)
  precedes_old_or_put_in (c ∷ l) e m {a} {b} h =
      ⊎_elim head (λ p. tail (precedes_old_or_put_in l e m p)) (precedes_cases h)
    where
      head : (a ≡ c) × Member b (l ++ e ∷ m)
          → Precedes a b (c ∷ (l ++ m)) ⊎ (((a ≡ e) × Member b m) ⊎ ((b ≡ e) × Member a (c ∷ l)))
      head p =
          ⊎_elim (λ q. inr (inr (q, Member.head p.0))) (λ q. inl (here p.0 q))
          (member_old_or_put_in l e m p.1)

      tail : Precedes a b (l ++ m) ⊎ (((a ≡ e) × Member b m) ⊎ ((b ≡ e) × Member a l))
          → Precedes a b (c ∷ (l ++ m)) ⊎ (((a ≡ e) × Member b m) ⊎ ((b ≡ e) × Member a (c ∷ l)))
      tail = ⊎_elim (λ q. inl (later q)) (⊎_elim (λ q. inr (inl q)) (λ q. inr (inr (q.0, Member.tail q.1))))

  pub precedes_after : (l : List A) (a : A) {m : List A} {b : A} → Member b m → Precedes a b (l ++ a ∷ m)
  precedes_after [] a h = here refl h
  precedes_after (c ∷ l) a h = later (precedes_after l a h)

  pub precedes_put_in : (l : List A) (b : A) (m : List A) {a : A} → Member a l → Precedes a b (l ++ b ∷ m)
  precedes_put_in [] b m h = absurd (Memᴰ.not-nil h)
  precedes_put_in (c ∷ l) b m h =
      ⊎_elim (λ q. here q (member_put_in l b m)) (λ p. later (precedes_put_in l b m p)) (Memᴰ.cases_cons h)

  -- Of two members one stands before the other, or they are one.
  pub one_precedes : (l : List A) {a b : A} → Member a l → Member b l → (a ≡ b) ⊎ (Precedes a b l ⊎ Precedes b a l)
  one_precedes [] m n = absurd (Memᴰ.not-nil m)
  one_precedes (c ∷ l) {a} {b} m n = go (Memᴰ.cases_cons m) (Memᴰ.cases_cons n) (λ h k. one_precedes l h k)
    where
      go : (a ≡ c) ⊎ Member a l → (b ≡ c) ⊎ Member b l
          → (Member a l → Member b l → (a ≡ b) ⊎ (Precedes a b l ⊎ Precedes b a l))
          → (a ≡ b) ⊎ (Precedes a b (c ∷ l) ⊎ Precedes b a (c ∷ l))
      go (inl q) (inl r) rest = inl (q ∙ sym r)
      go (inl q) (inr k) rest = inr (inl (here q k))
      go (inr h) (inl r) rest = inr (inr (here r h))
      go (inr h) (inr k) rest = ⊎_elim inl (λ w. inr (⊎_elim (λ z. inl (later z)) (λ z. inr (later z)) w)) (rest h k)

  pub precedes_append_cases : (l m : List A) {a b : A} → Precedes a b (l ++ m)
      → Precedes a b l ⊎ (Precedes a b m ⊎ (Member a l × Member b m))
  precedes_append_cases [] m h = inr (inl h)
  precedes_append_cases (c ∷ l) m {a} {b} h = go (precedes_cases h) (λ k. precedes_append_cases l m k)
    where
      go : ((a ≡ c) × Member b (l ++ m)) ⊎ Precedes a b (l ++ m)
          → (Precedes a b (l ++ m) → Precedes a b l ⊎ (Precedes a b m ⊎ (Member a l × Member b m)))
          → Precedes a b (c ∷ l) ⊎ (Precedes a b m ⊎ (Member a (c ∷ l) × Member b m))
      go (inl q) rest =
          ⊎_elim (λ k. inl (here q.0 k)) (λ k. inr (inr (Member.head q.0, k)))
          (Memᴰ.append_cases l q.1)
      go (inr k) rest =
          ⊎_elim (λ z. inl (later z)) (⊎_elim (λ z. inr (inl z)) (λ z. inr (inr (Member.tail z.0, z.1))))
          (rest k)

  -- What stands before something stands in front of the last.
  pub precedes_in_front : (l : List A) (c : A) {a b : A} → Precedes a b (l ++ c ∷ []) → Member a l
  precedes_in_front l c h =
      ⊎_elim (λ p. (precedes_members l p).0) (⊎_elim (λ p. absurd (precedes_not_single p)) (λ p. p.0))
      (precedes_append_cases l (c ∷ []) h)

module _ {A B : Type 0} (f : A → List B) where
  -- Two stand in the list of one element, or in the lists of two elements in their order.
  pub data FlatPrecedes (l : List A) (b c : B) : Type 0 where
    together : (x : A) → Member x l → Precedes b c (f x) → FlatPrecedes l b c
    apart : (x y : A) → Precedes x y l → Member b (f x) → Member c (f y) → FlatPrecedes l b c

  pub flat_precedes : (l : List A) {b c : B} → Precedes b c (flat_map f l) → FlatPrecedes l b c
  unfolding flat_map
  flat_precedes [] h = absurd (precedes_not_nil h)
  flat_precedes (a ∷ l) {b} {c} h = go (precedes_append_cases (f a) (flat_map f l) h) (λ k. flat_precedes l k)
    where
      wider : FlatPrecedes l b c → FlatPrecedes (a ∷ l) b c
      wider (together x m k) = together x (Member.tail m) k
      wider (apart x y k m n) = apart x y (later k) m n

      go : Precedes b c (f a) ⊎ (Precedes b c (flat_map f l) ⊎ (Member b (f a) × Member c (flat_map f l)))
          → (Precedes b c (flat_map f l) → FlatPrecedes l b c) → FlatPrecedes (a ∷ l) b c
      go (inl k) rest = together a (Member.head refl) k
      go (inr (inl k)) rest = wider (rest k)
      go (inr (inr k)) rest = let r = piece_of_member f l k.1 in apart a r.0 (here refl r.1) k.0 r.2
