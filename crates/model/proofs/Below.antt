-- The numbers below n: how many they are, which, and in what order; and rows with an entry for each of them.
use mathlib.Core.Path.{◌≡◌, refl, ap, ◌∙◌}
use mathlib.Core.List.Memᴰ
use mathlib.Core.List.{[], ◌∷◌, ◌++◌, map, map-append, Memᴰ as Member}
use mathlib.Core.Logic.{⊎_elim}
use Prim.Native.Nat.{ℕ, zero, suc, ◌<◌}
use native.Mathlib.Omega.{arith}
use native.Mathlib.Decide.{dec_lt}
use lib.ListN.{length, get_or, length-map, get_or-append}
use lib.Seq.{get_or_at}
use Rattle.lists.proofs.Ends.{length_of_snoc}
use Rattle.relations.specs.Closure.{Precedes}
use Rattle.relations.proofs.Precedes.{precedes_not_nil, precedes_not_single, precedes_append_cases}
use Rattle.model.specs.Graph.{below}

pub member_below : {i : ℕ} (n : ℕ) → i < n → Member i (below n)
unfolding below
member_below zero h = absurd (omega arith)
member_below {i} (suc n) h = go (λ l. member_below n l) (dec_lt i n)
  where
    go : (i < n → Member i (below n)) → Dec (i < n) → Member i (below (suc n))
    go rest (yes l) = Memᴰ.append_left (n ∷ []) (rest l)
    go rest (no k) = Memᴰ.append_right (below n) (Member.head (omega arith))

pub below_member : {i : ℕ} (n : ℕ) → Member i (below n) → i < n
unfolding below
below_member zero m = absurd (Memᴰ.not-nil m)
below_member {i} (suc n) m =
    ⊎_elim (λ h. let l : i < n = below_member n h in omega arith)
    (λ h. let q : i ≡ n = Memᴰ.eq_of_singleton h in omega arith) (Memᴰ.append_cases (below n) m)

pub below_rises : (n : ℕ) {i j : ℕ} → Precedes i j (below n) → i < j
unfolding below
below_rises zero h = absurd (precedes_not_nil h)
below_rises (suc n) {i} {j} h =
    ⊎_elim (λ k. below_rises n k)
    (⊎_elim (λ k. absurd (precedes_not_single k))
    (λ k. let l : i < n = below_member n k.0 in let q : j ≡ n = Memᴰ.eq_of_singleton k.1 in omega arith))
    (precedes_append_cases (below n) (n ∷ []) h)

pub length-below : (n : ℕ) → length (below n) ≡ n
unfolding below
length-below zero = refl
length-below (suc n) = length_of_snoc (below n) n ∙ ap suc (length-below n)

-- Rows.
module _ {A : Type 0} (f : ℕ → A) where
  pub length_of_row : (n : ℕ) → length (map f (below n)) ≡ n
  length_of_row n = length-map (below n) f ∙ length-below n

  pub row_of_below : (d : A) (n i : ℕ) → i < n → get_or (map f (below n)) i d ≡ f i
  unfolding below
  row_of_below d zero i h = absurd (omega arith)
  row_of_below d (suc n) i h =
      ap (λ l. get_or l i d) (map-append f (below n) (n ∷ [])) ∙ go (λ k. row_of_below d n i k) (dec_lt i n)
    where
      go : (i < n → get_or (map f (below n)) i d ≡ f i) → Dec (i < n) → get_or (map f (below n) ++ f n ∷ []) i d ≡ f i
      go rest (yes k) = get_or-append (map f (below n)) (f n ∷ []) d i (omega (arith, length_of_row n)) ∙ rest k
      go rest (no k) =
          let q : n ≡ i = omega arith in
          get_or_at (map f (below n)) (f n) [] d i (length_of_row n ∙ q) ∙ ap f q
