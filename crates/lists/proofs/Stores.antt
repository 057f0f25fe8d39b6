-- Laws of stores and of parts of lists that the library lacks.
use Prim.Native.Nat.{ℕ, zero, suc, ◌+◌, ◌-◌, ◌≤◌}
use native.Mathlib.Nat.{zero-add, suc-add}
use native.Mathlib.Numerals.{towards_suc}
use native.Mathlib.Omega.{arith}
use mathlib.Core.Path.{◌≡◌, refl, ap, sym, ◌∙◌}
use mathlib.Core.List.{List, [], ◌∷◌, ◌++◌, map, append_assoc}
use lib.ListN.{length, take, drop, set, replicate, length-drop}
use lib.Seq.{sets, sets-eq, take-set-le, take-nil, take_at, drop_at, length-take-le}

-- Four stores, one behind the other.
pub four_sets : (l : List ℕ) (at a b c d : ℕ)
    → set (set (set (set l at a) (at + 1) b) (at + 2) c) (at + 3) d ≡ sets l at (a ∷ b ∷ c ∷ d ∷ [])
four_sets l at a b c d = simp towards_suc

pub drop-take : (n m : ℕ) (l : List ℕ) → drop n (take (n + m) l) ≡ take m (drop n l)
drop-take zero m l = ap (λ (k : ℕ). take k l) (zero-add m)
drop-take (suc n) m [] = ap (drop (suc n)) (take-nil (suc n + m)) ∙ sym (take-nil m)
drop-take (suc n) m (x ∷ l) = ap (λ (k : ℕ). drop (suc n) (take k (x ∷ l))) (suc-add n m) ∙ drop-take n m l

pub drop_of_front : (size n : ℕ) (l : List ℕ) → size ≤ n → drop size (take n l) ≡ take (n - size) (drop size l)
drop_of_front size n l h =
    ap (λ (k : ℕ). drop size (take k l)) (let e : n ≡ size + (n - size) = omega arith in e)
    ∙ drop-take size (n - size) l

-- Stores leave alone what stands before them.
pub take-sets : (n i : ℕ) (l vs : List ℕ) → n ≤ i → take n (sets l i vs) ≡ take n l
take-sets n i l [] h = refl
take-sets n i l (v ∷ vs) h = take-sets n (suc i) (set l i v) vs (omega arith) ∙ take-set-le n l i v h

-- What has been stored stands there.
pub stored : (at n : ℕ) (l vs : List ℕ) → length vs ≡ n → at + n ≤ length l → take n (drop at (sets l at vs)) ≡ vs
stored at n l vs long fits =
    ap (λ (r : List ℕ). take n (drop at r))
    (sets-eq vs l at (omega arith) ∙ append_assoc (take at l) vs (drop (at + length vs) l))
    ∙ ap (take n) (drop_at (take at l) (vs ++ drop (at + length vs) l) at (length-take-le at l (omega arith)))
    ∙ take_at vs (drop (at + length vs) l) n long

-- One store in the second of two lists, and in a list that is mapped.
pub set_in_second : {A : Type 0} (xs ys : List A) (i : ℕ) (v : A) → set (xs ++ ys) (length xs + i) v ≡ xs ++ set ys i v
set_in_second [] ys i v = ap (λ (k : ℕ). set ys k v) (zero-add i)
set_in_second (x ∷ xs) ys i v =
    ap (λ (k : ℕ). set (x ∷ xs ++ ys) k v) (suc-add (length xs) i)
    ∙ ap (λ l. x ∷ l) (set_in_second xs ys i v)

pub map_of_set : {A B : Type 0} (f : A → B) (l : List A) (i : ℕ) (a : A) → map f (set l i a) ≡ set (map f l) i (f a)
map_of_set f [] i a = refl
map_of_set f (b ∷ l) zero a = refl
map_of_set f (b ∷ l) (suc i) a = ap (λ m. f b ∷ m) (map_of_set f l i a)

-- Parts of a list that is the same throughout.
pub take-replicate : {A : Type 0} (n m : ℕ) (a : A) → n ≤ m → take n (replicate m a) ≡ replicate n a
take-replicate zero m a h = refl
take-replicate (suc n) zero a h = absurd (omega arith)
take-replicate (suc n) (suc m) a h = ap (λ (l : List _). a ∷ l) (take-replicate n m a (omega arith))

pub drop-replicate : (k n v : ℕ) → drop k (replicate n v) ≡ replicate (n - k) v
drop-replicate zero n v = let e : n ≡ n - 0 = omega arith in ap (λ (m : ℕ). replicate m v) e
drop-replicate (suc k) zero v = let e : 0 ≡ 0 - suc k = omega arith in ap (λ (m : ℕ). replicate m v) e
drop-replicate (suc k) (suc n) v =
    let e : n - k ≡ suc n - suc k = omega arith in drop-replicate k n v ∙ ap (λ (m : ℕ). replicate m v) e

-- A part that fits is as long as it says.
pub part_whole : (at size : ℕ) (l : List ℕ) → at + size ≤ length l
    → length (take (at + size - at) (drop at l)) ≡ size
part_whole at size l fits =
    let e : at + size - at ≡ size = omega arith in
    ap (λ (n : ℕ). length (take n (drop at l))) e
    ∙ length-take-le size (drop at l) (omega (arith, length-drop at l))
