-- Laws of printing at a cursor.
use Prim.Native.Nat.{ℕ, suc, ◌+◌, ◌-◌, ◌≤◌, ◌<◌, min}
use native.Mathlib.Decide.{dec_lt}
use native.Mathlib.Numerals.{add-one}
use native.Mathlib.Omega.{arith}
use mathlib.Core.Path.{◌≡◌, refl, ap, ap₂, sym, subst⁻¹, ◌∙◌}
use mathlib.Core.List.{List, [], ◌∷◌, ◌++◌}
use lib.ListN.{length, get_or, take, set, length-append, length-set}
use lib.Seq.{sets, length-sets, set_out, set-append_seam, append_snoc, take-nil, take-suc, take_all}
use Rattle.report.specs.Put.{Put}
use Rattle.report.specs.Prints.{Prints}
use Rattle.report.specs.declared.put.Cursor.{Cursor}
use Rattle.report.specs.Text.{laid}

-- Stores past the end change nothing.
sets_past : (l : List ℕ) (i : ℕ) (vs : List ℕ) → length l ≤ i → sets l i vs ≡ l
sets_past l i [] h = refl
sets_past l i (v ∷ vs) h =
    sets_past (set l i v) (suc i) vs (omega (arith, length-set l i v)) ∙ set_out l i v h

-- One run of stores behind another, as far as there is room.
sets_then : (l : List ℕ) (i : ℕ) (xs ys : List ℕ)
    → sets l i (xs ++ ys) ≡ sets (sets l i xs) (i + min (length xs) (length l - i)) ys
sets_then l i [] ys = ap (λ (n : ℕ). sets l n ys) (let e : i ≡ i + min 0 (length l - i) = omega arith in e)
sets_then l i (x ∷ xs) ys = go (sets_then (set l i x) (suc i) xs ys) (dec_lt i (length l))
  where
    go : sets (set l i x) (suc i) (xs ++ ys)
        ≡ sets (sets (set l i x) (suc i) xs) (suc i + min (length xs) (length (set l i x) - suc i)) ys
        → Dec (i < length l)
        → sets l i (x ∷ xs ++ ys) ≡ sets (sets l i (x ∷ xs)) (i + min (suc (length xs)) (length l - i)) ys
    go rest (yes h) =
        let e : suc i + min (length xs) (length (set l i x) - suc i) ≡ i + min (suc (length xs)) (length l - i)
        = omega (arith, length-set l i x) in
        rw e at rest
    go rest (no n) =
        let past : length l ≤ i = omega arith in
        sets_past l i (x ∷ xs ++ ys) past
        ∙ sym (rw (sets_past l i (x ∷ xs) past) (sets_past l _ ys (omega arith)))

pub put_nothing : (d : List ℕ) (at : ℕ) → Put d at [] d at
put_nothing d at = record { written = refl; behind = omega arith }

-- There is no room for a byte.
pub put_past : (d : List ℕ) (at b : ℕ) → length d ≤ at → Put d at (b ∷ []) d at
put_past d at b h = record { written = sym (set_out d at b h); behind = omega arith }

-- One part, and then another behind it.
pub put_then : {d e f : List ℕ} {at next last : ℕ} {xs ys : List ℕ} → Put d at xs e next → Put e next ys f last
    → Put d at (xs ++ ys) f last
put_then {d} {e} {at = at} {next = next} {xs = xs} {ys = ys} p q =
    let same : length e ≡ length d = ap length p.written ∙ length-sets d at xs in
    record {
      written =
          q.written
          ∙ ap₂ (λ (l : List ℕ) (n : ℕ). sets l n ys) p.written p.behind
          ∙ sym (sets_then d at xs ys);
      behind = omega (arith, same, p.behind, q.behind, length-append xs ys);
    }

-- The same bytes, said otherwise.
pub put_as : {d e : List ℕ} {at next : ℕ} {xs ys : List ℕ} → ys ≡ xs → Put d at xs e next → Put d at ys e next
put_as {d} {e} {at} {next} is p = subst⁻¹ (λ (b : List ℕ). Put d at b e next) is p

pub put_same_length : {d e : List ℕ} {at next : ℕ} {xs : List ℕ} → Put d at xs e next → length e ≡ length d
put_same_length {d} {at = at} {xs = xs} p = ap length p.written ∙ length-sets d at xs

-- The same at a cursor.
pub prints_nothing : (a : Cursor) → Prints a [] a
prints_nothing a = record { same_buffer = refl; put = put_nothing a.out.now a.at }

pub prints_then : {a b d : Cursor} {xs ys : List ℕ} → Prints a xs b → Prints b ys d → Prints a (xs ++ ys) d
prints_then p q = record { same_buffer = q.same_buffer ∙ p.same_buffer; put = put_then p.put q.put }

pub prints_as : {a b : Cursor} {xs ys : List ℕ} → ys ≡ xs → Prints a xs b → Prints a ys b
prints_as is p = record { same_buffer = p.same_buffer; put = put_as is p.put }

-- The first bytes of a list, and one more.
pub prints_one_more : {a b d : Cursor} (l : List ℕ) (i : ℕ) → Prints a (take i l) b → i < length l
    → Prints b (get_or l i 0 ∷ []) d → Prints a (take (i + 1) l) d
prints_one_more l i p h q =
    prints_as (ap (λ (n : ℕ). take n l) (add-one i) ∙ take-suc l i 0 h) (prints_then p q)

pub prints_all : {a b : Cursor} {i : ℕ} (l : List ℕ) → Prints a (take i l) b → length l ≤ i → Prints a l b
prints_all {i = i} l p h = prints_as (sym (take_all i l h)) p

-- What is printed behind a front.
laid_behind : (front text buffer : List ℕ) → sets (front ++ buffer) (length front) text ≡ front ++ laid text buffer
laid_behind front [] buffer =
    sym (ap (λ (r : List ℕ). front ++ (r ++ buffer)) (take-nil (length buffer)))
laid_behind front (b ∷ text) [] =
    sets_past (front ++ []) (length front) (b ∷ text) (omega (arith, length-append front []))
laid_behind front (b ∷ text) (old ∷ buffer) =
    let e : suc (length front) ≡ length (front ++ b ∷ []) = omega (arith, length-append front (b ∷ [])) in
    rw (set-append_seam front old buffer b, ← append_snoc front b buffer, e)
    (laid_behind (front ++ b ∷ []) text buffer ∙ append_snoc front b (laid text buffer))

-- What is printed from the start of the buffer.
pub laid_from_start : (text d : List ℕ) {e : List ℕ} (next : ℕ) → Put d 0 text e next → e ≡ laid text d
laid_from_start text d next p = p.written ∙ laid_behind [] text d

pub put_from_start : {d e text : List ℕ} {next : ℕ} → Put d 0 text e next
    → (next ≡ min (length text) (length d)) × (e ≡ laid text d)
put_from_start {d} {text = text} {next = next} p = (omega (arith, p.behind), laid_from_start text d next p)
