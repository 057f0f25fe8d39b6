-- A record that is due: what its check gives, and where it holds.
use Prim.Native.Nat.{ℕ, ◌≤◌}
use mathlib.Core.Bool.{true, false≢true, and-eq-true_iff}
use mathlib.Core.List.{List, [], ◌∷◌, ◌++◌}
use mathlib.Core.Path.{◌≡◌, refl, ap₂}
use lib.ListN.{length, drop}
use lib.Dec.{eqb, leb}
use borrow.Author.Tests.{leb-true, le-leb, eqb-true, eq-eqb}
use Rattle.program.specs.Format.{starts_with, is_record}

-- The bytes start with a mark: they are it, and what follows.
pub mark_stands : (mark bytes : List ℕ) → starts_with mark bytes ≡ true → bytes ≡ mark ++ drop (length mark) bytes
unfolding starts_with
mark_stands [] bytes e = refl
mark_stands (m ∷ mark) [] e = absurd (false≢true e)
mark_stands (m ∷ mark) (b ∷ bytes) e =
    let both = (and-eq-true_iff (eqb b m) (starts_with mark bytes)).0 e in
    ap₂ ◌∷◌ (eqb-true b m both.0) (mark_stands mark bytes both.1)

pub mark_found : (mark rest : List ℕ) → starts_with mark (mark ++ rest) ≡ true
unfolding starts_with
mark_found [] rest = refl
mark_found (m ∷ mark) rest =
    (and-eq-true_iff (eqb m m) (starts_with mark (mark ++ rest))).1 (eq-eqb m m refl, mark_found mark rest)

-- A record that is due is whole and begins with its mark, and such a record is the one that is due.
pub record_stands : (mark : List ℕ) (size : ℕ) (bytes : List ℕ) → is_record mark size bytes ≡ true
    → (size ≤ length bytes) × (bytes ≡ mark ++ drop (length mark) bytes)
unfolding is_record
record_stands mark size bytes e =
    let both = (and-eq-true_iff (leb size (length bytes)) (starts_with mark bytes)).0 e in
    (leb-true size (length bytes) both.0, mark_stands mark bytes both.1)

pub record_found : (mark : List ℕ) (size : ℕ) (rest : List ℕ) → size ≤ length (mark ++ rest)
    → is_record mark size (mark ++ rest) ≡ true
unfolding is_record
record_found mark size rest whole =
    (and-eq-true_iff (leb size (length (mark ++ rest))) (starts_with mark (mark ++ rest))).1
    (le-leb size (length (mark ++ rest)) whole, mark_found mark rest)
