-- Laws of the record tests: a mark at a cursor, and a record that is due there.
use Prim.Native.Nat.{ℕ, suc, ◌+◌, ◌-◌, ◌≤◌}
use native.Mathlib.Numerals.{add-one}
use native.Mathlib.Omega.{arith}
use Rattle.std.proofs.lemmas.Bool.Decides.{nat_tests}
use mathlib.Core.Path.{◌≡◌, refl, ap, ap₂, sym, ◌∙◌}
use mathlib.Core.Bool.{◌&&◌}
use mathlib.Core.List.{List, [], ◌∷◌}
use lib.ListN.{length, get_or, take, drop, length-drop}
use lib.Seq.{take-length, drop-cons}
use lib.Dec.{leb, eqb}
use Rattle.std.specs.List.{starts_with as has_prefix}
use Rattle.program.specs.Format.{starts_with, is_record}

-- Two more elements stand at the front of a long enough rest.
pub drop_two : (l : List ℕ) (at : ℕ) → at + 2 ≤ length l → drop at l ≡ get_or l at 0 ∷ get_or l (at + 1) 0 ∷ drop
    (at + 2) l
drop_two l at h =
    drop-cons l at 0 (omega arith)
    ∙ ap (λ (t : List ℕ). get_or l at 0 ∷ t)
    (ap (λ (i : ℕ). drop i l) (sym (add-one at))
    ∙ drop-cons l (at + 1) 0 (omega arith)
    ∙ ap (λ (i : ℕ). get_or l (at + 1) 0 ∷ drop i l) (let e : suc (at + 1) ≡ at + 2 = omega arith in e))

-- Two numbers are compared either way round.
same_either_way : (a b : ℕ) → eqb a b ≡ eqb b a
same_either_way a b = grind (arith, nat_tests)

-- What a slice's own test of its front says is what the definition says.
pub front_tested : (mark bytes : List ℕ) → starts_with mark bytes ≡ has_prefix eqb bytes mark
unfolding starts_with
front_tested [] bytes = refl
front_tested (m ∷ mark) [] = refl
front_tested (m ∷ mark) (b ∷ bytes) = ap₂ ◌&&◌ (same_either_way b m) (front_tested mark bytes)

-- A record is due at a cursor where it fits and its mark stands at the front of the slice from there on.
pub record_due : (mark bytes : List ℕ) (at size : ℕ) → is_record mark size (drop at bytes)
    ≡ (leb size (length bytes - at) && has_prefix eqb (take (length bytes - at) (drop at bytes)) mark)
unfolding is_record
record_due mark bytes at size =
    let whole : take (length bytes - at) (drop at bytes) ≡ drop at bytes =
    simp (← length-drop at bytes) (take-length (drop at bytes)) in
    rw (length-drop at bytes, front_tested mark (drop at bytes), whole)
