-- A decimal numeral stands for its number, and has no leading zero.
use Prim.Native.Nat.{ℕ, zero, suc, ◌+◌, ◌-◌, ◌*◌, ◌/◌, ◌%◌, ◌≤◌, ◌<◌}
use native.Mathlib.Decide.{dec_lt}
use native.Mathlib.Omega.{arith}
use mathlib.Core.Path.{◌≡◌, refl, ap, ◌∙◌}
use mathlib.Core.List.{List, [], ◌∷◌, ◌++◌}
use lib.ListN.{get_or}
use Rattle.report.specs.Text.{digit, decimal_in, decimal}
use Rattle.report.proofs.Decimals.{one_digit, more_digits}

-- The number that digits stand for, behind those that have been read.
abbrev pub value_from : ℕ → List ℕ → ℕ
value_from read [] = read
value_from read (b ∷ bytes) = value_from (10 * read + (b - digit 0)) bytes

value_of_last : (read : ℕ) (bytes : List ℕ) (d : ℕ)
    → value_from read (bytes ++ digit d ∷ []) ≡ 10 * value_from read bytes + d
value_of_last read [] d = omega arith
value_of_last read (b ∷ bytes) d = value_of_last (10 * read + (b - digit 0)) bytes d

value_in : (most n : ℕ) → n < most → value_from 0 (decimal_in most n) ≡ n
value_in zero n h = absurd (omega arith)
value_in (suc most) n h = go (λ l. value_in most (n / 10) l) (dec_lt n 10)
  where
    go : (n / 10 < most → value_from 0 (decimal_in most (n / 10)) ≡ n / 10) → Dec (n < 10)
        → value_from 0 (decimal_in (suc most) n) ≡ n
    go front (yes small) = ap (value_from 0) (one_digit most n small) ∙ omega arith
    go front (no large) =
        let tenth = front (omega arith) in
        ap (value_from 0) (more_digits most n (omega arith))
        ∙ value_of_last 0 (decimal_in most (n / 10)) (n % 10)
        ∙ omega arith

pub decimal_stands_for_number : (n : ℕ) → value_from 0 (decimal n) ≡ n
unfolding decimal
decimal_stands_for_number n = value_in (suc n) n (omega arith)

first_kept : (bytes others : List ℕ) → 1 ≤ get_or bytes 0 0 → get_or (bytes ++ others) 0 0 ≡ get_or bytes 0 0
first_kept [] others h = absurd (omega arith)
first_kept (b ∷ bytes) others h = refl

first_in : (most n : ℕ) → n < most → 1 ≤ n → digit 1 ≤ get_or (decimal_in most n) 0 0
first_in zero n h k = absurd (omega arith)
first_in (suc most) n h k = go (λ l m. first_in most (n / 10) l m) (dec_lt n 10)
  where
    go : (n / 10 < most → 1 ≤ n / 10 → digit 1 ≤ get_or (decimal_in most (n / 10)) 0 0) → Dec (n < 10)
        → digit 1 ≤ get_or (decimal_in (suc most) n) 0 0
    go front (yes small) = rw (one_digit most n small) (omega arith)
    go front (no large) =
        let first = front (omega arith) (omega arith) in
        let kept = first_kept (decimal_in most (n / 10)) (digit (n % 10) ∷ []) (omega arith) in
        rw (more_digits most n (omega arith)) (omega arith)

pub no_leading_zero : (n : ℕ) → 1 ≤ n → digit 1 ≤ get_or (decimal n) 0 0
unfolding decimal
no_leading_zero n h = first_in (suc n) n (omega arith) h
