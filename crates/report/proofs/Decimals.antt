-- Laws of decimal numerals.
use Prim.Native.Nat.{ℕ, zero, suc, ◌/◌, ◌%◌, ◌^◌, ◌≤◌, ◌<◌}
use native.Mathlib.Decide.{dec_lt}
use native.Mathlib.Nat.{pow-suc, div-lt_iff_lt-mul}
use native.Mathlib.Omega.{arith}
use mathlib.Core.Path.{◌≡◌, sym, ◌∙◌}
use mathlib.Core.List.{[], ◌∷◌, ◌++◌}
use lib.ListN.{length, length-append}
use borrow.Author.Tests.{lt-ltb, le-ltb}
use Rattle.report.specs.Text.{digit, decimal_in, decimal}

-- A digit, with any room for one.
pub one_digit : (most n : ℕ) → n < 10 → decimal_in (suc most) n ≡ digit n ∷ []
unfolding decimal_in
one_digit most n h = rw (lt-ltb n 10 h)

pub more_digits : (most n : ℕ) → 10 ≤ n → decimal_in (suc most) n ≡ decimal_in most (n / 10) ++ digit (n % 10) ∷ []
unfolding decimal_in
more_digits most n h = rw (le-ltb n 10 h)

-- Room for more digits than there are changes nothing.
same_digits : (most more n : ℕ) → n < most → n < more → decimal_in most n ≡ decimal_in more n
same_digits zero more n h k = absurd (omega arith)
same_digits (suc most) zero n h k = absurd (omega arith)
same_digits (suc most) (suc more) n h k =
    go (λ l m. same_digits most more (n / 10) l m) (dec_lt n 10)
  where
    go : (n / 10 < most → n / 10 < more → decimal_in most (n / 10) ≡ decimal_in more (n / 10)) → Dec (n < 10)
        → decimal_in (suc most) n ≡ decimal_in (suc more) n
    go front (yes small) = one_digit most n small ∙ sym (one_digit more n small)
    go front (no large) =
        rw (more_digits most n (omega arith), more_digits more n (omega arith), front (omega arith) (omega arith))

pub decimal_of_digit : (n : ℕ) → n < 10 → decimal n ≡ digit n ∷ []
unfolding decimal
decimal_of_digit n h = one_digit n n h

-- The digits before the last are those of the tenth part.
pub decimal_of_more : (n : ℕ) → 10 ≤ n → decimal n ≡ decimal (n / 10) ++ digit (n % 10) ∷ []
unfolding decimal
decimal_of_more n h =
    rw (more_digits n n h, same_digits n (suc (n / 10)) (n / 10) (omega arith) (omega arith))

-- A number below a power of ten has no more digits.
pub decimal-length : (k n : ℕ) → n < 10 ^ suc k → length (decimal n) ≤ suc k
decimal-length zero n h = rw (decimal_of_digit n h) (omega arith)
decimal-length (suc k) n h = go (λ l. decimal-length k (n / 10) l) (dec_lt n 10)
  where
    go : (n / 10 < 10 ^ suc k → length (decimal (n / 10)) ≤ suc k) → Dec (n < 10) → length (decimal n) ≤ suc (suc k)
    go front (yes small) = rw (decimal_of_digit n small) (omega arith)
    go front (no large) =
        let fewer = front ((div-lt_iff_lt-mul (omega arith)).1 (rw (← pow-suc 10 (suc k)) h)) in
        rw (decimal_of_more n (omega arith), length-append (decimal (n / 10)) (digit (n % 10) ∷ [])) (omega arith)
