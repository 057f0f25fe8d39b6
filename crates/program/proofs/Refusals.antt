-- The numbers of refusals: 3 to 8 for a line or a thread, 1 to 9 for the whole input, and 12 for each.
use Prim.Native.Nat.{ℕ, zero, suc, ◌≤◌}
use mathlib.Core.Bool.{Bool, true, false}
use mathlib.Core.List.{List}
use mathlib.Core.Logic.{◌⊎◌, inl, inr}
use mathlib.Core.Path.{◌≡◌, refl, subst}
use native.Mathlib.Omega.{arith}
use lib.ListN.{get_or, drop}
use Rattle.program.specs.Outcome.{Outcome, check, and_then}
use Rattle.program.specs.Outcome.Outcome.{refused, accepted}
use Rattle.program.specs.Format.{size_pr, size_th, fields_to_line, read_line, read_lines, read_thread, read_threads}
use Rattle.program.specs.Format.{ends_after, read_program}

-- A number from low to high, or 12.
abbrev pub From : (low high number : ℕ) → Type 0
From low high number = ((low ≤ number) × (number ≤ high)) ⊎ (number ≡ 12)

-- If it is refused, then with such a number.
abbrev pub RefusedFrom : {A : Type 0} → (low high : ℕ) → Outcome A → Type 0
RefusedFrom low high (refused number) = From low high number
RefusedFrom low high (accepted a) = Unit {0}

module _ {A : Type 0} (low high : ℕ) where
  pub check_from : (number : ℕ) → From low high number → (b : Bool) (rest : Outcome A)
      → RefusedFrom low high rest → RefusedFrom low high (check number b rest)
  unfolding check
  check_from number between true rest h = h
  check_from number between false rest h = between

  pub and_then_from : {B : Type 0} (o : Outcome B) (f : B → Outcome A)
      → RefusedFrom low high o → ((b : B) → RefusedFrom low high (f b)) → RefusedFrom low high (and_then o f)
  unfolding and_then
  and_then_from (accepted b) f h g = g b
  and_then_from (refused number) f h g = h

pub line_refused_from : (L K n : ℕ) (bytes : List ℕ) → RefusedFrom 3 8 (read_line L K n bytes)
unfolding read_line fields_to_line
line_refused_from L K n bytes =
    check_from 3 8 _ (inl (omega arith)) _ _
    (and_then_from 3 8 _ _
    (check_from 3 8 _ (inl (omega arith)) _ _
    (check_from 3 8 _ (inr refl) _ _
    (check_from 3 8 _ (inl (omega arith)) _ _
    (check_from 3 8 _ (inl (omega arith)) _ _
    (check_from 3 8 _ (inl (omega arith)) _ _ tt)))))
    (λ line. tt))

pub lines_refused_from : (L K n count : ℕ) (bytes : List ℕ) → RefusedFrom 3 8 (read_lines L K n count bytes)
unfolding read_lines
lines_refused_from L K n zero bytes = tt
lines_refused_from L K n (suc count) bytes =
    and_then_from 3 8 _ _ (line_refused_from L K n bytes)
    (λ first. and_then_from 3 8 _ _ (lines_refused_from L K n count first.1) (λ others. tt))

pub thread_refused_from : (L K : ℕ) (bytes : List ℕ) → RefusedFrom 3 8 (read_thread L K bytes)
unfolding read_thread
thread_refused_from L K bytes =
    check_from 3 8 _ (inl (omega arith)) _ _
    (check_from 3 8 _ (inl (omega arith)) _ _ (lines_refused_from L K _ _ (drop size_th bytes)))

pub threads_refused_from : (L K count : ℕ) (bytes : List ℕ) → RefusedFrom 3 8 (read_threads L K count bytes)
unfolding read_threads
threads_refused_from L K zero bytes = tt
threads_refused_from L K (suc count) bytes =
    and_then_from 3 8 _ _ (thread_refused_from L K bytes)
    (λ first. and_then_from 3 8 _ _ (threads_refused_from L K count first.1) (λ others. tt))

wider : {A : Type 0} (o : Outcome A) → RefusedFrom 3 8 o → RefusedFrom 1 9 o
wider (refused number) (inl h) = inl (omega arith)
wider (refused number) (inr h) = inr h
wider (accepted a) h = tt

pub program_refused_from : (bytes : List ℕ) → RefusedFrom 1 9 (read_program bytes)
unfolding read_program ends_after
program_refused_from bytes =
    let L = get_or bytes 3 0 in
    let K = get_or bytes 4 0 in
    let T = get_or bytes 2 0 in
    check_from 1 9 _ (inl (omega arith)) _ _
    (check_from 1 9 _ (inl (omega arith)) _ _
    (and_then_from 1 9 _ _
    (wider (read_threads L K T (drop size_pr bytes)) (threads_refused_from L K T (drop size_pr bytes)))
    (λ read. check_from 1 9 _ (inl (omega arith)) _ _ tt)))

-- An input that is refused is refused with a number from 1 to 9, or with 12.
pub refused_from_one_to_nine_or_twelve : (bytes : List ℕ) {k : ℕ} → read_program bytes ≡ refused k
    → ((1 ≤ k) × (k ≤ 9)) ⊎ (k ≡ 12)
refused_from_one_to_nine_or_twelve bytes e = subst (RefusedFrom 1 9) e (program_refused_from bytes)
