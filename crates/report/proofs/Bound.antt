-- How long a printed text can be, for a buffer that is never too short.
use Prim.Native.Nat.{ℕ, zero, suc, ◌*◌, ◌/◌, ◌^◌, ◌≤◌, ◌<◌}
use native.Mathlib.Omega.{arith}
use mathlib.Core.Path.{◌≡◌}
use mathlib.Core.List.{List, [], ◌∷◌, ◌++◌}
use lib.ListN.{length, get_or, length-append}
use Rattle.rules.specs.declared.Ending.{Ending}
use Rattle.program.specs.ThreadNumber.{thread_number}
use Rattle.program.specs.Steps.{step_size}
use Rattle.report.specs.Text.{decimal, line, step_line, step_lines, ending_line}
use Rattle.report.specs.Text.{longest_line, longest_step, longest_text}
use Rattle.report.proofs.Decimals.{decimal-length}

word_length : (n : ℕ) → n < 2 ^ 64 → length (decimal n) ≤ 20
word_length n h = decimal-length 19 n (omega arith)

-- A byte, or the number after it.
byte_length : (n : ℕ) → n ≤ 2 ^ 8 → length (decimal n) ≤ 3
byte_length n h = decimal-length 2 n (omega arith)

step_is_short : (t k l v : ℕ) → t < 2 ^ 8 → l < 2 ^ 8 → v < 2 ^ 8 → length (step_line t k l v) ≤ longest_step
unfolding step_line line
step_is_short t k l v small_thread small_location small_value =
    simp length-append
    (omega (arith, byte_length t (omega arith), byte_length l (omega arith), byte_length v (omega arith)))

steps_are_short : (steps : ℕ) (trace : List ℕ) → ((j : ℕ) → get_or trace j 0 < 2 ^ 8)
    → length (step_lines steps trace) ≤ longest_step * (length trace / step_size)
unfolding step_lines
steps_are_short zero trace small = omega arith
steps_are_short (suc steps) [] small = omega arith
steps_are_short (suc steps) (t ∷ []) small = omega arith
steps_are_short (suc steps) (t ∷ k ∷ []) small = omega arith
steps_are_short (suc steps) (t ∷ k ∷ l ∷ []) small = omega arith
steps_are_short (suc steps) (t ∷ k ∷ l ∷ v ∷ trace) small =
    omega (
      arith,
      length-append (step_line t k l v) (step_lines steps trace),
      step_is_short t k l v (small 0) (small 2) (small 3),
      steps_are_short steps trace (λ j. small (suc (suc (suc (suc j))))),
    )

-- A text of one line, a mark and a number.
pub number_is_short : (mark : List ℕ) → length mark ≡ 2 → (n : ℕ) → n < 2 ^ 64 → (trace_length : ℕ)
    → length (line (mark ∷ decimal n ∷ [])) ≤ longest_text trace_length
unfolding line
number_is_short mark two n h trace_length = simp length-append (omega (arith, word_length n h))

pub ending_is_short : (count steps : ℕ) (e : Ending) → count < 2 ^ 64 → steps < 2 ^ 64 → e.thread < 2 ^ 8
    → e.location < 2 ^ 64 → e.value < 2 ^ 8 → length (ending_line count steps e) ≤ longest_line
unfolding ending_line line
ending_is_short count steps e small_count small_steps small_thread small_location small_value =
    simp length-append (omega (
      arith,
      word_length count small_count,
      word_length steps small_steps,
      byte_length (thread_number e.thread) (omega arith),
      word_length e.location small_location,
      byte_length e.value (omega arith),
    ))

-- A text with steps: its first line is short, and so is each step's.
pub steps_text_is_short : (first : List ℕ) → length first ≤ longest_line → (steps : ℕ) (trace : List ℕ)
    → ((j : ℕ) → get_or trace j 0 < 2 ^ 8) → length (first ++ step_lines steps trace) ≤ longest_text (length trace)
steps_text_is_short first short steps trace small =
    omega (arith, length-append first (step_lines steps trace), steps_are_short steps trace small)
