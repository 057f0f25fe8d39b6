-- Lines as they are printed, field after field, and one after another.
use Prim.Native.Nat.{ℕ, zero, suc, ◌+◌, ◌*◌, ◌/◌, ◌≤◌, ◌<◌, min}
use native.Mathlib.Decide.{dec_le}
use native.Mathlib.Nat.{suc-mul}
use native.Mathlib.Numerals.{add-one, towards_suc}
use native.Mathlib.Omega.{arith}
use mathlib.Core.Path.{◌≡◌, refl, ap, sym, ◌∙◌}
use mathlib.Core.List.{List, [], ◌∷◌, ◌++◌, append_assoc, append-nil}
use lib.ListN.{length, get_or, take, drop}
use lib.Seq.{get_or-take, get_or-drop, drop-drop}
use Rattle.std.specs.Simd.{first_chunks}
use Rattle.report.specs.Prints.{Prints}
use Rattle.program.specs.Steps.{step_size, kind_number}
use Rattle.rules.specs.declared.Ending.{Ending}
use Rattle.report.specs.Text.{decimal, space, newline, line, letter_of, mark_nr, mark_st}
use Rattle.report.specs.Text.{ending_line, step_line, step_lines}
use Rattle.report.specs.declared.put.Cursor.{Cursor}
use Rattle.report.proofs.Puts.{prints_nothing, prints_then, prints_as}

-- A mark and one field.
pub line_of_two : (mark d : List ℕ) → line (mark ∷ d ∷ []) ≡ mark ++ (space ∷ d) ++ (newline ∷ [])
unfolding line
line_of_two mark d = sym (append_assoc mark (space ∷ d) (newline ∷ []))

-- The last three fields of a line.
pub line_of_last_three : (a : ℕ) (b d : List ℕ)
    → space ∷ line ((a ∷ []) ∷ b ∷ d ∷ []) ≡ (space ∷ a ∷ []) ++ (space ∷ b) ++ (space ∷ d) ++ (newline ∷ [])
unfolding line
line_of_last_three a b d =
    ap (λ (l : List ℕ). space ∷ a ∷ space ∷ l) (sym (append_assoc b (space ∷ d) (newline ∷ [])))

-- The first two fields of a line, and the rest.
pub line_of_first_two : (a b d : List ℕ) (others : List (List ℕ))
    → line (a ∷ b ∷ d ∷ others) ≡ a ++ (space ∷ b) ++ (space ∷ line (d ∷ others))
unfolding line
line_of_first_two a b d others = sym (append_assoc a (space ∷ b) (space ∷ line (d ∷ others)))

-- The first four fields of a line, and the rest.
pub line_of_first_four : (a b d e f : List ℕ) (others : List (List ℕ))
    → line (a ∷ b ∷ d ∷ e ∷ f ∷ others)
    ≡ a ++ (space ∷ b) ++ (space ∷ d) ++ (space ∷ e) ++ (space ∷ line (f ∷ others))
unfolding line
line_of_first_four a b d e f others = simp append_assoc

-- The line of an ending: the fields up to the thread, then the access.
pub ending_prints : {a b d : Cursor} {kind : ℕ} (count steps : ℕ) (w : Ending) → kind ≡ kind_number w.kind
    → Prints a (mark_nr ++ (space ∷ decimal count) ++ (space ∷ decimal steps) ++ (space ∷ decimal (w.thread + 1))) b
    → Prints b (space ∷ line ((letter_of kind ∷ []) ∷ decimal w.location ∷ decimal w.value ∷ [])) d
    → Prints a (ending_line count steps w) d
unfolding ending_line
ending_prints count steps w numbered run access =
    rw (← add-one w.thread, ← numbered) (prints_as (line_of_first_four _ _ _ _ _ _) (prints_then run access))

-- The line of a step: the mark and the thread, then the access.
pub step_line_prints : {a b d : Cursor} (thread kind location value : ℕ)
    → Prints a (mark_st ++ (space ∷ decimal thread)) b
    → Prints b (space ∷ line ((letter_of kind ∷ []) ∷ decimal location ∷ decimal value ∷ [])) d
    → Prints a (step_line thread kind location value) d
unfolding step_line
step_line_prints thread kind location value front access =
    prints_as (line_of_first_two _ _ _ _) (prints_then front access)

-- The line of the step whose bytes stand there.
abbrev line_at : (trace : List ℕ) (from : ℕ) → List ℕ
line_at trace from =
    step_line (get_or trace from 0) (get_or trace (from + 1) 0) (get_or trace (from + 2) 0) (get_or trace (from + 3) 0)

-- The line of one step more.
one_more_step : (i : ℕ) (trace : List ℕ) → i < length trace / step_size
    → step_lines (suc i) trace ≡ step_lines i trace ++ line_at trace (i * step_size)
unfolding step_lines
one_more_step i [] h = absurd (omega arith)
one_more_step i (t ∷ []) h = absurd (omega arith)
one_more_step i (t ∷ k ∷ []) h = absurd (omega arith)
one_more_step i (t ∷ k ∷ l ∷ []) h = absurd (omega arith)
one_more_step zero (t ∷ k ∷ l ∷ v ∷ trace) h = append-nil (step_line t k l v)
one_more_step (suc i) (t ∷ k ∷ l ∷ v ∷ trace) h =
    rw (one_more_step i trace (omega arith)) (simp (append_assoc, suc-mul, towards_suc))

-- No lines stand past the last whole step of the trace.
no_more_steps : (i steps : ℕ) (trace : List ℕ) → length trace / step_size ≤ i → i ≤ steps
    → step_lines steps trace ≡ step_lines i trace
unfolding step_lines
no_more_steps zero zero trace h k = refl
no_more_steps (suc i) zero trace h k = absurd (omega arith)
no_more_steps zero (suc steps) [] h k = refl
no_more_steps zero (suc steps) (t ∷ []) h k = refl
no_more_steps zero (suc steps) (t ∷ a ∷ []) h k = refl
no_more_steps zero (suc steps) (t ∷ a ∷ l ∷ []) h k = refl
no_more_steps zero (suc steps) (t ∷ a ∷ l ∷ v ∷ trace) h k = absurd (omega arith)
no_more_steps (suc i) (suc steps) [] h k = refl
no_more_steps (suc i) (suc steps) (t ∷ []) h k = refl
no_more_steps (suc i) (suc steps) (t ∷ a ∷ []) h k = refl
no_more_steps (suc i) (suc steps) (t ∷ a ∷ l ∷ []) h k = refl
no_more_steps (suc i) (suc steps) (t ∷ a ∷ l ∷ v ∷ trace) h k =
    rw (no_more_steps i steps trace (omega arith) (omega arith))

module _ {a : Cursor} (trace : List ℕ) where
  pub no_steps_print : Prints a (step_lines 0 trace) a
  unfolding step_lines
  no_steps_print = prints_nothing a

  pub step_prints : {i : ℕ} {b d : Cursor} → Prints a (step_lines i trace) b
      → i < length trace / step_size → Prints b (line_at trace (i * step_size)) d
      → Prints a (step_lines (i + 1) trace) d
  step_prints {i} p h q =
      prints_as (ap (λ (n : ℕ). step_lines n trace) (add-one i) ∙ one_more_step i trace h) (prints_then p q)

  -- As many as there are whole steps.
  pub whole_steps_print : {i : ℕ} (steps : ℕ) {b : Cursor} → Prints a (step_lines i trace) b
      → i ≡ min steps (length trace / step_size) → Prints a (step_lines steps trace) b
  whole_steps_print {i} steps {b} p is = go (dec_le steps (length trace / step_size))
    where
      go : Dec (steps ≤ length trace / step_size) → Prints a (step_lines steps trace) b
      go (yes some) = let all : i ≡ steps = omega arith in rw all at p
      go (no more) = prints_as (no_more_steps i steps trace (omega arith) (omega arith)) p

-- The bytes of a step, as the library cuts a trace into steps.
step_bytes_at : (n i : ℕ) (trace : List ℕ) → i < n
    → get_or (first_chunks step_size n trace) i [] ≡ take step_size (drop (i * step_size) trace)
step_bytes_at zero i trace h = absurd (omega arith)
step_bytes_at (suc n) zero trace h = refl
step_bytes_at (suc n) (suc i) trace h =
    let more : suc i * step_size ≡ step_size + i * step_size = omega arith in
    step_bytes_at n i (drop step_size trace) (omega arith) ∙ rw (drop-drop, more)

module _ {steps : List (List ℕ)} (n m i : ℕ) (trace : List ℕ) (cut : steps ≡ first_chunks step_size n trace)
    (some : i < m) (inside : i < n) where
  byte_at : (j : ℕ) → j < step_size → get_or (get_or (take m steps) i []) j 0 ≡ get_or trace (i * step_size + j) 0
  byte_at j h =
      ap (λ (l : List ℕ). get_or l j 0)
      (get_or-take m steps i [] some ∙ ap (λ (l : List (List ℕ)). get_or l i []) cut ∙ step_bytes_at n i trace inside)
      ∙ get_or-take step_size (drop (i * step_size) trace) j 0 h
      ∙ get_or-drop (i * step_size) trace j 0

  pub line_prints : {a b : Cursor}
      → Prints a
      (step_line (get_or (get_or (take m steps) i []) 0 0) (get_or (get_or (take m steps) i []) 1 0)
      (get_or (get_or (take m steps) i []) 2 0) (get_or (get_or (take m steps) i []) 3 0))
      b
      → Prints a (line_at trace (i * step_size)) b
  line_prints p =
      let from : i * step_size + 0 ≡ i * step_size = omega arith in
      let first = byte_at 0 (omega arith) ∙ ap (λ (k : ℕ). get_or trace k 0) from in
      let second = byte_at 1 (omega arith) in
      let third = byte_at 2 (omega arith) in
      let fourth = byte_at 3 (omega arith) in
      let bytes = get_or (take m steps) i [] in
      let same : line_at trace (i * step_size)
      ≡ step_line (get_or bytes 0 0) (get_or bytes 1 0) (get_or bytes 2 0) (get_or bytes 3 0) = cc in
      prints_as same p
