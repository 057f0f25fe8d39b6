-- The starts of the threads, one after another, and how far they reach.
use Prim.Native.Nat.{ℕ, zero, suc, ◌+◌, ◌*◌, ◌≤◌, ◌<◌}
use mathlib.Core.List.{List, [], ◌∷◌, ◌++◌}
use mathlib.Core.Path.{◌≡◌, refl, sym, ap, ◌∙◌}
use native.Mathlib.Nat.{add-zero}
use native.Mathlib.Omega.{arith}
use lib.ListN.{length, get_or, length-append}
use Rattle.limits.specs.Limits.{max_threads, max_lines}
use Rattle.program.specs.Program.{Line, Program}
use Rattle.program.specs.Outcome.Outcome.{accepted}
use Rattle.program.specs.Format.{size_pr, size_th, size_in, read_program}
use Rattle.program.specs.Spelling.{spell_thread, spell_threads, spell}
use Rattle.program.specs.Within.{ThreadWithin, All}
use Rattle.program.specs.Within.All.{none, more}
use Rattle.program.specs.Layout.{thread_size, starts_from, start_of}
use Rattle.program.proofs.SpellingLength.{length-spell_thread}
use Rattle.program.proofs.RoundTrip.{accepted_is_spelling}

pub length-starts_from : (at : ℕ) (threads : List (List Line)) → length (starts_from at threads) ≡ length threads
unfolding starts_from
length-starts_from at [] = refl
length-starts_from at (lines ∷ threads) = ap suc (length-starts_from (at + thread_size lines) threads)

-- The starts of more threads go on where the threads before them end.
pub starts_append : (at : ℕ) (threads others : List (List Line))
    → starts_from at (threads ++ others)
    ≡ starts_from at threads ++ starts_from (at + length (spell_threads threads)) others
unfolding starts_from spell_threads
starts_append at [] others = ap (λ k. starts_from k others) (sym (add-zero at))
starts_append at (lines ∷ threads) others =
    let next = at + thread_size lines in
    let size = length (spell_thread lines ++ spell_threads threads) in
    let sized = length-append (spell_thread lines) (spell_threads threads) in
    let on : next + length (spell_threads threads) ≡ at + size = omega (arith, length-spell_thread lines) in
    ap (λ l. (at + size_th) ∷ l)
    (starts_append next threads others ∙ ap (λ k. starts_from next threads ++ starts_from k others) on)

-- The first thread's lines start after the PR record and its TH record, and each next thread's after the one before.
pub first_start : (threads : List (List Line)) → 0 < length threads → start_of threads 0 ≡ size_pr + size_th
unfolding start_of starts_from
first_start [] h = absurd (omega arith)
first_start (lines ∷ threads) h = refl

next_start_from : (at : ℕ) (threads : List (List Line)) (t : ℕ) → suc t < length threads
    → get_or (starts_from at threads) (suc t) 0 ≡ get_or (starts_from at threads) t 0 + thread_size (get_or threads t [])
unfolding starts_from
next_start_from at [] t h = absurd (omega arith)
next_start_from at (lines ∷ []) t h = absurd (omega arith)
next_start_from at (lines ∷ next ∷ threads) zero h = omega arith
next_start_from at (lines ∷ next ∷ threads) (suc t) h =
    next_start_from (at + thread_size lines) (next ∷ threads) t (omega arith)

pub next_start : (threads : List (List Line)) (t : ℕ) → suc t < length threads
    → start_of threads (suc t) ≡ start_of threads t + thread_size (get_or threads t [])
unfolding start_of
next_start threads t h = next_start_from size_pr threads t h

-- The bytes of threads within the limits are few.
pub threads_are_short : {L K : ℕ} (threads : List (List Line)) → All (ThreadWithin L K) threads
    → length (spell_threads threads) ≤ length threads * (size_th + max_lines * size_in)
unfolding spell_threads
threads_are_short [] none = omega arith
threads_are_short (lines ∷ threads) (more h hs) =
    let others = threads_are_short threads hs in
    let few = h.few in
    rw (length-append (spell_thread lines) (spell_threads threads), length-spell_thread lines) (omega arith)

pub accepted_is_short : (bytes : List ℕ) (p : Program) → read_program bytes ≡ accepted p
    → length bytes ≤ size_pr + max_threads * (size_th + max_lines * size_in)
unfolding spell
accepted_is_short bytes p e =
    let (spelled, within) = accepted_is_spelling bytes p e in
    let threads = threads_are_short p.threads within.each in
    let few = within.few_threads in
    rw spelled (omega arith)
