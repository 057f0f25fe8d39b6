-- The program bytes there and back.
use Prim.Native.Nat.{ℕ, ◌+◌, ◌≤◌}
use mathlib.Core.Bool.{true}
use mathlib.Core.List.{List, [], ◌∷◌, ◌++◌, append-nil}
use mathlib.Core.Path.{◌≡◌, refl, sym, ap, ap₂, subst, ◌∙◌}
use native.Mathlib.Omega.{arith}
use lib.ListN.{length, get_or, drop}
use borrow.Author.Tests.{eqb-true}
use Rattle.lists.proofs.Places.{nothing_of_length_zero}
use Rattle.program.specs.Program.{Line, Program, fence_locations, named_locations}
use Rattle.program.specs.Outcome.Outcome.{accepted}
use Rattle.program.specs.Format.{mark_pr, size_pr, is_record, ends_after, read_threads, read_program}
use Rattle.program.specs.Spelling.{spell_threads, spell}
use Rattle.program.specs.Within.{Within}
use Rattle.program.proofs.OutcomeLaws.{accepted_injective, check_passes, check_accepted}
use Rattle.program.proofs.OutcomeLaws.{and_then_goes_on, and_then_accepted}
use Rattle.program.proofs.RecordLaws.{record_found}
use Rattle.program.proofs.Fences.{named_of_all, all_locations}
use Rattle.program.proofs.HeaderLaws.{InRange, in_range, are_in_range_lem, program_record_stands}
use Rattle.program.proofs.AcceptedThreads.{ThreadsRead, threads_read}
use Rattle.program.proofs.SpelledThreads.{read_threads_lem}

-- Reading the spelling of a program within the limits gives that program.
pub read_spelling : (p : Program) → Within p → read_program (spell p) ≡ accepted p
unfolding read_program spell ends_after
read_spelling p h =
    let T = length p.threads in
    let L = named_locations p in
    let K = p.values in
    let bytes = spell_threads p.threads in
    let range : InRange T L K = record {
      some_threads = h.some_threads;
      few_threads = h.few_threads;
      some_locations = h.some_locations;
      few_locations = h.few_locations;
      some_values = h.some_values;
      few_values = h.few_values;
    } in
    let to_the_end = ap (read_threads L K T) (sym (append-nil bytes)) in
    let threads = read_threads_lem L K h.some_values h.few_values p.threads [] h.each in
    check_passes _ _ _ (record_found mark_pr size_pr (T ∷ L ∷ K ∷ bytes) (omega arith))
    ∙ check_passes _ _ _ (are_in_range_lem T L K range)
    ∙ and_then_goes_on _ _ (to_the_end ∙ threads)
    ∙ check_passes _ _ _ refl
    ∙ ap (λ all. accepted (record { threads = p.threads; locations = all; values = p.values }))
    (all_locations p h.some_locations)

-- Threads in range, up to the end of the input, are the spelling of a program within the limits.
program_spelled : (bytes : List ℕ) {threads : List (List Line)} {rest : List ℕ}
    → is_record mark_pr size_pr bytes ≡ true
    → InRange (get_or bytes 2 0) (get_or bytes 3 0) (get_or bytes 4 0)
    → ThreadsRead (get_or bytes 3 0) (get_or bytes 4 0) (get_or bytes 2 0) (drop size_pr bytes) threads rest
    → length rest ≡ 0
    → let L = get_or bytes 3 0 in
    let p : Program = record { threads = threads; locations = L + fence_locations threads; values = get_or bytes 4 0 } in
    (bytes ≡ spell p) × Within p
unfolding spell
program_spelled bytes {threads} {rest} due range read ended =
    let L = get_or bytes 3 0 in
    let K = get_or bytes 4 0 in
    let to_the_end = ap (λ l. spell_threads threads ++ l) (nothing_of_length_zero rest ended) ∙ append-nil (spell_threads threads) in
    let named = named_of_all threads L K in (
      program_record_stands bytes due
          ∙ ap₂ (λ count l. mark_pr ++ count ∷ L ∷ K ∷ l) (sym read.counted) (read.spelled ∙ to_the_end)
          ∙ ap (λ l. mark_pr ++ length threads ∷ l ∷ K ∷ spell_threads threads) (sym named),
      record {
        some_threads = rw read.counted range.some_threads;
        few_threads = rw read.counted range.few_threads;
        some_locations = rw named range.some_locations;
        few_locations = rw named range.few_locations;
        some_values = range.some_values;
        few_values = range.few_values;
        each = rw named read.within;
      },
    )

-- An accepted input is the spelling of the program that it gives, which is within the limits.
pub accepted_is_spelling : (bytes : List ℕ) (p : Program) → read_program bytes ≡ accepted p
    → (bytes ≡ spell p) × Within p
unfolding read_program ends_after
accepted_is_spelling bytes p e =
    let one = check_accepted _ _ _ e in
    let two = check_accepted _ _ _ one.1 in
    let (got, at_threads, then) = and_then_accepted _ _ two.1 in
    let nine = check_accepted _ _ _ then in
    let read = threads_read _ _ _ _ at_threads in
    subst (λ p. (bytes ≡ spell p) × Within p) (accepted_injective nine.1)
    (program_spelled bytes one.0 (in_range _ _ _ two.0) read (eqb-true (length got.1) 0 nine.0))

-- The L that an accepted input holds is the number of its program's named locations.
pub named_in_header : (bytes : List ℕ) (p : Program) → read_program bytes ≡ accepted p
    → (size_pr ≤ length bytes) × (get_or bytes 3 0 ≡ named_locations p)
unfolding spell
named_in_header bytes p e =
    let spelled = (accepted_is_spelling bytes p e).0 in
    (omega (arith, ap length spelled), ap (λ l. get_or l 3 0) spelled)
