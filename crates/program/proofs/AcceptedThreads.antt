-- Accepted lines and threads: their records are the spellings of threads within the limits.
use Prim.Native.Nat.{ℕ, zero, suc, ◌+◌, ◌*◌, ◌≤◌}
use mathlib.Core.Bool.{true}
use mathlib.Core.List.{List, [], ◌∷◌, ◌++◌}
use mathlib.Core.Path.{◌≡◌, refl, sym, ap, subst, ◌∙◌}
use native.Mathlib.Omega.{arith}
use lib.ListN.{length, get_or, drop}
use lib.Seq.{drop-cons}
use borrow.Author.Tests.{leb-true}
use Rattle.limits.specs.Limits.{max_lines}
use Rattle.program.specs.Program.{Line}
use Rattle.program.specs.Outcome.Outcome.{accepted}
use Rattle.program.specs.Format.{mark_th, size_th, size_in, is_record, read_lines, read_thread, read_threads}
use Rattle.program.specs.Spelling.{spell_line, spell_lines, spell_thread, spell_threads}
use Rattle.program.specs.Within.{LineNamed, ThreadWithin}
use Rattle.program.specs.Within.{All}
use Rattle.program.specs.Within.All.{none, more}
use Rattle.program.proofs.OutcomeLaws.{accepted_injective, check_accepted}
use Rattle.program.proofs.PartsLaws.{more_accepted}
use Rattle.program.proofs.RecordLaws.{record_stands}
use Rattle.program.proofs.FrontLaws.{front_is_whole, after_front, fronts_join}
use Rattle.program.proofs.SpellingLength.{length-spell_lines, length-spell_thread}
use Rattle.program.proofs.AcceptedLine.{LineRead, line_read}

-- What a number of accepted lines gives.
pub record LinesRead (L K n count : ℕ) (bytes : List ℕ) (lines : List Line) (rest : List ℕ) : Type 0 where
  pub counted : length lines ≡ count
  pub whole : count * size_in ≤ length bytes
  pub after : rest ≡ drop (count * size_in) bytes
  pub within : All (LineNamed L K n) lines
  pub spelled : bytes ≡ spell_lines lines ++ rest

-- The places follow from the spelling.
lines_placed : {L K n count : ℕ} {bytes rest : List ℕ} (lines : List Line)
    → length lines ≡ count
    → All (LineNamed L K n) lines
    → bytes ≡ spell_lines lines ++ rest
    → LinesRead L K n count bytes lines rest
lines_placed {rest} lines counted within spelled =
    let sized = length-spell_lines lines ∙ ap (λ k. k * size_in) counted in
    record {
      counted = counted;
      whole = front_is_whole (spell_lines lines) rest _ spelled sized;
      after = after_front (spell_lines lines) rest _ spelled sized;
      within = within;
      spelled = spelled;
    }

-- A line, and then more lines.
pub lines_read_cons : {L K n count : ℕ} {bytes mid rest : List ℕ} {line : Line} {lines : List Line}
    → LineRead L K n bytes line mid
    → LinesRead L K n count mid lines rest
    → LinesRead L K n (suc count) bytes (line ∷ lines) rest
unfolding spell_lines
lines_read_cons {rest} {line} {lines} one others =
    lines_placed (line ∷ lines) (ap suc others.counted) (more one.within others.within)
    (fronts_join (spell_line line) (spell_lines lines) rest one.spelled others.spelled)

pub lines_read : (L K n count : ℕ) (bytes : List ℕ) {got : List Line × List ℕ}
    → read_lines L K n count bytes ≡ accepted got → LinesRead L K n count bytes got.0 got.1
unfolding read_lines spell_lines
lines_read L K n zero bytes e =
    subst (λ got. LinesRead L K n zero bytes got.0 got.1) (accepted_injective e)
    (lines_placed [] refl none refl)
lines_read L K n (suc count) bytes e =
    let (first, others, at_first, at_others, joined) = more_accepted _ _ e in
    subst (λ got. LinesRead L K n (suc count) bytes got.0 got.1) joined
    (lines_read_cons (line_read L K n bytes at_first) (lines_read L K n count first.1 at_others))

-- A TH record that is due is its number of lines, and what follows.
pub thread_record_stands : (bytes : List ℕ) → is_record mark_th size_th bytes ≡ true
    → bytes ≡ mark_th ++ get_or bytes 2 0 ∷ drop size_th bytes
thread_record_stands bytes due =
    let (whole, marked) = record_stands mark_th size_th bytes due in
    marked ∙ rw (drop-cons bytes 2 0 (omega arith))

-- What an accepted thread gives.
pub record ThreadRead (L K : ℕ) (bytes : List ℕ) (lines : List Line) (rest : List ℕ) : Type 0 where
  pub counted : length lines ≡ get_or bytes 2 0
  pub whole : size_th + length lines * size_in ≤ length bytes
  pub after : rest ≡ drop (size_th + length lines * size_in) bytes
  pub within : ThreadWithin L K lines
  pub spelled : bytes ≡ spell_thread lines ++ rest

pub thread_read : (L K : ℕ) (bytes : List ℕ) {got : List Line × List ℕ}
    → read_thread L K bytes ≡ accepted got → ThreadRead L K bytes got.0 got.1
unfolding read_thread spell_thread
thread_read L K bytes {got} e =
    let three = check_accepted _ _ _ e in
    let four = check_accepted _ _ _ three.1 in
    let lines = got.0 in
    let read = lines_read L K _ _ (drop size_th bytes) four.1 in
    let after_number = ap (λ l. mark_th ++ get_or bytes 2 0 ∷ l) read.spelled in
    let number = ap (λ k. mark_th ++ k ∷ (spell_lines lines ++ got.1)) (sym read.counted) in
    let spelled = thread_record_stands bytes three.0 ∙ after_number ∙ number in
    record {
      counted = read.counted;
      whole = front_is_whole (spell_thread lines) got.1 _ spelled (length-spell_thread lines);
      after = after_front (spell_thread lines) got.1 _ spelled (length-spell_thread lines);
      within = record {
        few = rw read.counted (leb-true (get_or bytes 2 0) max_lines four.0);
        each = rw read.counted read.within;
      };
      spelled = spelled;
    }

-- What a number of accepted threads gives.
pub record ThreadsRead (L K count : ℕ) (bytes : List ℕ) (threads : List (List Line)) (rest : List ℕ) : Type 0 where
  pub counted : length threads ≡ count
  pub whole : length (spell_threads threads) ≤ length bytes
  pub after : rest ≡ drop (length (spell_threads threads)) bytes
  pub within : All (ThreadWithin L K) threads
  pub spelled : bytes ≡ spell_threads threads ++ rest

threads_placed : {L K count : ℕ} {bytes rest : List ℕ} (threads : List (List Line))
    → length threads ≡ count
    → All (ThreadWithin L K) threads
    → bytes ≡ spell_threads threads ++ rest
    → ThreadsRead L K count bytes threads rest
threads_placed {rest} threads counted within spelled =
    record {
      counted = counted;
      whole = front_is_whole (spell_threads threads) rest _ spelled refl;
      after = after_front (spell_threads threads) rest _ spelled refl;
      within = within;
      spelled = spelled;
    }

-- A thread, and then more threads.
pub threads_read_cons : {L K count : ℕ} {bytes mid rest : List ℕ} {lines : List Line} {threads : List (List Line)}
    → ThreadRead L K bytes lines mid
    → ThreadsRead L K count mid threads rest
    → ThreadsRead L K (suc count) bytes (lines ∷ threads) rest
unfolding spell_threads
threads_read_cons {rest} {lines} {threads} one others =
    threads_placed (lines ∷ threads) (ap suc others.counted) (more one.within others.within)
    (fronts_join (spell_thread lines) (spell_threads threads) rest one.spelled others.spelled)

pub threads_read : (L K count : ℕ) (bytes : List ℕ) {got : List (List Line) × List ℕ}
    → read_threads L K count bytes ≡ accepted got → ThreadsRead L K count bytes got.0 got.1
unfolding read_threads spell_threads
threads_read L K zero bytes e =
    subst (λ got. ThreadsRead L K zero bytes got.0 got.1) (accepted_injective e)
    (threads_placed [] refl none refl)
threads_read L K (suc count) bytes e =
    let (first, others, at_first, at_others, joined) = more_accepted _ _ e in
    subst (λ got. ThreadsRead L K (suc count) bytes got.0 got.1) joined
    (threads_read_cons (thread_read L K bytes at_first) (threads_read L K count first.1 at_others))
