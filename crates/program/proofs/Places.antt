-- The place of a line in the bytes of an accepted program.
use Prim.Native.Nat.{ℕ, zero, suc, ◌+◌, ◌-◌, ◌*◌, ◌≤◌, ◌<◌}
use mathlib.Core.List.{List, [], ◌∷◌, ◌++◌, append_assoc, append-nil}
use mathlib.Core.Path.{◌≡◌, sym, ap, ◌∙◌}
use native.Mathlib.Omega.{arith}
use lib.ListN.{length, get_or, drop, length-drop}
use lib.Seq.{drop-drop, drop_at, get_or-drop}
use Rattle.limits.specs.Limits.{min_values, max_values}
use Rattle.program.specs.Program.{Line, Program, lines_of, named_locations}
use Rattle.program.specs.Outcome.Outcome.{accepted}
use Rattle.program.specs.Format.{size_pr, size_th, size_in, read_line, read_program}
use Rattle.program.specs.Spelling.{spell_line, spell_lines, spell_thread, spell_threads, spell}
use Rattle.program.specs.Within.{LineNamed}
use Rattle.program.specs.Layout.{thread_size, starts_from, start_of}
use Rattle.program.proofs.AllLaws.{all_at}
use Rattle.program.proofs.SpellingLength.{length-spell_line, length-spell_thread}
use Rattle.program.proofs.AcceptedLine.{FieldsRead, line_read}
use Rattle.program.proofs.SpelledLine.{read_line_lem}
use Rattle.program.proofs.FrontLaws.{front_is_whole, drop_past_front}
use Rattle.program.proofs.RoundTrip.{accepted_is_spelling}

-- Line i of spelled lines, and the lines after it.
lines_from : (lines : List Line) (i : ℕ) (d : Line) (rest : List ℕ) → i < length lines
    → drop (size_in * i) (spell_lines lines ++ rest)
    ≡ spell_line (get_or lines i d) ++ (spell_lines (drop (suc i) lines) ++ rest)
unfolding spell_lines
lines_from [] i d rest h = absurd (omega arith)
lines_from (line ∷ lines) zero d rest h = append_assoc (spell_line line) (spell_lines lines) rest
lines_from (line ∷ lines) (suc i) d rest h =
    let on : size_in * suc i ≡ size_in + size_in * i = omega arith in
    rw (
      on,
      append_assoc (spell_line line) (spell_lines lines) rest,
      ← (drop-drop (size_in * i) size_in (spell_line line ++ (spell_lines lines ++ rest))),
      drop_at (spell_line line) (spell_lines lines ++ rest) size_in (length-spell_line line),
    )
    (lines_from lines i d rest (omega arith))

-- The lines of a thread stand at a byte: after its TH record, which holds their number.
pub record ThreadStands (bytes : List ℕ) (start : ℕ) (lines : List Line) : Type 0 where
  pub counted : get_or bytes (start - 1) 0 ≡ length lines
  pub whole : start + length lines * size_in ≤ length bytes
  pub others : List ℕ
  pub spelled : drop start bytes ≡ spell_lines lines ++ others

pub threads_stand : (bytes : List ℕ) (at : ℕ) (threads : List (List Line)) (rest : List ℕ) (t : ℕ)
    → drop at bytes ≡ spell_threads threads ++ rest
    → t < length threads
    → ThreadStands bytes (get_or (starts_from at threads) t 0) (get_or threads t [])
unfolding spell_threads starts_from spell_thread
threads_stand bytes at [] rest t e h = absurd (omega arith)
threads_stand bytes at (lines ∷ threads) rest zero e h =
    let here = e ∙ append_assoc (spell_thread lines) (spell_threads threads) rest in
    let number : get_or (starts_from at (lines ∷ threads)) zero 0 - 1 ≡ at + 2 = omega arith in
    let room = front_is_whole (spell_thread lines) (spell_threads threads ++ rest) _ here (length-spell_thread lines) in
    record {
      counted = ap (λ k. get_or bytes k 0) number ∙ sym (get_or-drop at bytes 2 0) ∙ ap (λ l. get_or l 2 0) here;
      whole = omega (arith, length-drop at bytes);
      others = spell_threads threads ++ rest;
      spelled = sym (drop-drop size_th at bytes) ∙ ap (drop size_th) here;
    }
threads_stand bytes at (lines ∷ threads) rest (suc t) e h =
    let here = e ∙ append_assoc (spell_thread lines) (spell_threads threads) rest in
    let others = spell_threads threads ++ rest in
    let sized = length-spell_thread lines in
    let after = drop_past_front bytes (spell_thread lines) others at (thread_size lines) here sized in
    threads_stand bytes (at + thread_size lines) threads rest t after (omega arith)

-- A line of a thread of n lines stands at a byte: it is whole, it is spelled there, and reading it there gives it.
pub record LineStands (L K n : ℕ) (bytes : List ℕ) (at : ℕ) (line : Line) : Type 0 where
  pub whole : at + size_in ≤ length bytes
  pub spelled : drop at bytes ≡ spell_line line ++ drop (at + size_in) bytes
  pub within : LineNamed L K n line
  pub read : read_line L K n (drop at bytes) ≡ accepted (line, drop (at + size_in) bytes)
  pub fields :
      FieldsRead
      L
      K
      n
      (get_or bytes (at + 2) 0)
      (get_or bytes (at + 3) 0)
      (get_or bytes (at + 4) 0)
      (get_or bytes (at + 5) 0)
      (get_or bytes (at + 6) 0)
      line

line_stands_at : (L K n : ℕ) → min_values ≤ K → K ≤ max_values → (bytes : List ℕ) (at : ℕ) (line : Line) (rest : List ℕ)
    → LineNamed L K n line → drop at bytes ≡ spell_line line ++ rest → LineStands L K n bytes at line
line_stands_at L K n some_values few_values bytes at line rest within e =
    let sized = length-spell_line line in
    let after = drop_past_front bytes (spell_line line) rest at size_in e sized in
    let spelled = e ∙ ap (λ l. spell_line line ++ l) (sym after) in
    let again = read_line_lem L K n some_values few_values line (drop (at + size_in) bytes) within in
    let read = ap (read_line L K n) spelled ∙ again in
    let whole = front_is_whole (spell_line line) rest size_in e sized in
    record {
      whole = omega (arith, length-drop at bytes);
      spelled = spelled;
      within = within;
      read = read;
      fields = simp (get_or-drop at bytes) at (line_read L K n (drop at bytes) read).fields;
    }

-- The lines of thread t of an accepted program start at its start.
pub thread_stands : (bytes : List ℕ) (p : Program) → read_program bytes ≡ accepted p
    → (t : ℕ) → t < length p.threads → ThreadStands bytes (start_of p.threads t) (lines_of p t)
unfolding spell start_of
thread_stands bytes p e t h =
    let spelled = (accepted_is_spelling bytes p e).0 in
    let threads = ap (drop size_pr) spelled ∙ sym (append-nil (spell_threads p.threads)) in
    threads_stand bytes size_pr p.threads [] t threads h

-- Line i of thread t of an accepted program stands 7 * i bytes after that.
pub line_stands : (bytes : List ℕ) (p : Program) → read_program bytes ≡ accepted p
    → (t i : ℕ) (d : Line) → t < length p.threads → i < length (lines_of p t)
    → LineStands
    (named_locations p)
    p.values
    (length (lines_of p t))
    bytes
    (start_of p.threads t + size_in * i)
    (get_or (lines_of p t) i d)
line_stands bytes p e t i d t_within i_within =
    let within = (accepted_is_spelling bytes p e).1 in
    let thread = thread_stands bytes p e t t_within in
    let lines = lines_of p t in
    let start = start_of p.threads t in
    let line_within = all_at (all_at within.each t [] t_within).each i d i_within in
    let from_start = sym (drop-drop (size_in * i) start bytes) ∙ ap (drop (size_in * i)) thread.spelled in
    let spelled = from_start ∙ lines_from lines i d thread.others i_within in
    line_stands_at _ _ _ within.some_values within.few_values bytes _ (get_or lines i d) _ line_within spelled
