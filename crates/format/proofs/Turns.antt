-- The turns of the reader's loops: what one line, or one thread, does to the answer.
use Prim.Native.Nat.{ℕ, zero, suc, ◌+◌, ◌-◌, ◌≤◌, ◌<◌}
use native.Mathlib.Omega.{arith}
use mathlib.Core.Path.{◌≡◌, refl, ap, sym, ◌∙◌}
use mathlib.Core.Bool.{Bool, true, false, ◌||◌, or_assoc, or-false}
use mathlib.Core.List.{List, ◌∷◌}
use lib.ListN.{length, get_or, drop, length-drop}
use borrow.Author.Tests.{le-leb, lt-leb}
use Rattle.limits.specs.Limits.{max_lines}
use lib.Seq.{drop-drop, get_or-drop}
use Rattle.program.specs.Program.{Line, is_fence, any_is}
use Rattle.program.specs.Outcome.{Outcome, check, and_then, told}
use Rattle.program.specs.Outcome.Outcome.{refused, accepted}
use Rattle.program.specs.Format.{is_record, mark_in, mark_th, size_in, size_th, fields_to_line}
use Rattle.program.specs.Format.{read_line, read_lines, read_thread}
use Rattle.records.specs.Fields.{fields_of}
use Rattle.records.specs.declared.Fields.{Fields}
use Rattle.format.specs.Inner.{line_is_fence, lines_have_fence, lines_told}
use Rattle.format.proofs.FieldChecks.{handed_on}
use Rattle.program.proofs.AcceptedThreads.{lines_read}
use Rattle.program.proofs.RecordLaws.{record_stands}
use Rattle.program.proofs.AcceptedLine.{line_read}

module _ {A B : Type 0} (tell : A → B) where
  -- What is told of an outcome tells which it is.
  pub is_accepted : (o : Outcome A) {b : B} → told tell o ≡ accepted b → (a : A) × (o ≡ accepted a) × (tell a ≡ b)
  unfolding told
  is_accepted (refused k) e = absurd cc
  is_accepted (accepted a) {b} e = (a, refl, (let i : tell a ≡ b = cc in i))

  pub is_refused : (o : Outcome A) {k : ℕ} → told tell o ≡ refused k → o ≡ refused k
  unfolding told
  is_refused (refused j) e = ap refused (let i : j ≡ _ = cc in i)
  is_refused (accepted a) e = absurd cc

-- What only goes on tells what is told of what it goes on from.
pub told_goes_on : {A B C : Type 0} (tell : B → C) (o : Outcome A) (f : A → B)
    → told tell (and_then o (λ a. accepted (f a))) ≡ told (λ a. tell (f a)) o
unfolding and_then told
told_goes_on tell (refused k) f = refl
told_goes_on tell (accepted a) f = refl

-- What is told where a fence may have been before.
unfoldable pub also_before : Bool → Outcome Bool → Outcome Bool
also_before before (accepted b) = accepted (before || b)
also_before before (refused k) = refused k

none_before : (o : Outcome Bool) → also_before false o ≡ o
unfolding also_before
none_before (accepted b) = refl
none_before (refused k) = refl

before_before : (a b : Bool) (o : Outcome Bool) → also_before a (also_before b o) ≡ also_before (a || b) o
unfolding also_before
before_before a b (accepted c) = ap accepted (sym (or_assoc a b c))
before_before a b (refused k) = refl

-- One line more at the front of lines.
told_cons : (line : Line) (o : Outcome (List Line × List ℕ))
    → told lines_have_fence (and_then o (λ others. accepted (line ∷ others.0, others.1)))
    ≡ also_before (is_fence line) (told lines_have_fence o)
unfolding and_then told also_before any_is
told_cons line (refused k) = refl
told_cons line (accepted others) = refl

-- A record that stands at a cursor fits.
pub record_fits : (mark bytes : List ℕ) (at size : ℕ) → at ≤ length bytes
    → is_record mark size (drop at bytes) ≡ true → at + size ≤ length bytes
record_fits mark bytes at size h e =
    omega (arith, (record_stands mark size (drop at bytes) e).0, length-drop at bytes)

module _ (L K n : ℕ) (bytes : List ℕ) where
  -- A line that fails ends the lines.
  lines_fail : (left : ℕ) → 0 < left → {k : ℕ} → told line_is_fence (read_line L K n bytes) ≡ refused k
      → told lines_have_fence (read_lines L K n left bytes) ≡ refused k
  unfolding read_lines and_then told
  lines_fail zero some e = absurd (omega arith)
  lines_fail (suc left) some e = rw (is_refused line_is_fence (read_line L K n bytes) e)

  -- A line that passes leaves one fewer, behind it.
  lines_pass : (left : ℕ) → 0 < left → {b : Bool} → told line_is_fence (read_line L K n bytes) ≡ accepted b
      → (size_in ≤ length bytes)
      × (told lines_have_fence (read_lines L K n left bytes)
      ≡ also_before b (told lines_have_fence (read_lines L K n (left - 1) (drop size_in bytes))))
  unfolding read_lines and_then
  lines_pass zero some e = absurd (omega arith)
  lines_pass (suc left) some e =
      let (first, read, is) = is_accepted line_is_fence (read_line L K n bytes) e in
      let now = line_read L K n bytes read in
      let one : left ≡ suc left - 1 = omega arith in (
        now.whole,
        rw read (told_cons first.0 (read_lines L K n left first.1) ∙ rw (now.after, is, ← one)),
      )

-- The invariant of the loop over a thread's lines: after so many of them, at byte next, what is left comes, with what
-- was before, to what is told of all from byte at on.
pub record LinesAhead (L K n : ℕ) (bytes : List ℕ) (at : ℕ) (fenced : Bool) (next passed : ℕ) : Type 0 where
  pub inside : next ≤ length bytes
  pub comes_to :
      also_before fenced (told lines_have_fence (read_lines L K n (n - passed) (drop next bytes)))
      ≡ told lines_have_fence (read_lines L K n n (drop at bytes))

-- Where the loop begins.
pub lines_begin : (L K n : ℕ) (bytes : List ℕ) (at : ℕ) → at ≤ length bytes → LinesAhead L K n bytes at false at 0
lines_begin L K n bytes at h =
    let all : n - 0 ≡ n = omega arith in
    record { inside = h; comes_to = rw all (none_before (told lines_have_fence (read_lines L K n n (drop at bytes)))) }

module _ {L K n : ℕ} {bytes : List ℕ} {at : ℕ} {fenced : Bool} {next passed : ℕ}
    (ahead : LinesAhead L K n bytes at fenced next passed) where
  pub turn_fails : passed < n → {k : ℕ} → told line_is_fence (read_line L K n (drop next bytes)) ≡ refused k
      → told lines_have_fence (read_lines L K n n (drop at bytes)) ≡ refused k
  unfolding also_before
  turn_fails more e =
      sym ahead.comes_to ∙ ap (also_before fenced) (lines_fail L K n (drop next bytes) (n - passed) (omega arith) e)

  pub turn_passes : passed < n → {b : Bool} → told line_is_fence (read_line L K n (drop next bytes)) ≡ accepted b
      → LinesAhead L K n bytes at (fenced || b) (next + size_in) (passed + 1)
  turn_passes more {b} e =
      let p = lines_pass L K n (drop next bytes) (n - passed) (omega arith) e in
      let one : n - (passed + 1) ≡ n - passed - 1 = omega arith in
      let others = told lines_have_fence (read_lines L K n (n - passed - 1) (drop size_in (drop next bytes))) in
      record {
        inside = omega (arith, p.0, length-drop next bytes);
        comes_to =
            rw (one, ← drop-drop size_in next bytes)
            (sym (ap (also_before fenced) p.1 ∙ before_before fenced b others) ∙ ahead.comes_to);
      }

  pub lines_end : n ≤ passed → told lines_have_fence (read_lines L K n n (drop at bytes)) ≡ accepted fenced
  unfolding read_lines told also_before any_is
  lines_end e =
      let none : n - passed ≡ 0 = omega arith in
      sym (rw none at ahead.comes_to) ∙ ap accepted (or-false fenced)

pub ruleset line_turns = (lines_begin, turn_fails, turn_passes, lines_end, handed_on)

-- A line's record that does not stand there is refused; where it does, its fields are checked.
pub line_unmarked : (L K n : ℕ) (bytes : List ℕ) → is_record mark_in size_in bytes ≡ false
    → told line_is_fence (read_line L K n bytes) ≡ refused 3
unfolding read_line check told
line_unmarked L K n bytes e = rw e

pub line_checked : (L K n : ℕ) (bytes : List ℕ) (f : Fields)
    → is_record mark_in size_in bytes ≡ true → f ≡ fields_of bytes
    → told line_is_fence (read_line L K n bytes) ≡ told is_fence (fields_to_line L K n f.op f.reg f.target f.a f.b)
unfolding read_line check fields_of
line_checked L K n bytes f e is = rw (e, is) (told_goes_on line_is_fence _ (λ line. (line, drop size_in bytes)))

pub ruleset line_checks = (record_fits, line_unmarked, line_checked)

-- A thread whose record does not stand there is refused.
pub thread_unmarked : (L K : ℕ) (bytes : List ℕ) → is_record mark_th size_th bytes ≡ false
    → told lines_told (read_thread L K bytes) ≡ refused 3
unfolding read_thread check told
thread_unmarked L K bytes e = rw e

-- One whose record stands at a cursor is refused for too many lines, or else is what its lines are.
module _ (L K : ℕ) (bytes : List ℕ) (at : ℕ) (due : is_record mark_th size_th (drop at bytes) ≡ true) where
  pub thread_too_long : max_lines < get_or bytes (at + 2) 0
      → told lines_told (read_thread L K (drop at bytes)) ≡ refused 4
  unfolding read_thread check told
  thread_too_long many = rw (due, get_or-drop at bytes 2 0, lt-leb (get_or bytes (at + 2) 0) max_lines many)

  module _ (few : get_or bytes (at + 2) 0 ≤ max_lines) where
    thread_lines : read_thread L K (drop at bytes)
        ≡ read_lines L K (get_or bytes (at + 2) 0) (get_or bytes (at + 2) 0) (drop (at + size_th) bytes)
    unfolding read_thread check
    thread_lines = rw (
      due,
      get_or-drop at bytes 2 0,
      le-leb (get_or bytes (at + 2) 0) max_lines few,
      drop-drop size_th at bytes,
    )

    pub thread_passed : (n : ℕ) {b : Bool} → get_or bytes (at + 2) 0 ≡ n
        → told lines_have_fence (read_lines L K n n (drop (at + size_th) bytes)) ≡ accepted b
        → told lines_told (read_thread L K (drop at bytes)) ≡ accepted (record { count = n; fenced = b })
    unfolding told
    thread_passed n {b} is e =
        let (got, read, fenced) = is_accepted lines_have_fence (read_lines L K n n (drop (at + size_th) bytes)) e in
        let counted = (lines_read L K n n (drop (at + size_th) bytes) read).counted in
        rw (thread_lines, is, read, counted, fenced)

    pub thread_failed : (n : ℕ) {k : ℕ} → get_or bytes (at + 2) 0 ≡ n
        → told lines_have_fence (read_lines L K n n (drop (at + size_th) bytes)) ≡ refused k
        → told lines_told (read_thread L K (drop at bytes)) ≡ refused k
    unfolding told
    thread_failed n is e =
        rw (thread_lines, is, is_refused lines_have_fence (read_lines L K n n (drop (at + size_th) bytes)) e)

pub ruleset thread_checks = (record_fits, thread_unmarked, thread_too_long, thread_passed, thread_failed, handed_on)
