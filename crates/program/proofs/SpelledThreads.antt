-- The reading of the spelling of lines and of threads gives these.
use Prim.Native.Nat.{ℕ, ◌≤◌}
use mathlib.Core.List.{List, [], ◌∷◌, ◌++◌, append_assoc}
use mathlib.Core.Path.{◌≡◌, refl, ◌∙◌}
use native.Mathlib.Omega.{arith}
use lib.ListN.{length}
use borrow.Author.Tests.{le-leb}
use Rattle.limits.specs.Limits.{min_values, max_values, max_lines}
use Rattle.program.specs.Program.{Line}
use Rattle.program.specs.Outcome.Outcome.{accepted}
use Rattle.program.specs.Format.{mark_th, size_th, read_lines, read_thread, read_threads}
use Rattle.program.specs.Spelling.{spell_line, spell_lines, spell_thread, spell_threads}
use Rattle.program.specs.Within.{LineNamed, ThreadWithin, All}
use Rattle.program.specs.Within.All.{none, more}
use Rattle.program.proofs.OutcomeLaws.{check_passes}
use Rattle.program.proofs.PartsLaws.{more_read}
use Rattle.program.proofs.RecordLaws.{record_found}
use Rattle.program.proofs.SpelledLine.{read_line_lem}

module _ (L K : ℕ) (some_values : min_values ≤ K) (few_values : K ≤ max_values) where
  pub read_lines_lem : (n : ℕ) (lines : List Line) (rest : List ℕ) → All (LineNamed L K n) lines
      → read_lines L K n (length lines) (spell_lines lines ++ rest) ≡ accepted (lines, rest)
  unfolding read_lines spell_lines
  read_lines_lem n [] rest none = refl
  read_lines_lem n (line ∷ lines) rest (more h hs) =
      rw (append_assoc (spell_line line) (spell_lines lines) rest)
      (more_read _ _
      (read_line_lem L K n some_values few_values line (spell_lines lines ++ rest) h)
      (read_lines_lem n lines rest hs))

  pub read_thread_lem : (lines : List Line) (rest : List ℕ) → ThreadWithin L K lines
      → read_thread L K (spell_thread lines ++ rest) ≡ accepted (lines, rest)
  unfolding read_thread spell_thread
  read_thread_lem lines rest h =
      check_passes _ _ _ (record_found mark_th size_th (length lines ∷ spell_lines lines ++ rest) (omega arith))
      ∙ check_passes _ _ _ (le-leb (length lines) max_lines h.few)
      ∙ read_lines_lem (length lines) lines rest h.each

  pub read_threads_lem : (threads : List (List Line)) (rest : List ℕ) → All (ThreadWithin L K) threads
      → read_threads L K (length threads) (spell_threads threads ++ rest) ≡ accepted (threads, rest)
  unfolding read_threads spell_threads
  read_threads_lem [] rest none = refl
  read_threads_lem (lines ∷ threads) rest (more h hs) =
      rw (append_assoc (spell_thread lines) (spell_threads threads) rest)
      (more_read _ _ (read_thread_lem lines (spell_threads threads ++ rest) h) (read_threads_lem threads rest hs))
