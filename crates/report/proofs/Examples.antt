-- Printed texts of document 01 and numerals of several digits. One table, one computed test over it.
use Prim.Native.Nat.{ℕ, ◌-◌}
use Prim.Native.Char.{code}
use Prim.Native.String.{String, [] as end, ◌∷◌ as ◌then◌}
use mathlib.Core.Path.{◌≡◌, refl}
use mathlib.Core.Bool.{Bool, true, false, ◌&&◌}
use mathlib.Core.List.{List, [], ◌∷◌}
use lib.Dec.{eqb}
use Rattle.program.specs.declared.Kind.{Kind}
use Rattle.program.specs.declared.Kind.TheVariants.{Read, Write, Update}
use Rattle.verdicts.specs.declared.Report.{Report}
use Rattle.verdicts.specs.declared.Report.TheVariants.{Robust, Ended, Full, Short, Refused}
use Rattle.verdicts.specs.Number.{check_number}
use Rattle.program.specs.Steps.{kind_number}
use Rattle.report.specs.Text.{decimal_in, decimal, line, letter_of, step_line, step_lines, ending_line, text_of}

-- A report, the trace that it comes with, and what is printed.
record Example : Type 0 where
  report : Report
  trace : List ℕ
  text : String

-- An NR report. The thread is numbered from 1.
abbrev not_robust : (count steps thread : ℕ) (kind : Kind) (location value : ℕ) → Report
not_robust count steps thread kind location value =
    Ended count steps (record { thread = thread - 1; kind = kind; location = location; value = value })

abbrev example : Report → List ℕ → String → Example
example report trace text = record { report = report; trace = trace; text = text }

abbrev examples : List Example
examples =
    -- "For SB below the whole output is": with the ST lines of Point 1
    example (not_robust 7 3 2 Read 0 0) (1 ∷ 2 ∷ 0 ∷ 1 ∷ 1 ∷ 1 ∷ 1 ∷ 0 ∷ 2 ∷ 2 ∷ 1 ∷ 1 ∷ [])
    "NR 7 3 2 R 0 0\nST 1 W 0 1\nST 1 R 1 0\nST 2 W 1 1\n"
    -- "2+2W .. NR 8 3 2 W 0 0 with steps 1, 1, 2."
    ∷ example (not_robust 8 3 2 Write 0 0) (1 ∷ 2 ∷ 0 ∷ 1 ∷ 1 ∷ 2 ∷ 1 ∷ 2 ∷ 2 ∷ 2 ∷ 1 ∷ 1 ∷ [])
    "NR 8 3 2 W 0 0\nST 1 W 0 1\nST 1 W 1 2\nST 2 W 1 1\n"
    -- "L 0 0 for a local line"
    ∷ example (not_robust 3 2 2 Read 0 0) (2 ∷ 0 ∷ 0 ∷ 0 ∷ 2 ∷ 3 ∷ 0 ∷ 1 ∷ []) "NR 3 2 2 R 0 0\nST 2 L 0 0\nST 2 M 0 1\n"
    -- MP in 845 bytes: RB 13. In 844: 11, count 12.
    ∷ example (Robust 13) [] "RB 13\n"
    ∷ example (Full 12) [] "FU 12\n"
    -- SB in 454: 11, count 6. PR 1 1 2, TH 0 in 28: 11, count 0.
    ∷ example (Full 6) [] "FU 6\n"
    ∷ example (Full 0) [] "FU 0\n"
    -- "One byte after the last record: 9."
    ∷ example (Refused 9) [] "NO 9\n"
    -- "Check 10 then wants four bytes for each step (12 for SB)"
    ∷ example (Short 12) (0 ∷ 0 ∷ []) "NO 10\n"
    -- digits of every kind, an update, and a trace that is longer than the run
    ∷ example (not_robust 1005 1 8 Update 7 15) (8 ∷ 3 ∷ 7 ∷ 15 ∷ 1 ∷ 2 ∷ 0 ∷ 250 ∷ [])
    "NR 1005 1 8 M 7 15\nST 8 M 7 15\n"
    ∷ example (Robust 2346789) (1 ∷ []) "RB 2346789\n"
    -- a trace that ends inside a step, and a kind that no trace of ours has
    ∷ example (not_robust 7 3 2 Read 0 0) (1 ∷ 2 ∷ 0 ∷ 1 ∷ 1 ∷ 1 ∷ 1 ∷ []) "NR 7 3 2 R 0 0\nST 1 W 0 1\n"
    ∷ example (not_robust 7 1 2 Read 0 0) (1 ∷ 4 ∷ 0 ∷ 255 ∷ []) "NR 7 1 2 R 0 0\nST 1 ? 0 255\n"
    ∷ []

-- The bytes are those of the text.
abbrev spells : String → List ℕ → Bool
spells end [] = true
spells end (b ∷ bytes) = false
spells (c then text) [] = false
spells (c then text) (b ∷ bytes) = eqb (code c) b && spells text bytes

abbrev passes : List Example → Bool
passes [] = true
passes (e ∷ es) = spells e.text (text_of e.report e.trace) && passes es

pub every_example : passes examples ≡ true
unfolding text_of ending_line check_number line step_line step_lines letter_of kind_number decimal decimal_in
every_example = refl
