-- The text of a report that has been printed.
use Prim.Native.Nat.{ℕ, ◌≤◌}
use native.Mathlib.Omega.{arith}
use mathlib.Core.Path.{◌≡◌, ap}
use mathlib.Core.List.{List}
use lib.ListN.{length}
use Rattle.report.specs.Prints.{Prints}
use Rattle.report.specs.declared.put.Cursor.{Cursor}
use Rattle.report.specs.Text.{text_of, longest_text}
use Rattle.verdicts.specs.declared.Report.{Report}
use Rattle.report.proofs.Puts.{prints_as}

pub printed : (report it : Report) (trace : List ℕ) {a b : Cursor} → report ≡ it
    → length (text_of it trace) ≤ longest_text (length trace) → Prints a (text_of it trace) b
    → Prints a (text_of report trace) b × (length (text_of report trace) ≤ longest_text (length trace))
printed report it trace is short p =
    let same = ap (λ (r : Report). text_of r trace) is in
    (prints_as same p, omega (arith, ap length same))
