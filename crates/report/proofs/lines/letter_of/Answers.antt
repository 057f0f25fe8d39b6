use Rattle.std.proofs.Common.{◌≤◌, sym, arith}
use lib.ListN.{get_or-eq_default}
use Rattle.report.specs.Text.{letters, letter_of}
use Rattle.report.proofs.lines.letter_of.Goals as goal

-- A number that no kind has.
pub returns-in_default : goal.returns-in_default
unfolding letter_of
returns-in_default c = let past : 4 ≤ c.args.kind = omega arith in sym (get_or-eq_default letters 63 past)
