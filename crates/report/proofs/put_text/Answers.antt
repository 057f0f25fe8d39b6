-- Each way prints the lines of its report.
use Rattle.std.proofs.Common.{ℕ, refl, rules}
use Rattle.verdicts.specs.Number.{check_number}
use Rattle.report.specs.Text.{text_of, ending_line, mark_rb, mark_fu, mark_no}
use Rattle.report.proofs.Bound.{number_is_short, steps_text_is_short}
use Rattle.report.proofs.Puts.{prints_then}
use Rattle.report.proofs.Printed.{printed}
use Rattle.report.proofs.put_text.Goals as goal

pub returns-in-Robust : goal.returns-in-Robust
unfolding text_of
returns-in-Robust c =
    let p = printed _ _ c.args.trace.now c.in-Robust.is (number_is_short mark_rb refl _ (search rules) _) c.put_line.ensures in
    record { put = p.0; short = p.1 }

pub returns-in-Ended : goal.returns-in-Ended
unfolding text_of
returns-in-Ended c =
    let e = c.in-Ended in
    let p = printed _ _ c.args.trace.now e.is
    (steps_text_is_short (ending_line e.count e.steps e.ending) c.put_ending.ensures.short e.steps c.args.trace.now
    (λ (j : ℕ). (c.type_inv.trace j).fits))
    (prints_then c.put_ending.ensures.put c.put_steps.ensures) in
    record { put = p.0; short = p.1 }

pub returns-in-Full : goal.returns-in-Full
unfolding text_of
returns-in-Full c =
    let p = printed _ _ c.args.trace.now c.in-Full.is (number_is_short mark_fu refl _ (search rules) _) c.put_line-in-Full.ensures in
    record { put = p.0; short = p.1 }

pub returns-in-Short : goal.returns-in-Short
unfolding text_of check_number
returns-in-Short c =
    let p = printed _ _ c.args.trace.now c.in-Short.is (number_is_short mark_no refl _ (search rules) _) c.put_line-in-Short.ensures in
    record { put = p.0; short = p.1 }

pub returns-in-Refused : goal.returns-in-Refused
unfolding text_of check_number
returns-in-Refused c =
    let p = printed _ _ c.args.trace.now c.in-Refused.is (number_is_short mark_no refl _ (search rules) _) c.put_line-in-Refused.ensures in
    record { put = p.0; short = p.1 }
