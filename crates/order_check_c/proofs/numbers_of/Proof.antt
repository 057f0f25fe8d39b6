-- `order_check_c::numbers_of` meets its contract: each report has its numbers.
use Rattle.verdicts.specs.Number.{check_number}
use Rattle.order_check_c.specs.Answer.{numbers_of}
use Rattle.order_check_c.proofs.Numbers.{ending_numbers_lem}
use borrow.Author.Rules.{rules}
use Rattle.order_check_c.proofs.numbers_of.Statement.{statement}
use Rattle.order_check_c.proofs.numbers_of.Tie as tie

returns-2 : tie.Need-returns-in-Ended
returns-2 c = ending_numbers_lem c.in-Ended.is c.numbers_of_ending.ensures

pub numbers_of_spec : {M : Type 1} → statement M
unfolding numbers_of check_number
numbers_of_spec = tie.close
    (tie.spec (λ c. search rules) (λ c. search rules) (λ c κs. search rules) (λ c. search rules) (λ c. search rules)
    (λ c. search rules) (λ c. search rules) (λ c. rw c.in-Robust.is) returns-2 (λ c. rw c.in-Full.is)
    (λ c. rw c.in-Short.is) (λ c. rw c.in-Refused.is))
