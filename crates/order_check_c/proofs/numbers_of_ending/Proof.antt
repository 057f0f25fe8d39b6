-- `order_check_c::numbers_of_ending` meets its contract: the numbers of a witness.
use Rattle.order_check_c.proofs.Numbers.{witness_numbers}
use borrow.Author.Rules.{rules}
use Rattle.order_check_c.proofs.numbers_of_ending.Statement.{statement}
use Rattle.order_check_c.proofs.numbers_of_ending.Tie as tie

returns : tie.Need-returns
returns c = let at = c.before in
    let a = at.args in
    witness_numbers a.count a.steps a.ending at.from.ensures

pub numbers_of_ending_spec : {M : Type 1} → statement M
numbers_of_ending_spec = tie.close
    (tie.spec (λ c. search rules) (λ c. search rules) (λ c κs. search rules) (λ c. search rules) (λ c. search rules)
    returns)
