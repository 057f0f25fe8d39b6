-- `order_check_c::order_check` meets its contract: the numbers are those of the report that the checker hands back.
use borrow.Author.Rules.{rules}
use Rattle.order_check_c.proofs.Numbers.{all_told}
use Rattle.order_check_c.proofs.order_check.Statement.{statement}
use Rattle.order_check_c.proofs.order_check.Tie as tie

pub order_check_spec : {M : Type 1} → statement M
order_check_spec = tie.close
    (tie.spec (λ c κs. search rules) (λ c κs. search rules) (λ c. search rules) (λ c. search rules)
    (λ c. search (rules, all_told)))
