-- `order_check_c::order_check_indexed` meets its contract: as `order_check`, and the index is the checker's.
use borrow.Author.Rules.{rules}
use Rattle.order_check_c.proofs.Numbers.{all_told}
use Rattle.order_check_c.proofs.order_check_indexed.Statement.{statement}
use Rattle.order_check_c.proofs.order_check_indexed.Tie as tie

pub order_check_indexed_spec : {M : Type 1} → statement M
order_check_indexed_spec = tie.close
    (tie.spec (λ c κs. search rules) (λ c κs. search rules) (λ c. search rules) (λ c. search rules)
    (λ c. search rules) (λ c. search (rules, all_told)))
