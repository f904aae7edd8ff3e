use Rattle.rule_sets.proofs.Orders.{orders_are_one}
use Rattle.rule_sets.proofs.laws.orders_are_one.Goals as goal

pub returns : goal.returns
returns c = orders_are_one
