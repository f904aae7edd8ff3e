use Rattle.goal_advance.proofs.LaterEntries.{may_be_added, follows, all_fit}
use Rattle.goal_advance.proofs.follow.follow.Goals as goal

pub earlier_under-requires : goal.earlier_under-requires
earlier_under-requires c = (c.args.first, c.requires)

pub add_below-requires : goal.add_below-requires
add_below-requires c = may_be_added c.args.first c.args.earlier.now c.args.later.now c.requires c.in_ok-all.all (c.in_ok-all.ensures c.args.first c.requires)

pub returns-clause-found : goal.returns-clause-found
returns-clause-found c = λ m. follows c.args.first c.args.earlier.now c.args.later.now m c.in_ok-all.all _ (c.in_ok-all.ensures c.args.first m) c.in_ok-add_below.ensures

pub returns-clause-shapes : goal.returns-clause-shapes
returns-clause-shapes c = λ m. all_fit c.args.first c.args.earlier.now c.args.later.now m c.in_ok-all.all _ (c.in_ok-all.ensures c.args.first m) c.in_ok-add_below.ensures
