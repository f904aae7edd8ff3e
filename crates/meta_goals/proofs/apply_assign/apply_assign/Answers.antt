use Rattle.meta_goals.proofs.LeftGoals.{instantiates_first, instantiates_last, both_keep_shape}
use Rattle.meta_goals.proofs.apply_assign.apply_assign.Goals as goal

pub left_of-requires : goal.left_of-requires
left_of-requires c = instantiates_first c.args.sigma.now c.args.goals.now.proofs c.args.goals.now.witnesses c.requires

pub left_of-requires-2 : goal.left_of-requires-2
left_of-requires-2 c = instantiates_last c.args.sigma.now c.args.goals.now.proofs c.args.goals.now.witnesses c.requires

pub returns-clause-result : goal.returns-clause-result
returns-clause-result c = record { of_proofs = c.in_ok-proofs.ensures; of_witnesses = c.in_ok-witnesses.ensures }

pub returns-clause-shaped : goal.returns-clause-shaped
returns-clause-shaped c =
    both_keep_shape c.args.sigma.now c.args.goals.now.proofs c.args.goals.now.witnesses c.in_ok-proofs.proofs c.in_ok-witnesses.witnesses c.in_ok-proofs.ensures c.in_ok-witnesses.ensures
