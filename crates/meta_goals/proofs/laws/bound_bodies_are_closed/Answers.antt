use Rattle.meta_goals.proofs.laws.bound_bodies_are_closed.Goals as goal
use Rattle.meta_goals.proofs.BindingLaws

pub returns : goal.returns
returns c = BindingLaws.bound_bodies_are_closed
