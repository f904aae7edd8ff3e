use Rattle.meta_goals.proofs.laws.bound_goals_have_their_shapes.Goals as goal
use Rattle.meta_goals.proofs.BindingLaws

pub returns : goal.returns
returns c = BindingLaws.bound_goals_have_their_shapes
