use Rattle.meta_goals.proofs.laws.assignments_go_under_variables.Goals as goal
use Rattle.meta_goals.proofs.BindingLaws

pub returns : goal.returns
returns c = BindingLaws.assignments_go_under_variables
