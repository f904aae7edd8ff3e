use Rattle.head_laws.proofs.goals_are_instantiated_as_types.Goals as goal
use Rattle.head_laws.proofs.ReplacementLaws

pub returns : goal.returns
returns c = ReplacementLaws.goals_are_instantiated_as_types
