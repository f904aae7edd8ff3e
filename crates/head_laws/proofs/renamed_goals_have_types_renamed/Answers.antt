use Rattle.head_laws.proofs.renamed_goals_have_types_renamed.Goals as goal
use Rattle.head_laws.proofs.RenamedGoalLaws

pub returns : goal.returns
returns c = RenamedGoalLaws.renamed_goals_have_types_renamed
