use Rattle.head_laws.proofs.renamed_goals_are_formed.Goals as goal
use Rattle.head_laws.proofs.RenamedGoalLaws

pub returns : goal.returns
returns c = RenamedGoalLaws.renamed_goals_are_formed
