-- Lists of goals, seen as plain data.
use Rattle.lf_definitions.specs.GoalLists.{LfGoals}
use Rattle.meta_goals.specs.declared.goals.Goals.{Goals}

abbrev pub goals_of : Goals → LfGoals
goals_of g = record { proofs = g.proofs; witnesses = g.witnesses }
