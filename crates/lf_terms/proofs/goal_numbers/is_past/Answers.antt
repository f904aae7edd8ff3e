use Rattle.lf_terms.proofs.GoalNumbers.{last_is, rise_on}
use Rattle.lf_terms.proofs.goal_numbers.is_past.Goals as goal

pub returns : goal.returns
returns c = λ less. rise_on c.args.goals.now c.args.goal.now (last_is c.args.goals.now c.index-goals-count.result c.args.goal.now less)
