use Rattle.lf_definitions.specs.GoalLists.{next_id}
use Rattle.meta_goals.specs.GoalsOf.{goals_of}
use Rattle.goal_book.specs.declared.wanted.Wanted.TheVariants.{Lawful}
use Rattle.goal_book.proofs.Answered.{are_rules, wanted_found}
use Rattle.goal_book.proofs.book.GoalBook.first_lawful.Goals as goal

pub first_of-requires-clause-numbers : goal.first_of-requires-clause-numbers
first_of-requires-clause-numbers c =
    (are_rules _ _ c.self.view_is c.self.invariant.formed (goals_of c.args.goals.now) c.as_slice.result.now c.args.fitting.now c.as_slice.ensures c.requires.fitting).within

pub returns-clause-found : goal.returns-clause-found
returns-clause-found c =
    wanted_found _ _ c.self.view_is c.self.invariant.formed (goals_of c.args.goals.now) c.as_slice.result.now c.args.fitting.now c.as_slice.ensures c.requires.fitting
    c.rules_with_applications_are_compatible.ensures (next_id (goals_of c.args.goals.now)) Lawful _ c.in_ok-found.ensures.found
