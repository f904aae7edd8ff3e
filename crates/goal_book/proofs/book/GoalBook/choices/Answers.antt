use Rattle.lf_definitions.specs.GoalLists.{next_id}
use Rattle.meta_goals.specs.GoalsOf.{goals_of}
use Rattle.goal_book.proofs.Answered.{are_rules, choices_found}
use Rattle.goal_book.proofs.book.GoalBook.choices.Goals as goal

pub choices-requires-clause-numbers : goal.choices-requires-clause-numbers
choices-requires-clause-numbers c =
    are_rules _ _ c.self.view_is c.self.invariant.formed (goals_of c.args.goals.now) c.as_slice.result.now c.args.fitting.now c.as_slice.ensures c.requires.fitting

pub returns-clause-choices : goal.returns-clause-choices
returns-clause-choices c =
    choices_found _ _ c.self.view_is c.self.invariant.formed (goals_of c.args.goals.now) c.as_slice.result.now c.args.fitting.now c.as_slice.ensures c.requires.fitting
    c.rules_with_applications_are_compatible.ensures (next_id (goals_of c.args.goals.now)) _ c.in_ok-found.ensures.choices
