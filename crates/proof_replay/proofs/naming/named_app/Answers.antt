use Rattle.std.proofs.Common.{map, option_map, subst}
use Rattle.std.specs.Option.{option_to_list}
use Rattle.lf_definitions.specs.GoalLists.{all_goals}
use Rattle.meta_goals.specs.GoalsOf.{goals_of}
use Rattle.build_shared.specs.RuleUses.{KnowShapes}
use Rattle.build_shared.specs.Seen.{seen_application}
use Rattle.goal_book.specs.GoalBooks.{rules_in}
use Rattle.goal_book.specs.Choices.{seen_choice}
use Rattle.goal_expand.specs.Seen.{seen_last}
use Rattle.proof_replay.proofs.Coming.{named_by_choice}
use Rattle.proof_replay.proofs.naming.named_app.Goals as goal

pub returns-in-Some-clause-shapes : goal.returns-in-Some-clause-shapes
returns-in-Some-clause-shapes c =
    let goals = all_goals (goals_of c.args.goals.now) in
    c.if_named-found.ensures.shapes goals (subst (λ o. KnowShapes goals (option_to_list o)) c.in-Some.is c.in_ok-safe.ensures.shapes)

pub returns-clause-found : goal.returns-clause-found
returns-clause-found c =
    named_by_choice c.args.book.now.sig (rules_in c.args.book.now) (goals_of c.args.goals.now) (seen_last c.args.last.now) c.in_ok-safe.safe c.in-None.is c.in_ok-safe.ensures.found
    (map seen_choice c.in_ok-choices-in-None.choices.items) c.in_ok-choices-in-None.ensures.choices (option_map seen_application c.first_named-found.result) c.first_named-found.ensures.found
