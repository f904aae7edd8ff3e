use Rattle.std.proofs.Common.{sym, ap, ◌∙◌, subst, option_map}
use Rattle.std.specs.Option.{option_to_list}
use Rattle.lf_definitions.specs.GoalLists.{all_goals}
use Rattle.meta_goals.specs.GoalsOf.{goals_of}
use Rattle.build_shared.specs.RuleUses.{KnowShapes}
use Rattle.build_shared.specs.Seen.{seen_application}
use Rattle.goal_book.specs.Queries.{found_for}
use Rattle.goal_book.proofs.Steps.{wanted_here, wanted_later}
use Rattle.goal_book.proofs.first.first_of.Goals as goal

pub returns-in-Some-clause-found : goal.returns-in-Some-clause-found
returns-in-Some-clause-found c =
    wanted_here c.args.query.now.rules.now (found_for c.args.query.now) c.args.wanted c.args.numbers.now c.loop-number.number-index _ c.loop-number-test.true c.loop-number.invariant
    (sym (ap (option_map seen_application) c.in-Some.is) ∙ c.in_ok-found.ensures.found)

pub returns-in-Some-clause-shapes : goal.returns-in-Some-clause-shapes
returns-in-Some-clause-shapes c =
    subst (λ o. KnowShapes (all_goals (goals_of c.args.query.now.goals.now)) (option_to_list o)) c.in-Some.is c.in_ok-found.ensures.shapes

pub loop-number-preserved : goal.loop-number-preserved
loop-number-preserved c =
    wanted_later c.args.query.now.rules.now (found_for c.args.query.now) c.args.wanted c.args.numbers.now c.loop-number.number-index c.loop-number-test.true c.loop-number.invariant
    (sym (ap (option_map seen_application) c.in_default.is) ∙ c.in_ok-found.ensures.found)
