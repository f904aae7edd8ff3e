use Rattle.lf_definitions.specs.GoalLists.{all_goals}
use Rattle.meta_goals.specs.GoalsOf.{goals_of}
use Rattle.build_shared.proofs.AddedCandidates.{one_knows_shapes}
use Rattle.build_shared.proofs.rule_use.add_if_counts.Goals as goal

pub returns-in-None-clause-shapes : goal.returns-in-None-clause-shapes
returns-in-None-clause-shapes c = λ before. before

pub returns-in_ok-push-in-Some-clause-shapes : goal.returns-in_ok-push-in-Some-clause-shapes
returns-in_ok-push-in-Some-clause-shapes c =
    one_knows_shapes (all_goals (goals_of c.args.usage.now.goals.now)) c.in_ok-answer.answer c.in-Some.app c.args.found.now.items _ c.in_ok-answer.ensures.shapes c.in-Some.is c.in_ok-push-in-Some.ensures.items
