use Rattle.lf_definitions.specs.GoalLists.{all_goals}
use Rattle.meta_goals.specs.GoalsOf.{goals_of}
use Rattle.goal_book.proofs.Added.{choices_added, shapes_added}
use Rattle.goal_book.proofs.choices.add_choices.Goals as goal

pub returns-clause-choices : goal.returns-clause-choices
returns-clause-choices c =
    let q = c.args.query.now in
    choices_added q.sig.now q.rules.now (goals_of q.goals.now) c.args.number c.rule.result.now c.rule.ensures c.in_ok-apps.apps.items
    (c.in_ok-apps.ensures.applications c.rule.result.now c.rule.ensures) c.percent_of.result c.is_late.result c.percent_of.ensures c.is_late.ensures
    c.args.found.now.items c.add_each.new.found.items c.in_ok-add_each.ensures

pub returns-clause-shapes : goal.returns-clause-shapes
returns-clause-shapes c =
    shapes_added (all_goals (goals_of c.args.query.now.goals.now)) c.percent_of.result c.is_late.result c.in_ok-apps.apps.items c.in_ok-apps.ensures.shapes
    c.args.found.now.items c.add_each.new.found.items c.in_ok-add_each.ensures
