use Rattle.std.proofs.Common.{sym, ◌∙◌}
use Rattle.meta_goals.specs.GoalsOf.{goals_of}
use Rattle.goal_book.proofs.Added.{first_tried}
use Rattle.goal_book.proofs.first.first_by.Goals as goal

pub returns-clause-found : goal.returns-clause-found
returns-clause-found c =
    let q = c.args.query.now in
    first_tried q.sig.now q.rules.now (goals_of q.goals.now) c.args.number c.rule-rule.result.now c.rule-rule.ensures c.args.wanted (sym c.is_tried.ensures ∙ c.if-not-is_tried.false)
    c.in_ok-apps.apps.items (c.in_ok-apps.ensures.applications c.rule-rule.result.now c.rule-rule.ensures) c.first_serving.result c.first_serving.ensures.found
