use Rattle.std.proofs.Common.{sym, ap, ◌∙◌, refl, subst, subst₂}
use Rattle.lf_definitions.specs.GoalLists.{all_goals, next_id}
use Rattle.meta_goals.specs.Laws.{HaveShapesOf}
use Rattle.alternatives.specs.ListsAfter.{with_new, list_after}
use Rattle.alternatives.specs.Taking.{MayBeTaken}
use Rattle.build_shared.specs.Seen.{seen_application}
use Rattle.goal_expand.specs.Progress.{sig_given, list_given, goals_reached}
use Rattle.goal_expand.proofs.NextSteps.{shapes_with_new}
use Rattle.goal_expand.proofs.taking.advanced.Goals as goal

pub advance-requires-clause-may_be_taken : goal.advance-requires-clause-may_be_taken
advance-requires-clause-may_be_taken c =
    subst₂ (λ sig goals. MayBeTaken sig goals (seen_application c.args.app.now)) (sym c.sig.ensures) (sym c.list_after-goals.ensures) c.requires.step.may_be_taken

pub advance-requires-clause-shapes : goal.advance-requires-clause-shapes
advance-requires-clause-shapes c =
    let app = c.args.app.now in
    let goals = goals_reached (list_given c.args.given.now) c.args.reached.now in
    subst (λ l. HaveShapesOf (all_goals (with_new l (seen_application app))) app.assign) (sym c.list_after-goals.ensures)
    (shapes_with_new (sig_given c.args.given.now) (next_id goals) goals (seen_application app) c.requires.step app.assign refl c.requires.shapes)

pub returns : goal.returns
returns c = c.in_ok-next.ensures ∙ ap (λ l. list_after l (seen_application c.args.app.now)) c.list_after-goals.ensures
