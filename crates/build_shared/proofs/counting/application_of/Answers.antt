use Rattle.std.proofs.Common.{sym, ap, ◌∙◌}
use Rattle.std.proofs.lemmas.Result.{IfOk-weaker}
use Rattle.lf_definitions.specs.GoalLists.{all_goals}
use Rattle.lf_definitions.proofs.Options.{Some-Some}
use Rattle.lf_terms.specs.Targets.{goal_of}
use Rattle.applications.specs.Applications.{application_of}
use Rattle.meta_goals.specs.GoalsOf.{goals_of}
use Rattle.build_shared.specs.Seen.{seen_candidate}
use Rattle.build_shared.proofs.Composing.{is_offered, no_first}
use Rattle.build_shared.proofs.counting.application_of.Goals as goal

pub returns-in-None-clause-found : goal.returns-in-None-clause-found
returns-in-None-clause-found c = λ g is. absurd (no_first c.args.sig.now (goals_of c.args.goals.now) c.args.first (seen_candidate c.args.candidate) c.requires (sym c.in-None.ensures))

pub app_for-requires : goal.app_for-requires
app_for-requires c =
    is_offered c.args.sig.now (goals_of c.args.goals.now) c.args.first (seen_candidate c.args.candidate) (goal_of c.in-Some.goal.now) c.is_formed.ensures c.requires (sym c.in-Some.ensures)

pub returns-in-Some-clause-found : goal.returns-in-Some-clause-found
returns-in-Some-clause-found c =
    IfOk-weaker c.app_for.result _ _
    (λ r e g is. e ∙ ap (λ k. application_of c.args.sig.now c.args.first (all_goals (goals_of c.args.goals.now)) k (seen_candidate c.args.candidate)) (Some-Some (c.in-Some.ensures ∙ is))) c.app_for.ensures.found
