use Rattle.std.proofs.Common.{Some, sym, ap, ap₂, ◌∙◌, List}
use Rattle.std.proofs.lemmas.Result.{IfOk-weaker}
use Rattle.lf_definitions.specs.Syntax.{LfTerm}
use Rattle.lf_definitions.specs.Typing.{LfGoal}
use Rattle.applications.specs.Applications.{Completion, completion}
use Rattle.meta_goals.specs.Bindings.{assigning}
use Rattle.build_shared.specs.Attempts.{goal_at, candidate_at, among_at}
use Rattle.build_shared.specs.Seen.{seen_outcome}
use Rattle.build_shared.proofs.completing.complete.Goals as goal

completed : LfTerm → List LfGoal → Completion
completed t more = record { becomes_term = t; more = more }

pub returns-in_ok-becomes-in-Closes : goal.returns-in_ok-becomes-in-Closes
unfolding completed
returns-in_ok-becomes-in-Closes c =
    let a = c.args.attempt.now in
    ap₂ (λ t more. Some (completed t more)) c.in_ok-becomes-in-Closes.ensures c.new-more.ensures
    ∙ sym (ap (λ o. completion a.first (among_at a) (goal_at a) (candidate_at a) (assigning c.args.entries.now) (seen_outcome o)) c.in-Closes.is)

pub returns-in-Adds : goal.returns-in-Adds
returns-in-Adds c =
    let a = c.args.attempt.now in
    IfOk-weaker c.with_hypothesis.result _ _
    (λ r e. e ∙ sym (ap (λ o. completion a.first (among_at a) (goal_at a) (candidate_at a) (assigning c.args.entries.now) (seen_outcome o)) c.in-Adds.is)) c.with_hypothesis.ensures
