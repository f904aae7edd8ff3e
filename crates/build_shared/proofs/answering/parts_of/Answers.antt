use Rattle.std.proofs.Common.{◌∙◌, subst}
use Rattle.std.proofs.lemmas.Result.{IfOk-weaker}
use Rattle.build_shared.specs.Attempts.{goals_at, goal_at, candidate_at, EndsAt}
use Rattle.build_shared.proofs.Composing.{refused_is_none, unified_is}
use Rattle.build_shared.proofs.answering.parts_of.Goals as goal

pub returns-in-None-clause-found : goal.returns-in-None-clause-found
returns-in-None-clause-found c = let a = c.args.attempt.now in refused_is_none a.sig.now (goals_at a) a.first (goal_at a) (candidate_at a) (subst (EndsAt a) c.in-None.is c.in_ok-unified.ensures)

pub parts_by-requires : goal.parts_by-requires
parts_by-requires c = subst (EndsAt c.args.attempt.now) c.in-Some.is c.in_ok-unified.ensures

pub returns-in-Some-clause-found : goal.returns-in-Some-clause-found
returns-in-Some-clause-found c =
    let a = c.args.attempt.now in
    IfOk-weaker c.parts_by.result _ _
    (λ r e. e ∙ unified_is a.sig.now (goals_at a) a.first (goal_at a) (candidate_at a) c.in-Some.entries (subst (EndsAt a) c.in-Some.is c.in_ok-unified.ensures)) c.parts_by.ensures.found
