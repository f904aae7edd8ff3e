use Rattle.std.proofs.Common.{sym, subst}
use Rattle.unification.specs.Patterns.{has_number}
use Rattle.build_shared.specs.Attempts.{goals_at, goal_at, candidate_at, EndsAt}
use Rattle.build_shared.proofs.UnifierEnds.{is_shaped_problem, ends}
use Rattle.build_shared.proofs.unifying.unified.Goals as goal

pub unify-requires : goal.unify-requires
unify-requires c = let a = c.args.attempt.now in is_shaped_problem a.sig.now (goals_at a) a.first (goal_at a) (candidate_at a) c.requires

pub returns : goal.returns
returns c =
    let a = c.args.attempt.now in
    subst (EndsAt a) (sym c.solution.ensures)
    (ends a.sig.now (goals_at a) a.first (goal_at a) (candidate_at a) c.requires (has_number c.in_ok-frozen.frozen) c.in_ok-frozen.ensures c.in_ok-ending.ending c.in_ok-ending.ensures.ending c.in_ok-ending.ensures.contexts)
