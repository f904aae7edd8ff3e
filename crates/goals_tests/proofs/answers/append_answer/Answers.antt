use Rattle.std.proofs.Common.{subst, All}
use Rattle.std.specs.Prelude.{IfSome}
use Rattle.goals_tests.specs.Settings.{scope_of, ShapedPair, AnswerMayBePut}
use Rattle.goals_tests.proofs.answers.append_answer.Goals as goal

pub unify_shaped-requires : goal.unify_shaped-requires
unify_shaped-requires c =
    let problem = c.args.problem.now in
    subst (λ found. IfSome found (λ equations. All (ShapedPair problem.setting problem.variables) equations)) c.in-Some.is c.in_ok-equations.ensures

pub append_instance-requires : goal.append_instance-requires
append_instance-requires c =
    let problem = c.args.problem.now in
    subst (AnswerMayBePut (scope_of problem.setting problem.variables)) c.in-Solved.is c.in_ok-unified.ensures
