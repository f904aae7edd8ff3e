use Rattle.std.proofs.Common.{rules, sym, subst}
use Rattle.lf_definitions.specs.GoalLists.{all_goals}
use Rattle.lf_terms.specs.Terms.{head_of}
use Rattle.goal_lists.specs.Assigning.{LeavesGoals}
use Rattle.meta_goals.specs.Bindings.{assigning}
use Rattle.meta_goals.specs.GoalsOf.{goals_of}
use Rattle.meta_goals.specs.Instantiates.{Instantiates, GoalsAreShaped}
use Rattle.step_tests.proofs.PutHeads.{may_be_put, left_is_shaped}
use Rattle.step_tests.proofs.putting.list_at.Goals as goal

pub apply_assign-requires : goal.apply_assign-requires
apply_assign-requires c =
    let list = goals_of c.args.goals.now in
    subst (λ bindings. Instantiates bindings (GoalsAreShaped (all_goals list))) (sym c.in_ok-assign.ensures)
    (may_be_put c.args.sig.now list c.requires c.args.goal (head_of c.args.head) (c.in_ok-has_goal.ensures (search rules)) (c.in_ok-has_head.ensures (search rules)))

pub returns : goal.returns
returns c =
    let list = goals_of c.args.goals.now in
    let left = goals_of c.in_ok-left.left in
    left_is_shaped c.args.sig.now list c.requires c.args.goal (head_of c.args.head) (c.in_ok-has_goal.ensures (search rules)) (c.in_ok-has_head.ensures (search rules)) left
    (subst (λ bindings. LeavesGoals (assigning bindings) list left) c.in_ok-assign.ensures c.in_ok-left.ensures.result) (c.in_ok-fits.ensures (search rules))
