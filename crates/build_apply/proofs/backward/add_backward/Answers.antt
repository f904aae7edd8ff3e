use Rattle.std.proofs.Common.{sym, subst}
use Rattle.lf_definitions.specs.GoalLists.{all_goals}
use Rattle.lf_terms.specs.Targets.{goal_of}
use Rattle.lf_terms.specs.Terms.{head_of}
use Rattle.lf_terms.specs.Types.{type_of}
use Rattle.meta_goals.specs.GoalsOf.{goals_of}
use Rattle.application_laws.specs.Conditions.{MayBeUsed}
use Rattle.build_shared.specs.Seen.{seen_label}
use Rattle.build_apply.proofs.Heads.{head_is_usable}
use Rattle.build_apply.proofs.backward.add_backward.Goals as goal

pub add_if_counts-requires-clause-candidate : goal.add_if_counts-requires-clause-candidate
add_if_counts-requires-clause-candidate c =
    let u = c.args.usage.now in
    let goals = goals_of u.goals.now in
    subst (MayBeUsed u.sig.now (all_goals goals) u.first (goal_of u.goal.now)) (sym c.in_ok-candidate.ensures)
    (head_is_usable u.sig.now goals u.first (goal_of u.goal.now) c.requires.usage.goals (head_of c.args.head) (type_of c.args.ty.now) c.requires.head (seen_label c.args.label))
