use Rattle.std.proofs.Common.{map, sym, subst}
use Rattle.lf_definitions.specs.GoalLists.{all_goals}
use Rattle.lf_terms.specs.Targets.{goal_of}
use Rattle.meta_goals.specs.GoalsOf.{goals_of}
use Rattle.application_laws.specs.Conditions.{MayBeUsed}
use Rattle.build_shared.specs.Seen.{seen_hypothesis}
use Rattle.build_forward.proofs.OpenedTuples.{is_usable}
use Rattle.build_forward.proofs.tuples.add_tuple.Goals as goal

pub add_if_counts-requires-clause-candidate : goal.add_if_counts-requires-clause-candidate
add_if_counts-requires-clause-candidate c =
    let u = c.args.onward.now.usage.now in
    subst (MayBeUsed u.sig.now (all_goals (goals_of u.goals.now)) u.first (goal_of u.goal.now)) (sym c.in_ok-candidate.ensures)
    (is_usable c.args.onward.now c.requires.onward (map seen_hypothesis c.args.chosen.now) c.requires.chosen)
