use Rattle.std.proofs.Common.{◌≡◌, ◌++◌, map, length, All}
use Rattle.std.specs.Vec.Iter.{into_iter_items, into_iter_len}
use Rattle.lf_definitions.specs.GoalLists.{all_goals, AreDistinct}
use Rattle.goal_expand.specs.Seen.{seen_alternative}
use Rattle.meta_goals.specs.GoalsOf.{goals_of}
use Rattle.tree_steps.specs.Seen.{branch_seen}
use Rattle.rule_problem.specs.Problems.{as_branch}
use Rattle.rule_problem.proofs.branching.branches_of.Given as goal

abbrev pub invariant-loop-alternative : goal.invariant-loop-alternative
invariant-loop-alternative l = record {
  made : map (branch_seen goals_of) l.alternatives.items ++ map as_branch (map seen_alternative (into_iter_items l.alternative-iterator)) ≡ map as_branch (map seen_alternative l.fn.found.items);
  distinct : All (λ alternative. AreDistinct (all_goals (goals_of alternative.goals))) (into_iter_items l.alternative-iterator);
  count : into_iter_len l.alternative-iterator ≡ length (into_iter_items l.alternative-iterator);
}
