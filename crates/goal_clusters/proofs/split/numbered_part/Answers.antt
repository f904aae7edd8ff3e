use Rattle.std.proofs.Common.{◌++◌, ap₂, ◌∙◌}
use Rattle.lf_definitions.specs.GoalLists.{ids}
use Rattle.goal_lists.specs.Numbering.{numbered_pairs}
use Rattle.goal_clusters.proofs.split.numbered_part.Goals as goal

pub returns-clause-renaming : goal.returns-clause-renaming
returns-clause-renaming c = c.in_ok-goals.ensures.pairs ∙ ap₂ (λ xs ys. numbered_pairs 0 (ids (xs ++ ys))) c.in_ok-copy.ensures c.in_ok-copy-2.ensures
