-- The problem of a book of rules: its nodes are lists of goals.
use Rattle.std.specs.Prelude.{◌≢◌, ℕ, ◌≤◌, List, [], map, min, All}
use Rattle.std.proofs.Math.Nat.{min-le_right}
use Rattle.std.proofs.lemmas.List.Elements.{All-map}
use Rattle.lf_definitions.specs.GoalLists.{LfGoals, all_goals}
use Rattle.lf_definitions.specs.ShapedGoals.{ShapedGoals}
use Rattle.clusters.specs.Clusters.{clusters}
use Rattle.alternatives.specs.Alternatives.{LfAlternative}
use Rattle.derivations.specs.Unfolding.{branches_of}
use Rattle.meta_goals.specs.declared.goals.Goals.{Goals}
use Rattle.meta_goals.specs.GoalsOf.{goals_of}
use Rattle.goal_book.specs.GoalBooks.{LfBook, rules_in}

-- the percentage of an alternative, and the clusters of the goals that it leaves
abbrev pub as_branch : LfAlternative → ℕ × List LfGoals
as_branch alternative = (alternative.percent, clusters alternative.goals)

-- a branch whose percentage is cut at 100
abbrev pub capped : ℕ × List LfGoals → ℕ × List LfGoals
capped branch = (min branch.0 100, branch.1)

-- The branches of a list by the rules of a book. Percentages are cut at 100 for values that are no book; those of a book are at most that.
abbrev pub branches_in : LfBook → LfGoals → List (ℕ × List LfGoals)
branches_in b list = map capped (branches_of b.sig (rules_in b) list)

-- no percentage is above 100
pub branches_low : (b : LfBook) (list : LfGoals) → All (λ branch. branch.0 ≤ 100) (branches_in b list)
branches_low b list = All-map (λ branch. branch.0 ≤ 100) capped (branches_of b.sig (rules_in b) list) (λ k d less. min-le_right _ _)

-- Own nodes are shaped lists that aren't empty.
pub record IsNode (b : LfBook) (node : Goals) : Type 0 where
  pub shaped : ShapedGoals b.sig (all_goals (goals_of node))
  pub some : all_goals (goals_of node) ≢ []
