-- What one step of a search in the caller alone does.
use Rattle.std.specs.Prelude.{◌≡◌, ℕ, Bool, true, false, List, [], ◌∷◌, ◌++◌}
use Rattle.tree_runs.specs.States.{claim, commit}
use Rattle.tree_runs.specs.Runs.{is_settled}
use Rattle.tree_steps.specs.declared.tree.Tree.{Tree}
use Rattle.tree_steps.specs.Trees.{state_of_tree}
use Rattle.tree_shared.specs.declared.step.Step.{Step}
use Rattle.tree_shared.specs.declared.step.Step.TheVariants.{Goes, Forks, Ends}

-- whether a step did something
abbrev pub has_gone : Step → Bool
has_gone Goes = true
has_gone Forks = true
has_gone Ends = false

module _ {P S N : Type 0} (branches : S → List (ℕ × List S)) (seen : N → S) (own : N → Type 0) where
  -- seat 0 claimed and committed a node
  pub record IsPair (old new : Tree P N S) : Type 0 where
    pub node : ℕ
    pub counts : List ℕ
    pub events : new.journal.events ≡ old.journal.events ++ claim 0 node ∷ commit 0 node counts ∷ []

  -- it did so, or the tree is settled and nothing was done
  abbrev pub IsStep : Tree P N S → Tree P N S → Bool → Type 0
  IsStep old new true = IsPair old new
  IsStep old new false = (is_settled branches old.budget (state_of_tree branches seen own old) ≡ true) × (new.journal.events ≡ old.journal.events)
