-- Trees that have a name.
use Rattle.std.specs.Prelude.{◌≡◌, ℕ, List, Option, Some, None}
use Rattle.tree_steps.specs.declared.tree.Tree.{Tree}
use Rattle.tree_steps.specs.Trees.{IsTree}
use Rattle.tree_shared.specs.Seats.{AreSeatsBelow}

module _ {P S N : Type 0} (branches : P → S → List (ℕ × List S)) (seen : P → N → S) (own : P → N → Type 0) where
  -- The tree is the replay of its journal over this problem, from this root, with this budget, and its seats are so many.
  pub record IsTreeOf (problem : P) (root : N) (budget workers : ℕ) (tree : Tree P N S) : Type 0 where
    pub is_tree : IsTree (branches problem) (seen problem) (own problem) tree
    pub root_is : tree.root ≡ root
    pub budget_is : tree.budget ≡ budget
    pub seats : AreSeatsBelow workers tree.journal.events

  -- It is so for what a name says; a name that says too little names no tree.
  abbrev pub IsNamed : Option P → Option N → ℕ → ℕ → Tree P N S → Type 0
  IsNamed (Some problem) (Some root) budget workers tree = IsTreeOf problem root budget workers tree
  IsNamed (Some problem) None budget workers tree = ⊥
  IsNamed None root budget workers tree = ⊥
