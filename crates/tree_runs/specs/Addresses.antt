-- Addresses in the unfolding of a problem, and the marks of a set of them.
use Rattle.std.specs.Prelude.{◌≡◌, ℕ, zero, suc, ◌<◌, List, [], ◌∷◌, ◌++◌, length, Option, Some, None, slice_get}
use Rattle.std.specs.List.{Contains}
use Rattle.tree_runs.specs.Shapes.{TreeShape, above_at}

-- the pairs (alternative, cluster) from the root on
abbrev pub Address : Type 0
Address = List (ℕ × ℕ)

-- the address of what hangs where `way` tells, going at most `height` nodes up
abbrev pub address_from : TreeShape → ℕ → Option (ℕ × ℕ × ℕ) → Address
address_from shape height None = []
address_from shape zero (Some way) = []
address_from shape (suc height) (Some way) = address_from shape height (above_at shape way.0) ++ (way.1, way.2) ∷ []

-- the address of a node: the pairs of alternative and place on its way from the root
unfoldable pub address_of : TreeShape → ℕ → Address
address_of shape node = address_from shape node (above_at shape node)

-- A problem is known by the branches of what a node is seen as: for each alternative its percentage, and what each child is seen as.
module _ {S : Type 0} (branches : S → List (ℕ × List S)) where
  abbrev pub child_of : Option (ℕ × List S) → ℕ → Option S
  child_of None place = None
  child_of (Some branch) place = slice_get branch.1 place

  -- what hangs below one alternative at one place
  abbrev pub child_at : S → ℕ → ℕ → Option S
  child_at seen alternative place = child_of (slice_get (branches seen) alternative) place

  -- what stands at an address of the unfolding, from a node on
  abbrev pub at_from : Option S → Address → Option S
  at_from None address = None
  at_from (Some seen) [] = Some seen
  at_from (Some seen) (step ∷ address) = at_from (child_at seen step.0 step.1) address

  abbrev pub at : S → Address → Option S
  at root address = at_from (Some root) address

  module _ (root : S) (committed : List Address) where
    -- a committed address is proved where some alternative has only proved children
    pub data Proved : Address → Type 0 where
      by_alternative : (address : Address) (seen : S) (alternative percent : ℕ) (children : List S) → Contains committed address →
          at root address ≡ Some seen → slice_get (branches seen) alternative ≡ Some (percent, children) →
          ((place : ℕ) (child : Address) → place < length children → child ≡ address ++ (alternative, place) ∷ [] → Proved child) → Proved address

    -- it is stuck where every alternative has a stuck child, at the place that `choice` tells
    pub data Stuck : Address → Type 0 where
      by_choice : (address : Address) (seen : S) (choice : ℕ → ℕ) → Contains committed address → at root address ≡ Some seen →
          ((alternative percent : ℕ) (children : List S) → slice_get (branches seen) alternative ≡ Some (percent, children) → choice alternative < length children) →
          ((alternative : ℕ) (child : Address) → alternative < length (branches seen) → child ≡ address ++ (alternative, choice alternative) ∷ [] → Stuck child) →
          Stuck address
