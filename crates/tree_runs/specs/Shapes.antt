-- The shape of a tree: which node hangs where, by numbers. Node 0 is the root, and a node that is grown gets alternatives with children.
use Rattle.std.specs.Prelude.{◌≡◌, ℕ, zero, suc, ◌+◌, ◌<◌, List, [], ◌∷◌, ◌++◌, length, replicate, sum, Option, Some, None, slice_get, slice_set}
use Rattle.std.specs.Option.{option_flatten}

-- For each node, by its number: the node above, the alternative there and the place among that alternative's children; and once it is
-- grown, its alternatives, each as the number of its first child, 0 where it has none, and how many children it has.
pub record TreeShape : Type 0 where
  pub above : List (Option (ℕ × ℕ × ℕ))
  pub alternatives : List (Option (List (ℕ × ℕ)))

-- the root alone
abbrev pub root_shape : TreeShape
root_shape = record { above = None ∷ []; alternatives = None ∷ [] }

-- how many nodes there are
abbrev pub nodes_count : TreeShape → ℕ
nodes_count shape = length shape.above

-- the node above, the alternative and the place; none for the root and for what doesn't stand
abbrev pub above_at : TreeShape → ℕ → Option (ℕ × ℕ × ℕ)
above_at shape node = option_flatten (slice_get shape.above node)

-- the alternatives of a node; none where it isn't grown
abbrev pub alternatives_at : TreeShape → ℕ → Option (List (ℕ × ℕ))
alternatives_at shape node = option_flatten (slice_get shape.alternatives node)

-- the first child of an alternative that has this many, where `next` is the next free number
abbrev pub first_child : ℕ → ℕ → ℕ
first_child next zero = 0
first_child next (suc count) = next

-- alternatives with these numbers of children, from the next free number on
abbrev pub placed : ℕ → List ℕ → List (ℕ × ℕ)
placed next [] = []
placed next (count ∷ counts) = (first_child next count, count) ∷ placed (next + count) counts

-- the last `left` children of one alternative, from a place on
abbrev pub children_above : ℕ → ℕ → ℕ → ℕ → List (Option (ℕ × ℕ × ℕ))
children_above node alternative place zero = []
children_above node alternative place (suc left) = Some (node, alternative, place) ∷ children_above node alternative (suc place) left

-- the children of all alternatives, from one on
abbrev pub grown_above : ℕ → ℕ → List ℕ → List (Option (ℕ × ℕ × ℕ))
grown_above node alternative [] = []
grown_above node alternative (count ∷ counts) = children_above node alternative 0 count ++ grown_above node (suc alternative) counts

-- One alternative for each count hangs below the node, and the children have the next free numbers.
unfoldable pub grow : TreeShape → ℕ → List ℕ → TreeShape
grow shape node counts = record {
  above = shape.above ++ grown_above node 0 counts;
  alternatives = slice_set shape.alternatives node (Some (placed (nodes_count shape) counts)) ++ replicate (sum counts) None;
}

-- the node has this child below this alternative, at this place
pub record IsChild (shape : TreeShape) (node alternative place child : ℕ) : Type 0 where
  pub all : List (ℕ × ℕ)
  pub first : ℕ
  pub count : ℕ
  pub grown : alternatives_at shape node ≡ Some all
  pub there : slice_get all alternative ≡ Some (first, count)
  pub within : place < count
  pub number : child ≡ first + place

-- Children and what is above them are each other's inverses, numbers rise downwards, and only node 0 has nothing above.
pub record IsShape (shape : TreeShape) : Type 0 where
  pub sizes : length shape.alternatives ≡ length shape.above
  pub up : (node alternative place child : ℕ) → IsChild shape node alternative place child → slice_get shape.above child ≡ Some (Some (node, alternative, place))
  pub down : (node alternative place child : ℕ) → slice_get shape.above child ≡ Some (Some (node, alternative, place)) → IsChild shape node alternative place child
  pub rises : (node alternative place child : ℕ) → slice_get shape.above child ≡ Some (Some (node, alternative, place)) → node < child
  pub root : slice_get shape.above 0 ≡ Some None
  pub others : (child : ℕ) → slice_get shape.above (suc child) ≡ Some None → ⊥
  pub childless : (node alternative first : ℕ) (all : List (ℕ × ℕ)) → alternatives_at shape node ≡ Some all → slice_get all alternative ≡ Some (first, 0) → first ≡ 0
