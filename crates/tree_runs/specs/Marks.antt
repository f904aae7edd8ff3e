-- The marks of a shape's nodes. A grown node is proved where some alternative has only proved children, and stuck where every alternative
-- has a stuck child; other nodes are neither.
use Rattle.std.specs.Prelude.{◌≡◌, ℕ, zero, suc, Bool, true, false, not, ◌&&◌, ◌||◌, List, Option, Some, None, slice_get}
use Rattle.std.specs.List.{list_any, list_all}
use Rattle.tree_runs.specs.Shapes.{TreeShape, nodes_count, above_at, alternatives_at}

-- whether the test holds of all numbers from the first on, this many
abbrev pub all_from : (ℕ → Bool) → ℕ → ℕ → Bool
all_from test first zero = true
all_from test first (suc count) = test first && all_from test (suc first) count

-- whether it holds of one of them
abbrev pub any_from : (ℕ → Bool) → ℕ → ℕ → Bool
any_from test first zero = false
any_from test first (suc count) = test first || any_from test (suc first) count

-- whether an alternative has only proved children
abbrev pub all_children : (ℕ → Bool) → ℕ × ℕ → Bool
all_children test alternative = all_from test alternative.0 alternative.1

-- whether it has a stuck child
abbrev pub some_child : (ℕ → Bool) → ℕ × ℕ → Bool
some_child test alternative = any_from test alternative.0 alternative.1

-- whether a node with these alternatives is proved, where `proved` tells it of their children
abbrev pub proved_by : (ℕ → Bool) → Option (List (ℕ × ℕ)) → Bool
proved_by proved None = false
proved_by proved (Some alternatives) = list_any (all_children proved) alternatives

-- whether it is stuck
abbrev pub stuck_by : (ℕ → Bool) → Option (List (ℕ × ℕ)) → Bool
stuck_by stuck None = false
stuck_by stuck (Some alternatives) = list_all (some_child stuck) alternatives

-- the two marks of a node agree with those of its children
pub record IsLocal (shape : TreeShape) (proved stuck : ℕ → Bool) (node : ℕ) : Type 0 where
  pub is_proved : proved node ≡ proved_by proved (alternatives_at shape node)
  pub is_stuck : stuck node ≡ stuck_by stuck (alternatives_at shape node)

-- the marks, looking at most `depth` nodes down
abbrev pub proved_within : TreeShape → ℕ → ℕ → Bool
proved_within shape zero node = false
proved_within shape (suc depth) node = proved_by (proved_within shape depth) (alternatives_at shape node)

abbrev pub stuck_within : TreeShape → ℕ → ℕ → Bool
stuck_within shape zero node = false
stuck_within shape (suc depth) node = stuck_by (stuck_within shape depth) (alternatives_at shape node)

-- the marks: no way down has more nodes than the shape
unfoldable pub is_proved : TreeShape → ℕ → Bool
is_proved shape node = proved_within shape (nodes_count shape) node

unfoldable pub is_stuck : TreeShape → ℕ → Bool
is_stuck shape node = stuck_within shape (nodes_count shape) node

abbrev pub is_decided : TreeShape → ℕ → Bool
is_decided shape node = is_proved shape node || is_stuck shape node

abbrev pub alternative_decided : TreeShape → Option (ℕ × ℕ) → Bool
alternative_decided shape None = false
alternative_decided shape (Some alternative) = all_children (is_proved shape) alternative || some_child (is_stuck shape) alternative

abbrev pub entry_at : Option (List (ℕ × ℕ)) → ℕ → Option (ℕ × ℕ)
entry_at None i = None
entry_at (Some alternatives) i = slice_get alternatives i

-- an alternative of a node: all its children are proved, or one is stuck
abbrev pub is_alternative_decided : TreeShape → ℕ → ℕ → Bool
is_alternative_decided shape node alternative = alternative_decided shape (entry_at (alternatives_at shape node) alternative)

-- Whether no node above and no alternative on the way is decided, where `way` tells what is above, going at most `height` nodes up
abbrev pub relevant_from : TreeShape → ℕ → Option (ℕ × ℕ × ℕ) → Bool
relevant_from shape height None = true
relevant_from shape zero (Some way) = true
relevant_from shape (suc height) (Some way) =
    not (is_decided shape way.0) && not (is_alternative_decided shape way.0 way.1) && relevant_from shape height (above_at shape way.0)

-- A node is relevant where no node above it and no alternative on its way from the root is decided.
unfoldable pub is_relevant : TreeShape → ℕ → Bool
is_relevant shape node = relevant_from shape node (above_at shape node)

-- whether a node is relevant that hangs where `way` tells, where `relevant` tells it of the node above
abbrev pub relevant_by : TreeShape → (ℕ → Bool) → Option (ℕ × ℕ × ℕ) → Bool
relevant_by shape relevant None = true
relevant_by shape relevant (Some way) = not (is_decided shape way.0) && not (is_alternative_decided shape way.0 way.1) && relevant way.0
