-- What a contract sees of a shape that is kept in vectors.
use Rattle.std.specs.Prelude.{◌≡◌, ℕ, ◌+◌, ◌<◌, ◌≤◌, List, map, length, take, drop, Option, Some, None, slice_get}
use Rattle.tree_runs.specs.Shapes.{TreeShape, alternatives_at, IsShape}

-- a shape, and for how many more nodes and alternatives there is room
pub record ShapeRoom : Type 0 where
  pub shape : TreeShape
  pub spare : ℕ

-- the alternatives of a node, which stand in a list of all from a place on, this many
abbrev pub cut : List (ℕ × ℕ) → Option (ℕ × ℕ) → Option (List (ℕ × ℕ))
cut all None = None
cut all (Some span) = Some (take span.1 (drop span.0 all))

abbrev pub shape_from : List (Option (ℕ × ℕ × ℕ)) → List (Option (ℕ × ℕ)) → List (ℕ × ℕ) → TreeShape
shape_from above spans all = record { above = above; alternatives = map (cut all) spans }

-- the vectors hold a shape
pub record IsRepresented (above : List (Option (ℕ × ℕ × ℕ))) (spans : List (Option (ℕ × ℕ))) (all : List (ℕ × ℕ)) : Type 0 where
  pub is_shape : IsShape (shape_from above spans all)
  pub within : (node start width : ℕ) → slice_get spans node ≡ Some (Some (start, width)) → start + width ≤ length all

-- a vector of this length and capacity has room, and its places have numbers
pub record HasRoom (len capacity spare : ℕ) : Type 0 where
  pub memory : len + spare ≤ capacity
  pub numbers : len + spare ≤ 2147483648

-- the node was grown, and has this alternative
pub record HasAlternative (shape : TreeShape) (node alternative : ℕ) : Type 0 where
  pub all : List (ℕ × ℕ)
  pub grown : alternatives_at shape node ≡ Some all
  pub within : alternative < length all
