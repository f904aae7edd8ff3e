-- The place of a term in its text.
use Rattle.std.specs.Prelude.{ℕ}
use Rattle.file_trees.specs.Trees.{Tree, leaf, abstraction, head, apply}

-- The place of an abstraction is its bracket, and the place of an application is that of its head.
abbrev pub tree_place : Tree → ℕ
tree_place (leaf span) = span.start
tree_place (abstraction binder body) = binder.opening
tree_place (head tree) = tree_place tree
tree_place (apply tree argument) = tree_place tree
