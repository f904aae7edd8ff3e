-- Terms, seen as trees.
use Rattle.std.specs.Prelude.{Bool, true, false, List, [], ◌∷◌}
use Rattle.file_trees.specs.Trees.{Tree, leaf, abstraction, head, apply_all}
use Rattle.file_trees.specs.declared.term_tree.TermTree.{TermTree}
use Rattle.file_trees.specs.declared.term_tree.TermTree.TheVariants.{Abs, App, Leaf}

-- the term, whose parts are trees already
abbrev pub tree_of : TermTree → Tree
tree_of (Abs binder body) = abstraction binder body
tree_of (App first arguments) = apply_all (head first) arguments
tree_of (Leaf span) = leaf span

abbrev pub trees_of : List TermTree → List Tree
trees_of [] = []
trees_of (t ∷ ts) = tree_of t ∷ trees_of ts

abbrev pub has_none : List Tree → Bool
has_none [] = true
has_none (tree ∷ trees) = false
