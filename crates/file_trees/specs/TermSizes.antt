-- Each part of a term is smaller than the term.
use Rattle.std.specs.Prelude.{suc, ◌≤◌, ◌+◌, List, [], ◌∷◌}
use Rattle.std.proofs.Common.{arith}
use denote.Param.Weighed.{most}
use Rattle.file_trees.specs.Trees.{Tree, head, apply, apply_all, tree_size, trees_size}
use Rattle.file_trees.specs.TermViews.{tree_of, trees_of}
use Rattle.file_trees.specs.declared.term_tree.TermTree.{TermTree}
use Rattle.file_trees.specs.declared.term_tree.TermTree.TheVariants.{Abs, App, Leaf}
use Rattle.file_trees.specs.declared.term_tree.Part.TheInside as part
use Rattle.file_trees.specs.declared.term_tree.TermTrees.TheInside as trees
use Rattle.file_trees.specs.declared.term_tree.Part.TheDeep.{deep-Part, deep-TermTree, deep-TermTrees}

pub applied_size : (tree : Tree) (arguments : List Tree) → tree_size tree + trees_size arguments ≤ suc (tree_size (apply_all tree arguments))
applied_size tree [] = omega arith
applied_size tree (t ∷ ts) = omega (arith, applied_size (apply tree t) ts)

term_falls : (t : TermTree) → deep-TermTree t ≤ tree_size (tree_of t)
term_falls (Abs binder body) = omega arith
term_falls (App first arguments) = omega (arith, applied_size (head first) arguments)
term_falls (Leaf span) = omega arith

items_fall : (ts : List TermTree) → most deep-TermTree ts ≤ trees_size (trees_of ts)
items_fall [] = omega arith
items_fall (t ∷ ts) = omega (arith, term_falls t, items_fall ts)

pub part_falls : (a : part.Inside) → deep-Part a ≤ tree_size (tree_of a.inner.value)
part_falls a = omega (arith, term_falls a.inner.value)

pub trees_fall : (a : trees.Inside) → deep-TermTrees a ≤ trees_size (trees_of a.items.items)
trees_fall a = omega (arith, items_fall a.items.items)
