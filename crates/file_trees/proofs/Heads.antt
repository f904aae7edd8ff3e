-- The head of an application: its place, and that it is smaller.
use Rattle.std.proofs.Common.{◌≡◌, ◌<◌, List, [], ◌∷◌, refl, sym, subst, arith}
use Rattle.file_trees.specs.Trees.{Tree, tree_size, head, apply, apply_all}
use Rattle.file_trees.specs.declared.term_tree.TermTree.{TermTree}
use Rattle.file_trees.specs.declared.term_tree.TermTree.TheVariants.{App}
use Rattle.file_trees.specs.TermSizes.{applied_size}
use Rattle.file_trees.specs.TermViews.{tree_of}
use Rattle.file_trees.specs.Places.{tree_place}

pub place_of_applied : (tree : Tree) (arguments : List Tree) → tree_place (apply_all tree arguments) ≡ tree_place tree
place_of_applied tree [] = refl
place_of_applied tree (argument ∷ arguments) = place_of_applied (apply tree argument) arguments

pub head_falls : (t : TermTree) (first : Tree) (arguments : List Tree) (r : TermTree) → t ≡ App first arguments → tree_of r ≡ first →
    tree_size (tree_of r) < tree_size (tree_of t)
head_falls t first arguments r h e =
    subst (λ u. tree_size (tree_of r) < tree_size (tree_of u)) (sym h)
    (subst (λ u. tree_size u < tree_size (apply_all (head first) arguments)) (sym e) (omega (arith, applied_size (head first) arguments)))
