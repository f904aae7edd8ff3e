use Rattle.file_trees.specs.Trees.{tree_size}
use Rattle.file_trees.specs.TermViews.{tree_of}
use Rattle.elab_terms.proofs.applied.+base.Given as goal

abbrev pub decreases-base : goal.decreases-base
decreases-base l = tree_size (tree_of l.tree.now)
