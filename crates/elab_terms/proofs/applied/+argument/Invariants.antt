use Rattle.file_trees.specs.Trees.{tree_size}
use Rattle.file_trees.specs.TermViews.{tree_of}
use Rattle.elab_terms.proofs.applied.+argument.Given as goal

abbrev pub decreases-argument : goal.decreases-argument
decreases-argument l = tree_size (tree_of l.tree.now)
