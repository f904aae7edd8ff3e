use Rattle.file_trees.specs.Trees.{tree_size}
use Rattle.file_trees.specs.TermViews.{tree_of}
use Rattle.file_trees.proofs.places.+place.Given as goal

abbrev pub decreases-place : goal.decreases-place
decreases-place l = tree_size (tree_of l.t.now)
