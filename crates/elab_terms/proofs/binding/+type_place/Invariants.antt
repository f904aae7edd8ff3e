use Rattle.std.proofs.Common.{◌+◌, ◌*◌}
use Rattle.file_trees.specs.Trees.{classifier_size}
use Rattle.file_trees.specs.TypeViews.{binding_of}
use Rattle.elab_terms.specs.ReadBinders.{domain_of}
use Rattle.elab_terms.proofs.binding.+type_place.Given as goal

abbrev pub decreases-type_place : goal.decreases-type_place
decreases-type_place l = 2 * classifier_size l.tree.now

abbrev pub decreases-binding_place : goal.decreases-binding_place
decreases-binding_place l = 2 * classifier_size (domain_of (binding_of l.binding.now)) + 1
