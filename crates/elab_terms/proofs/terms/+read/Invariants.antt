use Rattle.std.proofs.Common.{◌≡◌, ◌+◌, ◌*◌, ◌≤◌, [], length, take}
use Rattle.lf_definitions.specs.Substitution.{stays}
use Rattle.lf_terms.specs.Terms.{spine_of}
use Rattle.file_trees.specs.Trees.{tree_size}
use Rattle.file_trees.specs.TermViews.{tree_of}
use Rattle.elab_terms.specs.Applied.{arguments_of}
use Rattle.elab_terms.specs.Readers.{whole_text, typing_by}
use Rattle.elab_terms.specs.Terms.{ReadsArguments}
use Rattle.elab_terms.proofs.Reading.{seen_types}
use Rattle.elab_terms.proofs.terms.+read.Given as goal

abbrev pub decreases-read_term : goal.decreases-read_term
decreases-read_term l = 4 * tree_size (tree_of l.tree.now) + 3

abbrev pub decreases-read_abstraction : goal.decreases-read_abstraction
decreases-read_abstraction l = 4 * tree_size (tree_of l.abstraction.now.tree.now) + 2

abbrev pub decreases-read_application : goal.decreases-read_application
decreases-read_application l = 4 * tree_size (tree_of l.tree.now) + 2

abbrev pub decreases-read_arguments : goal.decreases-read_arguments
decreases-read_arguments l = 4 * tree_size (tree_of l.tree.now) + 1

abbrev pub invariant-read_arguments-loop-i : goal.invariant-read_arguments-loop-i
invariant-read_arguments-loop-i l = record {
  count : length l.terms.items ≡ l.i;
  within : l.i ≤ length (arguments_of (tree_of l.tree) []);
  read : ReadsArguments (whole_text l.reader) l.reader.sig.now l.fn.names (typing_by l.reader l.scope) stays (take l.i (arguments_of (tree_of l.tree) [])) (take l.i (seen_types l.head_type.raise l.types)) (spine_of l.terms.items);
  names : l.names ≡ l.fn.names;
}
