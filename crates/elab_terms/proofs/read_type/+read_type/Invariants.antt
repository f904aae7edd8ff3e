use Rattle.std.proofs.Common.{◌+◌, ◌*◌, drop}
use Rattle.file_trees.specs.Trees.{classifier_size, bindings_size}
use Rattle.file_trees.specs.TypeViews.{bindings_of}
use Rattle.lf_terms.specs.Types.{types_of}
use Rattle.elab_terms.specs.ReadBinders.{Opens}
use Rattle.elab_terms.specs.Readers.{whole_text, typing_by}
use Rattle.elab_terms.proofs.Lasts.{last_measure}
use Rattle.elab_terms.proofs.read_type.+read_type.Given as goal

abbrev pub decreases-read_type : goal.decreases-read_type
decreases-read_type l = 4 * classifier_size l.tree.now + 3

abbrev pub decreases-read_rest : goal.decreases-read_rest
decreases-read_rest l = 4 * classifier_size l.tree.now + 2

abbrev pub decreases-read_binders : goal.decreases-read_binders
decreases-read_binders l = 4 * bindings_size (bindings_of l.items.now) + 1

abbrev pub decreases-read_last : goal.decreases-read_last
decreases-read_last l = last_measure l.last.now

abbrev pub invariant-read_binders-loop-i : goal.invariant-read_binders-loop-i
invariant-read_binders-loop-i l =
    Opens l.ending (whole_text l.reader) l.reader.sig.now l.fn.names l.names (typing_by l.reader l.scope) (types_of l.fn.prefix.items) (types_of l.types.items) (bindings_of l.items) (drop l.i (bindings_of l.items))
