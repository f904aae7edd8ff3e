-- Terms under abstractions, and types after their binders.
use Rattle.std.proofs.Common.{◌≡◌, List, [], ◌∷◌, ◌++◌, refl, ap}
use Rattle.file_trees.specs.declared.span.BinderSpan.{BinderSpan}
use Rattle.file_trees.specs.Trees.{Tree, abstraction, Classifier, pi, arrow, Binding, pi_of, arrow_of, bind}
use Rattle.file_syntax.specs.Reading.{abstracted}

pub abstracted_append : (binders more : List BinderSpan) (tree : Tree) → abstracted (binders ++ more) tree ≡ abstracted binders (abstracted more tree)
abstracted_append [] more tree = refl
abstracted_append (binder ∷ binders) more tree = ap (abstraction binder) (abstracted_append binders more tree)

pub bind_append : (bindings more : List Binding) (last : Classifier) → bind (bindings ++ more) last ≡ bind bindings (bind more last)
bind_append [] more last = refl
bind_append (pi_of binder domain ∷ bindings) more last = ap (pi binder domain) (bind_append bindings more last)
bind_append (arrow_of left ∷ bindings) more last = ap (arrow left) (bind_append bindings more last)
