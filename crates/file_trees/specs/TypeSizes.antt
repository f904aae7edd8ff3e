-- Each part of a type is smaller than the type.
use Rattle.std.specs.Prelude.{◌≢◌, ◌≤◌, ◌<◌, ◌+◌, List, [], ◌∷◌, refl}
use Rattle.std.proofs.Common.{arith}
use denote.Param.Weighed.{most}
use Rattle.file_trees.specs.Trees.{Classifier, pi, arrow, family, star, Binding, pi_of, arrow_of, bind, classifier_size, bindings_size}
use Rattle.file_trees.specs.TypeViews.{bindings_of, last_of, IsLast}
use Rattle.file_trees.specs.declared.type_tree.Binder.{Binder}
use Rattle.file_trees.specs.declared.type_tree.Binder.TheVariants.{Pi, Arrow}
use Rattle.file_trees.specs.declared.type_tree.Last.{Last}
use Rattle.file_trees.specs.declared.type_tree.Last.TheVariants.{Fam, Star, Group}
use Rattle.file_trees.specs.declared.type_tree.TypeTree.TheInside as tree
use Rattle.file_trees.specs.declared.type_tree.Binders.TheInside as binders
use Rattle.file_trees.specs.declared.type_tree.Binders.TheDeep.{deep-TypeTree, deep-Binder, deep-Binders}

pub some_size : (c : Classifier) → 0 < classifier_size c
some_size (pi binder domain rest) = omega arith
some_size (arrow left right) = omega arith
some_size (family span arguments) = omega arith
some_size (star span) = omega arith

pub bound_size : (bindings : List Binding) (last : Classifier) → bindings_size bindings + classifier_size last ≤ classifier_size (bind bindings last)
bound_size [] last = omega arith
bound_size (pi_of binder domain ∷ bindings) last = omega (arith, bound_size bindings last)
bound_size (arrow_of left ∷ bindings) last = omega (arith, bound_size bindings last)

some_bindings : (bindings : List Binding) → bindings ≢ [] → 1 < bindings_size bindings
some_bindings [] h = absurd (h refl)
some_bindings (pi_of binder domain ∷ bindings) h = omega arith
some_bindings (arrow_of left ∷ bindings) h = omega arith

items_fall : (bs : List Binder) → most deep-Binder bs ≤ bindings_size (bindings_of bs)
items_fall [] = omega arith
items_fall (Pi binder domain ∷ bs) = omega (arith, items_fall bs)
items_fall (Arrow left ∷ bs) = omega (arith, items_fall bs)

pub binders_fall : (a : binders.Inside) → deep-Binders a ≤ bindings_size (bindings_of a.items.items)
binders_fall a = omega (arith, items_fall a.items.items)

last_falls : (last : Last) (bindings : List Binding) → IsLast last bindings → deep-TypeTree (record { binders = bindings; last = last }) ≤ classifier_size (bind bindings (last_of last))
last_falls (Fam span arguments) bindings h = omega (arith, bound_size bindings (family span arguments))
last_falls (Star span) bindings h = omega (arith, bound_size bindings (star span))
last_falls (Group inner) bindings h =
    omega (arith, bound_size bindings inner.value, some_bindings bindings h, some_size inner.value)

pub type_falls : (a : tree.Inside) → IsLast a.last a.binders → deep-TypeTree a ≤ classifier_size (bind a.binders (last_of a.last))
type_falls a h = last_falls a.last a.binders h
