-- Types and kinds, seen as classifiers.
use Rattle.std.specs.Prelude.{◌≢◌, Bool, true, false, List, [], ◌∷◌}
use Rattle.file_trees.specs.Trees.{Classifier, family, star, Binding, pi_of, arrow_of}
use Rattle.file_trees.specs.declared.type_tree.Binder.{Binder}
use Rattle.file_trees.specs.declared.type_tree.Binder.TheVariants.{Pi, Arrow}
use Rattle.file_trees.specs.declared.type_tree.Last.{Last}
use Rattle.file_trees.specs.declared.type_tree.Last.TheVariants.{Fam, Star, Group}

abbrev pub binding_of : Binder → Binding
binding_of (Pi binder domain) = pi_of binder domain
binding_of (Arrow left) = arrow_of left

abbrev pub bindings_of : List Binder → List Binding
bindings_of [] = []
bindings_of (b ∷ bs) = binding_of b ∷ bindings_of bs

abbrev pub last_of : Last → Classifier
last_of (Fam span arguments) = family span arguments
last_of (Star span) = star span
last_of (Group inner) = inner.value

-- A type that is nothing but a type in parentheses is that type.
abbrev pub IsLast : Last → List Binding → Type 0
IsLast (Fam span arguments) bindings = Unit {0}
IsLast (Star span) bindings = Unit {0}
IsLast (Group inner) bindings = bindings ≢ []

abbrev pub has_no_part : List Binding → Bool
has_no_part [] = true
has_no_part (binding ∷ bindings) = false
