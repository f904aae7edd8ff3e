-- What a file's terms, types and kinds are, as plain data. A tree keeps the places of its parts.
use Rattle.std.specs.Prelude.{ℕ, suc, ◌+◌, List, [], ◌∷◌}
use Rattle.file_trees.specs.declared.span.Span.{Span}
use Rattle.file_trees.specs.declared.span.BinderSpan.{BinderSpan}

-- A term. An application is its head, applied to its arguments one by one: `c M N` is `apply (apply (head c) M) N`.
pub data Tree : Type 0 where
  leaf : Span → Tree
  abstraction : BinderSpan → Tree → Tree
  head : Tree → Tree
  apply : Tree → Tree → Tree

-- what is applied to further arguments
abbrev pub apply_all : Tree → List Tree → Tree
apply_all tree [] = tree
apply_all tree (argument ∷ arguments) = apply_all (apply tree argument) arguments

-- A head with its arguments. With none it is the head itself.
abbrev pub applied : Tree → List Tree → Tree
applied tree [] = tree
applied tree (argument ∷ arguments) = apply_all (head tree) (argument ∷ arguments)

-- A type or a kind.
pub data Classifier : Type 0 where
  pi : BinderSpan → Classifier → Classifier → Classifier
  arrow : Classifier → Classifier → Classifier
  family : Span → List Tree → Classifier
  star : Span → Classifier

-- what stands before the last part of a type: a binder, or the left side of an arrow
pub data Binding : Type 0 where
  pi_of : BinderSpan → Classifier → Binding
  arrow_of : Classifier → Binding

-- a type from its bindings and its last part
abbrev pub bind : List Binding → Classifier → Classifier
bind [] last = last
bind (pi_of binder domain ∷ bindings) last = pi binder domain (bind bindings last)
bind (arrow_of left ∷ bindings) last = arrow left (bind bindings last)

abbrev pub tree_size : Tree → ℕ
tree_size (leaf span) = 1
tree_size (abstraction binder body) = suc (tree_size body)
tree_size (head tree) = suc (suc (tree_size tree))
tree_size (apply tree argument) = suc (tree_size tree + tree_size argument)

abbrev pub trees_size : List Tree → ℕ
trees_size [] = 1
trees_size (tree ∷ trees) = suc (tree_size tree + trees_size trees)

abbrev pub classifier_size : Classifier → ℕ
classifier_size (pi binder domain rest) = suc (suc (classifier_size domain + classifier_size rest))
classifier_size (arrow left right) = suc (suc (classifier_size left + classifier_size right))
classifier_size (family span arguments) = 1
classifier_size (star span) = 1

abbrev pub bindings_size : List Binding → ℕ
bindings_size [] = 0
bindings_size (pi_of binder domain ∷ bindings) = suc (suc (classifier_size domain + bindings_size bindings))
bindings_size (arrow_of left ∷ bindings) = suc (suc (classifier_size left + bindings_size bindings))
