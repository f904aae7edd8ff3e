-- The head of an application, and its arguments, however it is put in parentheses.
use Rattle.std.specs.Prelude.{◌≡◌, List, ◌∷◌}
use Rattle.file_trees.specs.Trees.{Tree, leaf, abstraction, head, apply}

abbrev pub base_of : Tree → Tree
base_of (leaf span) = leaf span
base_of (abstraction binder body) = abstraction binder body
base_of (head tree) = base_of tree
base_of (apply tree argument) = base_of tree

-- the arguments, and then others
abbrev pub arguments_of : Tree → List Tree → List Tree
arguments_of (leaf span) after = after
arguments_of (abstraction binder body) after = after
arguments_of (head tree) after = arguments_of tree after
arguments_of (apply tree argument) after = arguments_of tree (argument ∷ after)

-- The tree is a name or an abstraction, applied to these arguments and then to those after.
abbrev pub IsApplied : Tree → List Tree → Tree → List Tree → Type 0
IsApplied tree after first arguments = (base_of tree ≡ first) × (arguments_of tree after ≡ arguments)
