-- Lists of trees, seen one by one.
use Rattle.std.proofs.Common.{◌≡◌, List, [], ◌∷◌, ◌++◌, length, refl, ap, arith}
use Rattle.file_trees.specs.TermViews.{tree_of, trees_of}
use Rattle.file_trees.specs.TypeViews.{binding_of, bindings_of}
use Rattle.file_trees.specs.declared.term_tree.TermTree.{TermTree}
use Rattle.file_trees.specs.declared.type_tree.Binder.{Binder}

pub length_trees_of : (ts : List TermTree) → length (trees_of ts) ≡ length ts
length_trees_of [] = refl
length_trees_of (t ∷ ts) = omega (arith, length_trees_of ts)

pub trees_of_append : (ts us : List TermTree) → trees_of (ts ++ us) ≡ trees_of ts ++ trees_of us
trees_of_append [] us = refl
trees_of_append (t ∷ ts) us = ap (λ vs. tree_of t ∷ vs) (trees_of_append ts us)

pub bindings_of_append : (bs cs : List Binder) → bindings_of (bs ++ cs) ≡ bindings_of bs ++ bindings_of cs
bindings_of_append [] cs = refl
bindings_of_append (b ∷ bs) cs = ap (λ ds. binding_of b ∷ ds) (bindings_of_append bs cs)

pub length_bindings_of : (bs : List Binder) → length (bindings_of bs) ≡ length bs
length_bindings_of [] = refl
length_bindings_of (b ∷ bs) = omega (arith, length_bindings_of bs)
