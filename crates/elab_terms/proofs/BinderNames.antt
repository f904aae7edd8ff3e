-- Binders, the oldest first and the innermost first.
use Rattle.std.proofs.Common.{◌≡◌, ℕ, ◌+◌, Option, List, [], ◌∷◌, ◌++◌, length, refl, arith}
use Rattle.elab_terms.specs.Names.{Bound}
use Rattle.elab_terms.specs.Binding.{bound_from}

pub bound_from-push : (names : List (Option (List ℕ))) (name : Option (List ℕ)) (outside : Bound) → bound_from (names ++ name ∷ []) outside ≡ name ∷ bound_from names outside
bound_from-push [] name outside = refl
bound_from-push (first ∷ names) name outside = bound_from-push names name (first ∷ outside)

length-bound_from : (items : List (Option (List ℕ))) (outside : Bound) → length (bound_from items outside) ≡ length items + length outside
length-bound_from [] outside = omega arith
length-bound_from (x ∷ items) outside = let rest = length-bound_from items (x ∷ outside) in omega (arith, rest)

pub count_bound : (items : List (Option (List ℕ))) → length (bound_from items []) ≡ length items
count_bound items = let count = length-bound_from items [] in omega (arith, count)
