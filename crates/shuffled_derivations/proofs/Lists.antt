-- Elements of lists at their places, also of mapped lists.
use Rattle.std.proofs.Common.{◌≡◌, ℕ, zero, suc, Some, option_map, List, [], ◌∷◌, map, All, refl, ap, ◌∙◌, subst}
use Rattle.std.specs.Prelude.{slice_get}
use Rattle.std.proofs.lemmas.Option.{slice_get-map, slice_get_within, get_or_from_slice_get}
use Rattle.lf_definitions.proofs.Options.{Some-Some}

pub mapped_at : {X Y : Type 0} (f : X → Y) (xs : List X) (i : ℕ) (x : X) → slice_get xs i ≡ Some x → slice_get (map f xs) i ≡ Some (f x)
mapped_at f xs i x there = slice_get-map f xs i ∙ ap (option_map f) there

pub at_mapped : {X Y : Type 0} (f : X → Y) (xs : List X) (i : ℕ) (y : Y) → slice_get (map f xs) i ≡ Some y → (x : X) × (slice_get xs i ≡ Some x) × (f x ≡ y)
at_mapped f [] i y there = absurd cc
at_mapped f (x ∷ xs) zero y there = (x, refl, Some-Some there)
at_mapped f (x ∷ xs) (suc i) y there = at_mapped f xs i y there

-- What is true of all is true of the one at a place.
pub All-at : {X : Type 0} (P : X → Type 0) (xs : List X) → All P xs → (i : ℕ) (x : X) → slice_get xs i ≡ Some x → P x
All-at P xs all i x there = subst P (get_or_from_slice_get xs i x x there) (all i x (slice_get_within xs i x there))
