-- The prefix of a list that a loop has passed, its next entry, and the rest.
use Rattle.std.proofs.Common.{◌≡◌, ℕ, ◌+◌, ◌<◌, List, [], ◌∷◌, ◌++◌, length, get_or, take, drop, append_assoc, sym, ap, ◌∙◌}
use Rattle.std.proofs.lemmas.List.{take-append-drop}
use Rattle.lf_definitions.proofs.Lists.{take_next}

pub parts_at : {A : Type 0} (xs : List A) (i : ℕ) (x : A) → i < length xs → x ≡ get_or xs i x → xs ≡ take i xs ++ x ∷ drop (i + 1) xs
parts_at {A = A} xs i x within is =
    sym (take-append-drop (i + 1) xs) ∙ ap (λ (prefix : List A). prefix ++ drop (i + 1) xs) (sym (take_next xs i x within is))
    ∙ append_assoc (take i xs) (x ∷ []) (drop (i + 1) xs)
