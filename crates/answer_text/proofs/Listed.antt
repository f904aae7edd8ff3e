-- Numbers with commas between them: the first, and each other after a comma.
use Rattle.std.proofs.Common.{◌≡◌, ℕ, List, [], ◌∷◌, ◌++◌, decimal, codes, sym, ap, ◌∙◌, append_assoc, append-nil}
use Rattle.std.specs.List.{flat_map}
use Rattle.answer_text.specs.Texts.{listed_text}
use Rattle.answer_text.specs.Parts.{other_text}

pub listed_apart : (n : ℕ) (rest : List ℕ) → listed_text (n ∷ rest) ≡ decimal n ++ flat_map other_text rest
listed_apart n [] = sym (append-nil (decimal n))
listed_apart n (m ∷ rest) =
    ap (λ l. decimal n ++ codes "," ++ l) (listed_apart m rest) ∙ append_assoc (decimal n) (codes ",") (decimal m ++ flat_map other_text rest)
    ∙ ap (λ l. decimal n ++ l) (sym (append_assoc (codes ",") (decimal m) (flat_map other_text rest)))
