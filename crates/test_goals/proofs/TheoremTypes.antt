-- The types of theorems are well formed.
use Rattle.std.proofs.Common.{◌≡◌, ℕ, ◌<◌, List, [], length, get_or, map, sym, ap, ◌∙◌, subst}
use Rattle.std.proofs.lemmas.List.Elements.{All-get_or}
use Rattle.std.proofs.lemmas.List.{length-map, get_or-map}
use Rattle.lf_definitions.specs.Typing.{Formed}
use Rattle.lf_definitions.specs.Signatures.{LfSignature, kinds_in, typing_in}
use Rattle.lf_terms.specs.Types.{type_of}
use Rattle.file_elab.specs.declared.theorem.Theorem.{Theorem}
use Rattle.file_elab.specs.ProgramViews.{theorem_of}
use Rattle.file_elab.specs.Theorems.{LfTheorem, AreFormed}

pub theorem_is_formed : (sig : LfSignature) (theorems : List LfTheorem) (items : List Theorem) (i : ℕ) (x d : Theorem) →
    AreFormed sig theorems → map theorem_of items ≡ theorems → i < length items → x ≡ get_or items i d → Formed (kinds_in sig) (typing_in sig [] []) (type_of x.ty)
theorem_is_formed sig theorems items i x d formed are within is =
    let WellFormed : LfTheorem → Type 0 = λ t. Formed (kinds_in sig) (typing_in sig [] []) t.type in
    let known : WellFormed (get_or (map theorem_of items) i (theorem_of d)) =
    All-get_or WellFormed (map theorem_of items) i (theorem_of d) (subst (λ n. i < n) (sym (length-map items theorem_of)) within) (subst (AreFormed sig) (sym are) formed) in
    subst WellFormed (get_or-map theorem_of items i d (theorem_of d) within ∙ ap theorem_of (sym is)) known
