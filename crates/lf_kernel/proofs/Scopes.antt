-- The types of variables at a place.
use Rattle.std.proofs.Common.{◌≡◌, ℕ, zero, suc, ◌+◌, ◌-◌, ◌<◌, ◌≤◌, Option, Some, None, option_map, List, [], ◌∷◌, length, get_or, refl, sym, ap, ◌∙◌, arith, Bor}
use Rattle.lf_definitions.specs.Syntax.{bound, LfType}
use Rattle.lf_definitions.specs.Renaming.{rename_type, next_by}
use Rattle.lf_definitions.specs.Typing.{Typing, with_context, type_at}
use Rattle.lf_definitions.proofs.Variables.{with_context-inside, with_context-outside, rename_type-next_by_again}
use Rattle.lf_terms.specs.declared.ty.Ty.{Ty}
use Rattle.lf_terms.specs.Types.{type_of, types_of}
use Rattle.lf_terms.proofs.TypeLists.{length-types_of}

pub type_at-types_of : (types : List Ty) (k : ℕ) (d : Ty) → k < length types → type_at (types_of types) k ≡ Some (type_of (get_or types k d))
type_at-types_of [] k d within = absurd (omega arith)
type_at-types_of (t ∷ types) zero d within = refl
type_at-types_of (t ∷ types) (suc k) d within = type_at-types_of types k d (omega arith)

-- the type of a variable as it stands at its binder, and as it is seen from its place
abbrev pub seen : ℕ → Option (Bor Ty) → Option LfType
seen n found = option_map (λ ty. rename_type (next_by n) (type_of ty.now)) found

pub variable_inside : (types : List Ty) (Γ : Typing) (n : ℕ) (d : Ty) → n < length types →
    ◌≡◌ {A = Option LfType} (Some (rename_type (next_by (n + 1)) (type_of (get_or types (length types - 1 - n) d)))) (with_context (types_of types) Γ (bound n))
variable_inside types Γ n d within =
    let k = length types - 1 - n in
    let ty = get_or types k d in
    let count = length-types_of types in
    let number : length (types_of types) - suc k ≡ n = omega (arith, count) in
    let raised : length (types_of types) - k ≡ n + 1 = omega (arith, count) in
    sym (ap (λ m. with_context (types_of types) Γ (bound m)) (sym number)
    ∙ with_context-inside (types_of types) Γ k (type_of ty) (type_at-types_of types k d (omega arith))
    ∙ ap (λ m. Some (rename_type (next_by m) (type_of ty))) raised)

pub variable_outside : (types : List Ty) (Γ : Typing) (n : ℕ) (found : Option (Bor Ty)) → length types ≤ n → seen (n - length types + 1) found ≡ Γ (bound (n - length types)) →
    seen (n + 1) found ≡ with_context (types_of types) Γ (bound n)
variable_outside types Γ n found past is =
    let m = length types in
    let number : length (types_of types) + (n - m) ≡ n = omega (arith, length-types_of types) in
    let raised : (n - m + 1) + length (types_of types) ≡ n + 1 = omega (arith, length-types_of types) in
    sym (ap (λ i. with_context (types_of types) Γ (bound i)) (sym number)
    ∙ with_context-outside (types_of types) Γ (n - m)
    ∙ ap (option_map (rename_type (next_by (length (types_of types))))) (sym is)
    ∙ again (length (types_of types)) (n - m + 1) found
    ∙ ap (λ i. seen i found) raised)
  where
    again : (m n : ℕ) (found : Option (Bor Ty)) → option_map (rename_type (next_by m)) (seen n found) ≡ seen (n + m) found
    again m n None = refl
    again m n (Some ty) = ap Some (rename_type-next_by_again m n (type_of ty.now))
