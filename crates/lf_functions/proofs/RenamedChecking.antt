-- The test of a type goes along with a renaming of metavariables.
use Rattle.std.proofs.Common.{◌≡◌, ℕ, Option, Some, None, option_map, refl, ap, ap₂, ◌∙◌}
use Rattle.std.specs.Prelude.{Bool, ◌&&◌}
use Rattle.lf_definitions.specs.Syntax.{LfTerm, lam, at, Spine, no_args, arg, LfType, pi, family, shape_of, shape_size}
use Rattle.lf_definitions.specs.Renaming.{rename, rename_spine, rename_type}
use Rattle.lf_definitions.specs.Substitution.{Replacement, stays, push}
use Rattle.lf_definitions.specs.Typing.{Typing, with_variable}
use Rattle.lf_definitions.specs.Instantiation.{metavariables, IsInjective}
use Rattle.lf_definitions.proofs.Types.{shape_of-rename_type}
use Rattle.head_laws.specs.MetavariableLaws.{HasTypesRenamed}
use Rattle.head_laws.proofs.Metavariables.{lifted-metavariables, rename_type_inj, Follows-push_metavariables}
use Rattle.head_laws.proofs.MetavariableTyping.{HasTypesRenamed-with_variable}
use Rattle.lf_functions.specs.Replacing.{replaced_in_type}
use Rattle.lf_functions.specs.Checking.{equal_types, passes, is_typed, takes_to}
use Rattle.lf_functions.proofs.Equality.{equal_types-true, equal_types-from, same_truth}
use Rattle.lf_functions.proofs.Renamed.{GoesAlong, replaced_in_type-renamed}

equal_types-renamed : (ρ : ℕ → ℕ) → IsInjective ρ → (a b : LfType) → equal_types (rename_type (metavariables ρ) a) (rename_type (metavariables ρ) b) ≡ equal_types a b
equal_types-renamed ρ injective a b =
    let ζ = metavariables ρ in
    same_truth (equal_types (rename_type ζ a) (rename_type ζ b)) (equal_types a b)
    (λ e. equal_types-from a b (rename_type_inj ρ injective a b (equal_types-true (rename_type ζ a) (rename_type ζ b) e)))
    (λ e. equal_types-from (rename_type ζ a) (rename_type ζ b) (ap (rename_type ζ) (equal_types-true a b e)))

passes-renamed : (ρ : ℕ → ℕ) (o : Option LfType) (test other : LfType → Bool) → ((a : LfType) → other (rename_type (metavariables ρ) a) ≡ test a) → passes (option_map (rename_type (metavariables ρ)) o) other ≡ passes o test
passes-renamed ρ None test other each = refl
passes-renamed ρ (Some a) test other each = each a

module _ (ρ : ℕ → ℕ) (injective : IsInjective ρ) where
  mutual
    pub is_typed-renamed : (t : LfTerm) (a : LfType) (Γ Δ : Typing) → HasTypesRenamed ρ Γ Δ → is_typed Δ (rename (metavariables ρ) t) (rename_type (metavariables ρ) a) ≡ is_typed Γ t a
    is_typed-renamed (lam b) (pi a c) Γ Δ renamed =
        let Θ = with_variable (rename_type (metavariables ρ) a) Δ in
        ap (λ ξ. is_typed Θ (rename ξ b) (rename_type ξ c)) (lifted-metavariables ρ) ∙ is_typed-renamed b c (with_variable a Γ) Θ (HasTypesRenamed-with_variable ρ Γ Δ a renamed)
    is_typed-renamed (lam b) (family f results) Γ Δ renamed = refl
    is_typed-renamed (at h ts) (pi a c) Γ Δ renamed = refl
    is_typed-renamed (at h ts) (family f results) Γ Δ renamed =
        let ζ = metavariables ρ in
        let end = family f (rename_spine ζ results) in
        let other : LfType → Bool = λ a. takes_to (shape_size (shape_of a)) Δ stays (rename_spine ζ ts) a end in
        ap (λ o. passes o other) (renamed h)
        ∙ passes-renamed ρ (Γ h) (λ a. takes_to (shape_size (shape_of a)) Γ stays ts a (family f results)) other
        (λ a. ap (λ s. takes_to (shape_size s) Δ stays (rename_spine ζ ts) (rename_type ζ a) end) (shape_of-rename_type a ζ)
        ∙ takes_to-renamed ts (shape_size (shape_of a)) Γ Δ renamed stays stays (λ h. refl) a (family f results))

    takes_to-renamed : (ts : Spine) (depth : ℕ) (Γ Δ : Typing) → HasTypesRenamed ρ Γ Δ → (σ τ : Replacement) → GoesAlong ρ σ τ → (a result : LfType) →
        takes_to depth Δ τ (rename_spine (metavariables ρ) ts) (rename_type (metavariables ρ) a) (rename_type (metavariables ρ) result) ≡ takes_to depth Γ σ ts a result
    takes_to-renamed no_args depth Γ Δ renamed σ τ along a result =
        let ζ = metavariables ρ in
        ap (λ x. equal_types x (rename_type ζ result)) (replaced_in_type-renamed depth ρ a σ τ along) ∙ equal_types-renamed ρ injective (replaced_in_type depth σ a) result
    takes_to-renamed (arg t ts) depth Γ Δ renamed σ τ along (pi a b) result =
        let ζ = metavariables ρ in
        ap₂ (λ x y. x && y)
        (ap (is_typed Δ (rename ζ t)) (replaced_in_type-renamed depth ρ a σ τ along) ∙ is_typed-renamed t (replaced_in_type depth σ a) Γ Δ renamed)
        (ap (λ ξ. takes_to depth Δ (push (rename ζ t) τ) (rename_spine ζ ts) (rename_type ξ b) (rename_type ζ result)) (lifted-metavariables ρ)
        ∙ takes_to-renamed ts depth Γ Δ renamed (push t σ) (push (rename ζ t) τ) (Follows-push_metavariables ρ σ τ t along) b result)
    takes_to-renamed (arg t ts) depth Γ Δ renamed σ τ along (family f args) result = refl
