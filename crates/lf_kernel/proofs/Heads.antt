-- The types of heads at a place.
use Rattle.std.proofs.Common.{◌≡◌, ℕ, zero, suc, ◌≤◌, Option, Some, None, option_map, Bool, true, false, if◌then◌else◌, nat_eq, List, [], ◌∷◌, length, refl, ap, ◌∙◌, arith}
use Rattle.lf_definitions.specs.Syntax.{bound, constant, metavariable, LfType, Context}
use Rattle.lf_definitions.specs.Renaming.{raise_type}
use Rattle.lf_definitions.specs.Typing.{Typing, with_variable, with_context, LfGoal, goal_type, type_at, type_of_metavariable, typed_globals}
use Rattle.lf_definitions.proofs.Variables.{with_context-constant, with_context-metavariable}
use Rattle.lf_terms.specs.GoalNumbers.{goal_numbered}
use Rattle.lf_terms.specs.Types.{types_of}
use Rattle.lf_kernel.specs.declared.local_context.LocalContext.{LocalContext}
use Rattle.lf_kernel.specs.declared.local_context.LocalContext.TheVariants.{Closed, Under'}
use Rattle.lf_kernel.specs.LocalContexts.{typing_under, no_heads}

pub no_constant : (types : List LfType) (k : ℕ) → length types ≤ k → ◌≡◌ {A = Option LfType} None (type_at types k)
no_constant [] k past = refl
no_constant (a ∷ types) zero past = absurd (omega arith)
no_constant (a ∷ types) (suc k) past = no_constant types k (omega arith)

-- Variables don't depend on what is known of other heads.
abbrev SameVariables : Typing → Typing → Type 0
SameVariables Γ Δ = (n : ℕ) → Γ (bound n) ≡ Δ (bound n)

SameVariables-with_variable : (Γ Δ : Typing) (a : LfType) → SameVariables Γ Δ → SameVariables (with_variable a Γ) (with_variable a Δ)
SameVariables-with_variable Γ Δ a same zero = refl
SameVariables-with_variable Γ Δ a same (suc n) = ap (option_map raise_type) (same n)

SameVariables-with_context : (ctx : Context) (Γ Δ : Typing) → SameVariables Γ Δ → SameVariables (with_context ctx Γ) (with_context ctx Δ)
SameVariables-with_context [] Γ Δ same = same
SameVariables-with_context (a ∷ ctx) Γ Δ same = SameVariables-with_context ctx (with_variable a Γ) (with_variable a Δ) (SameVariables-with_variable Γ Δ a same)

same_variables : (scope : LocalContext) (types : List LfType) (goals : List LfGoal) → SameVariables (typing_under no_heads scope) (typing_under (typed_globals types goals) scope)
same_variables Closed types goals = λ n. refl
same_variables (Under' binders p outside) types goals =
    SameVariables-with_context (types_of binders.now) (typing_under no_heads outside) (typing_under (typed_globals types goals) outside) (same_variables outside types goals)

pub typing_under-bound : (scope : LocalContext) (types : List LfType) (goals : List LfGoal) (n : ℕ) → typing_under no_heads scope (bound n) ≡ typing_under (typed_globals types goals) scope (bound n)
typing_under-bound scope types goals n = same_variables scope types goals n

pub typing_under-constant : (scope : LocalContext) (Γ : Typing) (c : ℕ) → typing_under Γ scope (constant c) ≡ Γ (constant c)
typing_under-constant Closed Γ c = refl
typing_under-constant (Under' binders p outside) Γ c = with_context-constant (types_of binders.now) (typing_under Γ outside) c ∙ typing_under-constant outside Γ c

pub typing_under-metavariable : (scope : LocalContext) (Γ : Typing) (g : ℕ) → typing_under Γ scope (metavariable g) ≡ Γ (metavariable g)
typing_under-metavariable Closed Γ g = refl
typing_under-metavariable (Under' binders p outside) Γ g = with_context-metavariable (types_of binders.now) (typing_under Γ outside) g ∙ typing_under-metavariable outside Γ g

-- the type of the first goal of a number
pub goal_known : (goals : List LfGoal) (n : ℕ) (found : Option LfGoal) → found ≡ goal_numbered goals n → option_map goal_type found ≡ type_of_metavariable goals n
goal_known goals n found is = ap (option_map goal_type) is ∙ first_type goals
  where
    at_test : (g : LfGoal) (rest : List LfGoal) (b : Bool) → option_map goal_type (goal_numbered rest n) ≡ type_of_metavariable rest n →
        option_map goal_type (if b then Some g else goal_numbered rest n) ≡ (if b then Some (goal_type g) else type_of_metavariable rest n)
    at_test g rest true e = refl
    at_test g rest false e = e

    first_type : (goals : List LfGoal) → option_map goal_type (goal_numbered goals n) ≡ type_of_metavariable goals n
    first_type [] = refl
    first_type (g ∷ rest) = at_test g rest (nat_eq g.id n) (first_type rest)
