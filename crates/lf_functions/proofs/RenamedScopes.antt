-- Among goals with other numbers each head has, under its new number, the same shape.
use Rattle.std.proofs.Common.{◌≡◌, ℕ, zero, suc, Option, Some, List, [], ◌∷◌, map, refl, ap, ap₂, ◌∙◌}
use Rattle.std.specs.Prelude.{nat_eq, if◌then◌else◌}
use Rattle.std.proofs.lemmas.List.Elements.{All-nil, All-cons, All-head, All-tail}
use Rattle.lf_definitions.specs.Syntax.{LfHead, bound, constant, metavariable, LfAtom, atomic, Context, SimpleType, shape_of, shapes_of_types}
use Rattle.lf_definitions.specs.Renaming.{rename_context}
use Rattle.lf_definitions.specs.Shaping.{Scope, under, under_all, ShapedType, shape_of_metavariable}
use Rattle.lf_definitions.specs.ShapedGoals.{shapes_of_goals, scope_in}
use Rattle.lf_definitions.specs.Typing.{LfGoal, goal_type}
use Rattle.lf_definitions.specs.Signatures.{LfSignature}
use Rattle.lf_definitions.specs.Instantiation.{metavariables, rename_goal, IsInjective}
use Rattle.lf_definitions.proofs.Types.{shape_of-rename_type}
use Rattle.head_laws.proofs.Numbers.{nat_eq-map}
use Rattle.head_laws.proofs.Metavariables.{lifted-metavariables, goal_type-rename_goal}
use Rattle.head_laws.proofs.MetavariableLaws.{renamed_metavariables_keep_shapes}
use Rattle.unification.specs.Equations.{of_atoms, numbered_from}
use Rattle.unification.specs.Solutions.{ShapedEquation, ShapedEquations}
use Rattle.renamed_unification.specs.Laws.{rename_atom, rename_equation}
use Rattle.lf_functions.specs.EndingLaws.{rename_equations}

shapes_of_types-renamed : (ρ : ℕ → ℕ) (ctx : Context) → shapes_of_types (rename_context (metavariables ρ) ctx) ≡ shapes_of_types ctx
shapes_of_types-renamed ρ [] = refl
shapes_of_types-renamed ρ (a ∷ rest) =
    ap₂ (λ s shapes. s ∷ shapes) (shape_of-rename_type a (metavariables ρ)) (ap (λ ξ. shapes_of_types (rename_context ξ rest)) (lifted-metavariables ρ) ∙ shapes_of_types-renamed ρ rest)

metavariable_renamed : (ρ : ℕ → ℕ) → IsInjective ρ → (goals : List LfGoal) (g : ℕ) → shape_of_metavariable (shapes_of_goals (map (rename_goal ρ) goals)) (ρ g) ≡ shape_of_metavariable (shapes_of_goals goals) g
metavariable_renamed ρ injective [] g = refl
metavariable_renamed ρ injective (m ∷ goals) g =
    ap₂ (λ same s. if same then Some s else shape_of_metavariable (shapes_of_goals (map (rename_goal ρ) goals)) (ρ g)) (nat_eq-map ρ injective m.id g)
    (ap shape_of (goal_type-rename_goal ρ m) ∙ shape_of-rename_type (goal_type m) (metavariables ρ))
    ∙ ap (λ o. if nat_eq m.id g then Some (shape_of (goal_type m)) else o) (metavariable_renamed ρ injective goals g)

under_all-renamed : (shapes : List SimpleType) (ρ : ℕ → ℕ) (Γ Δ : Scope) → ((h : LfHead) → Δ (metavariables ρ h) ≡ Γ h) → (h : LfHead) → under_all shapes Δ (metavariables ρ h) ≡ under_all shapes Γ h
under_all-renamed [] ρ Γ Δ same h = same h
under_all-renamed (s ∷ shapes) ρ Γ Δ same h = under_all-renamed shapes ρ (under s Γ) (under s Δ) below h
  where
    below : (h : LfHead) → under s Δ (metavariables ρ h) ≡ under s Γ h
    below (bound zero) = refl
    below (bound (suc n)) = same (bound n)
    below (constant c) = same (constant c)
    below (metavariable g) = same (metavariable g)

pub scope_in-renamed : (ρ : ℕ → ℕ) → IsInjective ρ → (sig : LfSignature) (goals : List LfGoal) (ctx : Context) (h : LfHead) →
    scope_in sig (map (rename_goal ρ) goals) (rename_context (metavariables ρ) ctx) (metavariables ρ h) ≡ scope_in sig goals ctx h
scope_in-renamed ρ injective sig goals ctx h =
    ap (λ shapes. under_all shapes (scope_in sig (map (rename_goal ρ) goals) []) (metavariables ρ h)) (shapes_of_types-renamed ρ ctx)
    ∙ under_all-renamed (shapes_of_types ctx) ρ (scope_in sig goals []) (scope_in sig (map (rename_goal ρ) goals) []) outside h
  where
    outside : (h : LfHead) → scope_in sig (map (rename_goal ρ) goals) [] (metavariables ρ h) ≡ scope_in sig goals [] h
    outside (bound n) = refl
    outside (constant c) = refl
    outside (metavariable g) = metavariable_renamed ρ injective goals g

pub numbered_from-renamed : (ρ : ℕ → ℕ) (n : ℕ) (equations : List (LfAtom × LfAtom)) → map (rename_equation ρ) (numbered_from n equations) ≡ numbered_from n (rename_equations ρ equations)
numbered_from-renamed ρ n [] = refl
numbered_from-renamed ρ n (pair ∷ rest) = ap (λ later. of_atoms (n ∷ []) (rename_atom ρ pair.0) (rename_atom ρ pair.1) ∷ later) (numbered_from-renamed ρ (suc n) rest)

-- Equations are shaped where they are so once they are renamed.
module _ (ρ : ℕ → ℕ) (kinds : ℕ → Option SimpleType) (Γ Δ : Scope) (same : (h : LfHead) → Δ (metavariables ρ h) ≡ Γ h) where
  atom_renamed : (a : LfAtom) → ShapedType kinds Γ (atomic a) → ShapedType kinds Δ (atomic (rename_atom ρ a))
  atom_renamed a p = ((renamed_metavariables_keep_shapes ρ Γ Δ same).2 kinds (atomic a)).0 p

  atom_unrenamed : (a : LfAtom) → ShapedType kinds Δ (atomic (rename_atom ρ a)) → ShapedType kinds Γ (atomic a)
  atom_unrenamed a p = ((renamed_metavariables_keep_shapes ρ Γ Δ same).2 kinds (atomic a)).1 p

  pub equations_renamed : (n : ℕ) (equations : List (LfAtom × LfAtom)) → ShapedEquations kinds Γ (numbered_from n equations) → ShapedEquations kinds Δ (numbered_from n (rename_equations ρ equations))
  equations_renamed n [] shaped = All-nil (ShapedEquation kinds Δ)
  equations_renamed n (pair ∷ rest) shaped =
      let P = ShapedEquation kinds Γ in
      let e = of_atoms (n ∷ []) pair.0 pair.1 in
      let first = All-head P e (numbered_from (suc n) rest) shaped in
      All-cons (ShapedEquation kinds Δ) (of_atoms (n ∷ []) (rename_atom ρ pair.0) (rename_atom ρ pair.1)) (numbered_from (suc n) (rename_equations ρ rest))
      (atom_renamed pair.0 first.0, atom_renamed pair.1 first.1) (equations_renamed (suc n) rest (All-tail P e (numbered_from (suc n) rest) shaped))

  pub equations_unrenamed : (n : ℕ) (equations : List (LfAtom × LfAtom)) → ShapedEquations kinds Δ (numbered_from n (rename_equations ρ equations)) → ShapedEquations kinds Γ (numbered_from n equations)
  equations_unrenamed n [] shaped = All-nil (ShapedEquation kinds Γ)
  equations_unrenamed n (pair ∷ rest) shaped =
      let P = ShapedEquation kinds Δ in
      let e = of_atoms (n ∷ []) (rename_atom ρ pair.0) (rename_atom ρ pair.1) in
      let first = All-head P e (numbered_from (suc n) (rename_equations ρ rest)) shaped in
      All-cons (ShapedEquation kinds Γ) (of_atoms (n ∷ []) pair.0 pair.1) (numbered_from (suc n) rest)
      (atom_unrenamed pair.0 first.0, atom_unrenamed pair.1 first.1) (equations_unrenamed (suc n) rest (All-tail P e (numbered_from (suc n) (rename_equations ρ rest)) shaped))
