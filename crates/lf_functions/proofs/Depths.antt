-- The depth that is computed from goals is enough for every assignment among them.
use Rattle.std.proofs.Common.{◌≡◌, ℕ, ◌+◌, suc, ◌<◌, Some, List, [], ◌∷◌, map, refl, sym, ap, ap₂, ◌∙◌, arith}
use Rattle.std.specs.Prelude.{Bool, true, false, nat_eq, if◌then◌else◌}
use Rattle.lf_definitions.specs.Syntax.{bound, constant, metavariable, SimpleType, shape_of, shape_size, shapes_of_types, Context}
use Rattle.lf_definitions.specs.Shaping.{Scope, under_all, shape_of_metavariable}
use Rattle.lf_definitions.specs.ShapedGoals.{shapes_of_goals, scope_in}
use Rattle.lf_definitions.specs.Signatures.{LfSignature}
use Rattle.lf_definitions.specs.Substitution.{Image, stays}
use Rattle.lf_definitions.specs.Replacements.{Fits, fits_stays, fits_becomes, Goes}
use Rattle.lf_definitions.specs.Typing.{LfGoal, goal_type}
use Rattle.lf_definitions.specs.Instantiation.{Assignment, instantiating, metavariables, rename_goal}
use Rattle.lf_definitions.proofs.Types.{shape_of-rename_type}
use Rattle.head_laws.proofs.Metavariables.{goal_type-rename_goal}
use Rattle.unification.proofs.Spreading.{under_all-metavariable}
use Rattle.lf_functions.specs.Instances.{goals_depth}

-- each goal's shape is smaller
pub shape_below_depth : (goals : List LfGoal) (g : ℕ) (s : SimpleType) → shape_of_metavariable (shapes_of_goals goals) g ≡ Some s → shape_size s < goals_depth goals
shape_below_depth [] g s e = absurd cc
shape_below_depth (m ∷ goals) g s e = at_test (nat_eq m.id g) e (λ e. shape_below_depth goals g s e)
  where
    first : Some (shape_of (goal_type m)) ≡ Some s → shape_size s < goals_depth (m ∷ goals)
    first e = let same : shape_of (goal_type m) ≡ s = cc in rw (← same) (omega arith)

    at_test : (b : Bool) → (if b then Some (shape_of (goal_type m)) else shape_of_metavariable (shapes_of_goals goals) g) ≡ Some s →
        (shape_of_metavariable (shapes_of_goals goals) g ≡ Some s → shape_size s < goals_depth goals) → shape_size s < goals_depth (m ∷ goals)
    at_test true e rest = first e
    at_test false e rest = omega (arith, rest e)

fits_anyhow : {Δ : Scope} {p q : ℕ} {i : Image} {s : SimpleType} → shape_size s < q → Fits Δ p i s → Fits Δ q i s
fits_anyhow small (fits_stays e) = fits_stays e
fits_anyhow small (fits_becomes shaped less) = fits_becomes shaped small

-- In a scope the metavariables have shapes of goals.
abbrev pub KnowsGoals : List LfGoal → Scope → Type 0
KnowsGoals goals Γ = (g : ℕ) → Γ (metavariable g) ≡ shape_of_metavariable (shapes_of_goals goals) g

pub KnowsGoals-scope_in : (sig : LfSignature) (goals : List LfGoal) (ctx : Context) → KnowsGoals goals (scope_in sig goals ctx)
KnowsGoals-scope_in sig goals ctx g = under_all-metavariable (shapes_of_types ctx) (scope_in sig goals []) g

pub KnowsGoals-under_all : (goals : List LfGoal) (shapes : List SimpleType) (Γ : Scope) → KnowsGoals goals Γ → KnowsGoals goals (under_all shapes Γ)
KnowsGoals-under_all goals shapes Γ knows g = under_all-metavariable shapes Γ g ∙ knows g

pub Goes-goals_depth : (goals : List LfGoal) (depth : ℕ) (Γ others : Scope) (σ : Assignment) → KnowsGoals goals Γ → Goes depth Γ others (instantiating σ) → Goes (goals_depth goals) Γ others (instantiating σ)
Goes-goals_depth goals depth Γ others σ knows goes (bound n) s e = fits_kept (goes (bound n) s e)
  where
    fits_kept : Fits others depth (stays (bound n)) s → Fits others (goals_depth goals) (stays (bound n)) s
    fits_kept (fits_stays e) = fits_stays e
Goes-goals_depth goals depth Γ others σ knows goes (constant c) s e = fits_kept (goes (constant c) s e)
  where
    fits_kept : Fits others depth (stays (constant c)) s → Fits others (goals_depth goals) (stays (constant c)) s
    fits_kept (fits_stays e) = fits_stays e
Goes-goals_depth goals depth Γ others σ knows goes (metavariable g) s e = fits_anyhow (shape_below_depth goals g s (sym (knows g) ∙ e)) (goes (metavariable g) s e)

-- Goals with other numbers have the same depth.
pub goals_depth-renamed : (ρ : ℕ → ℕ) (goals : List LfGoal) → goals_depth (map (rename_goal ρ) goals) ≡ goals_depth goals
goals_depth-renamed ρ [] = refl
goals_depth-renamed ρ (m ∷ goals) =
    ap₂ (λ s n. suc (shape_size s + n)) (ap shape_of (goal_type-rename_goal ρ m) ∙ shape_of-rename_type (goal_type m) (metavariables ρ)) (goals_depth-renamed ρ goals)
