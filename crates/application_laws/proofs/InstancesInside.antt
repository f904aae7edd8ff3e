-- Instances among goals are those among some of the goals, for what is shaped among these.
use Rattle.std.proofs.Common.{◌≡◌, ℕ, ◌≤◌, Bool, true, false, Option, List, [], ◌∷◌, ◌++◌, refl, arith}
use Rattle.std.specs.Prelude.{if◌then◌else◌}
use Rattle.lf_definitions.specs.Syntax.{LfTerm, LfAtom, atomic, SimpleType}
use Rattle.lf_definitions.specs.Shaping.{Scope, Shaped, ShapedType}
use Rattle.lf_definitions.specs.Replacements.{Goes}
use Rattle.lf_definitions.specs.Typing.{LfGoal}
use Rattle.lf_definitions.specs.Instantiation.{Assignment, instantiating}
use Rattle.lf_definitions.proofs.Totality.{Goes-more}
use Rattle.head_laws.specs.ReplacementLaws.{ShapedGoalOver}
use Rattle.lf_functions.specs.Instances.{goals_depth, instance_of, instance_of_atom, instance_of_goal}
use Rattle.lf_functions.proofs.Depths.{KnowsGoals, Goes-goals_depth}
use Rattle.lf_functions.proofs.Results.{InstancesInScope, instances_in_scope}
use Rattle.application_laws.specs.Conditions.{inside}

-- Goals inside need no greater depth than all.
pub inside_depth : (within : ℕ → Bool) (goals more : List LfGoal) → goals_depth (inside within goals ++ more) ≤ goals_depth (goals ++ more)
inside_depth within [] more = omega arith
inside_depth within (h ∷ rest) more = step (within h.id) (inside_depth within rest more)
  where
    step : (b : Bool) → goals_depth (inside within rest ++ more) ≤ goals_depth (rest ++ more) → goals_depth ((if b then h ∷ inside within rest else inside within rest) ++ more) ≤ goals_depth (h ∷ rest ++ more)
    step true less = omega (arith, less)
    step false less = omega (arith, less)

module _ (kinds : ℕ → Option SimpleType) (Γ Δ : Scope) (fewer goals : List LfGoal) (less : goals_depth fewer ≤ goals_depth goals) (knows : KnowsGoals fewer Γ) (σ : Assignment) (depth : ℕ) (goes : Goes depth Γ Δ (instantiating σ)) where
  enough : Goes (goals_depth fewer) Γ Δ (instantiating σ)
  enough = Goes-goals_depth fewer depth Γ Δ σ knows goes

  among_fewer : InstancesInScope fewer kinds Γ Δ σ
  among_fewer = instances_in_scope fewer kinds Γ Δ σ enough

  among_all : InstancesInScope goals kinds Γ Δ σ
  among_all = instances_in_scope goals kinds Γ Δ σ (Goes-more (goals_depth fewer) (goals_depth goals) Γ Δ (instantiating σ) less enough)

  pub same_instance : (t : LfTerm) (s : SimpleType) → Shaped Γ t s → instance_of goals σ t ≡ instance_of fewer σ t
  same_instance t s p = ((among_fewer.0 t s p).0 (instance_of goals σ t)).0 (((among_all.0 t s p).0 (instance_of goals σ t)).1 refl)

  pub same_atom : (a : LfAtom) → ShapedType kinds Γ (atomic a) → instance_of_atom goals σ a ≡ instance_of_atom fewer σ a
  same_atom a p = ((among_fewer.3 a p).0 (instance_of_atom goals σ a)).0 (((among_all.3 a p).0 (instance_of_atom goals σ a)).1 refl)

  pub same_goal : (h : LfGoal) → ShapedGoalOver kinds Γ h → instance_of_goal goals σ h ≡ instance_of_goal fewer σ h
  same_goal h p = ((among_fewer.5 h p).0 (instance_of_goal goals σ h)).0 (((among_all.5 h p).0 (instance_of_goal goals σ h)).1 refl)
