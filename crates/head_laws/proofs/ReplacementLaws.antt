-- The laws of replacements, as they are stated.
use Rattle.lf_definitions.proofs.Uniqueness.{unique_type}
use Rattle.lf_definitions.proofs.Types.{total_type}
use Rattle.head_laws.specs.ReplacementLaws.{TypesAndContextsHaveOneResult, ReplacementsCompose, GoalsAreInstantiatedAsTypes}
use Rattle.head_laws.proofs.Results.{unique_context, total_context, total_goal, unique_goal, compose_term, compose_spine, compose_type, compose_context, SubstitutedType-goal_type, InstantiatedGoal-goal_type}
use Rattle.lf_definitions.specs.Syntax.{atomic}
use Rattle.lf_definitions.proofs.ShapedGoals.{ShapedType-pis, ShapedContext-pis, ShapedType-under_pis}

pub types_and_contexts_have_one_result : TypesAndContextsHaveOneResult
types_and_contexts_have_one_result p kinds Γ Δ = (
  (λ σ goes a shaped. let r = total_type p shaped Δ σ goes in (r.0, r.1, (λ b q. unique_type q r.1), r.2)),
  (λ σ goes ctx shaped. let r = total_context p shaped Δ σ goes in (r.0, r.1, (λ other q. unique_context q r.1), r.2)),
  (λ σ goes g shaped. let r = total_goal p kinds Γ Δ σ g goes shaped in (r.0, r.1, (λ k q. unique_goal σ g k r.0 q r.1), r.2)),
)

pub replacements_compose : ReplacementsCompose
replacements_compose p q m Γ Δ Θ σ τ ρ goes goes_τ then goes_ρ = (
  compose_term p q m Γ Δ Θ σ τ ρ goes goes_τ then goes_ρ,
  compose_spine p q m Γ Δ Θ σ τ ρ goes goes_τ then goes_ρ,
  compose_type p q m Γ Δ Θ σ τ ρ goes goes_τ then goes_ρ,
  compose_context p q m Γ Δ Θ σ τ ρ goes goes_τ then goes_ρ,
)

pub goals_are_instantiated_as_types : GoalsAreInstantiatedAsTypes
goals_are_instantiated_as_types = (
  (λ σ g h. (λ p. (p.same_id, SubstitutedType-goal_type σ g h p), λ p. InstantiatedGoal-goal_type σ g h p.0 p.1)),
  (λ kinds Γ g. (λ p. ShapedType-pis g.context (atomic g.target) p.0 p.1, λ p. (ShapedContext-pis g.context (atomic g.target) p, ShapedType-under_pis g.context (atomic g.target) p))),
)
