-- The laws of assignments, as they are stated.
use Rattle.std.proofs.Common.{sym, ◌∙◌, ◌+◌, ◌↔◌, length}
use Rattle.lf_definitions.specs.Instantiation.{instantiating}
use Rattle.lf_definitions.specs.Shaping.{under_all}
use Rattle.lf_definitions.specs.Laws.{image}
use Rattle.head_laws.specs.AssignmentLaws.{AssignmentsCompose, AssignmentsHaveAComposite, InstantiationGoesAlongWithSubstitution}
use Rattle.lf_definitions.specs.Syntax.{atomic}
use Rattle.lf_definitions.specs.Typing.{goal_type}
use Rattle.lf_definitions.proofs.ShapedGoals.{ShapedType-pis}
use Rattle.head_laws.proofs.Results.{SubstitutedType-goal_type, InstantiatedGoal-goal_type, compose_term, compose_spine, compose_type, compose_context}
use Rattle.head_laws.proofs.Known.{Goes-then, compose_known_term, compose_known_spine, compose_known_type, compose_known_context}
use Rattle.head_laws.proofs.Assignments.{IsThenOn-after, after_exists, substituting, size_of_inner, goes_list, goes_after, goes_before, goes_later, goes_together, list_then, then_list}

pub assignments_compose : AssignmentsCompose
assignments_compose p q Γ Δ Θ σ τ ρ goes goes_τ after =
    let then = IsThenOn-after p Γ Δ σ τ ρ goes after in (
      compose_known_term p q Γ Δ Θ (instantiating σ) (instantiating τ) (instantiating ρ) goes goes_τ then,
      compose_known_spine p q Γ Δ Θ (instantiating σ) (instantiating τ) (instantiating ρ) goes goes_τ then,
      compose_known_type p q Γ Δ Θ (instantiating σ) (instantiating τ) (instantiating ρ) goes goes_τ then,
      compose_known_context p q Γ Δ Θ (instantiating σ) (instantiating τ) (instantiating ρ) goes goes_τ then,
      (λ kinds g h k shaped r.
          let c = compose_known_type p q Γ Δ Θ (instantiating σ) (instantiating τ) (instantiating ρ) goes goes_τ then kinds (goal_type g) (goal_type h) (goal_type k)
          (ShapedType-pis g.context (atomic g.target) shaped.0 shaped.1) (SubstitutedType-goal_type σ g h r) in (
            (λ x. InstantiatedGoal-goal_type ρ g k (x.same_id ∙ r.same_id) (c.0 (SubstitutedType-goal_type τ h k x))),
            (λ x. InstantiatedGoal-goal_type τ h k (x.same_id ∙ sym r.same_id) (c.1 (SubstitutedType-goal_type ρ g k x))),
          )),
    )

pub assignments_have_a_composite : AssignmentsHaveAComposite
assignments_have_a_composite p q Γ Δ Θ σ τ goes goes_τ = (
  ((λ g. (after_exists p q Γ Δ Θ σ τ goes goes_τ g).0), (λ g s e. (after_exists p q Γ Δ Θ σ τ goes goes_τ g).1 s e)),
  (λ ρ after. Goes-then p q Γ Δ Θ (instantiating σ) (instantiating τ) (instantiating ρ) goes goes_τ (IsThenOn-after p Γ Δ σ τ ρ goes after)),
)

joined_ways : {A B C : Type 0} → A ↔ C → B ↔ C → A ↔ B
joined_ways first second = (λ a. second.1 (first.0 a), λ b. first.1 (second.0 b))

pub instantiation_goes_along_with_substitution : InstantiationGoesAlongWithSubstitution
instantiation_goes_along_with_substitution σ closed p outer target goes inner local sub later shaped put =
    let m = size_of_inner σ closed p outer target goes inner local sub later shaped put in
    let ι = instantiating σ in
    let ρ = substituting σ closed p outer target goes inner local sub later shaped put in
    let n = length local in
    let Γ = under_all local (under_all inner outer) in
    let Δ = under_all local outer in
    let Ξ = under_all local (under_all inner target) in
    let Θ = under_all local target in
    let a = goes_list σ closed p outer target goes inner local sub later shaped put in
    let b = goes_after σ closed p outer target goes inner local sub later shaped put in
    let c = goes_before σ closed p outer target goes inner local sub later shaped put in
    let d = goes_later σ closed p outer target goes inner local sub later shaped put in
    let e = goes_together σ closed p outer target goes inner local sub later shaped put in
    let v = list_then σ closed p outer target goes inner local sub later shaped put in
    let w = then_list σ closed p outer target goes inner local sub later shaped put in (
      (λ s t u r x shaped_t instantiated substituted. joined_ways
          (compose_term m p (m + p) Γ Δ Θ (image sub n) ι ρ a b v e t r x s shaped_t substituted)
          (compose_term p m (m + p) Γ Ξ Θ ι (image later n) ρ c d w e t u x s shaped_t instantiated)),
      (λ s ts us rs xs shaped_ts instantiated substituted. joined_ways
          (compose_spine m p (m + p) Γ Δ Θ (image sub n) ι ρ a b v e ts rs xs s shaped_ts substituted)
          (compose_spine p m (m + p) Γ Ξ Θ ι (image later n) ρ c d w e ts us xs s shaped_ts instantiated)),
      (λ kinds t u r x shaped_t instantiated substituted. joined_ways
          (compose_type m p (m + p) Γ Δ Θ (image sub n) ι ρ a b v e kinds t r x shaped_t substituted)
          (compose_type p m (m + p) Γ Ξ Θ ι (image later n) ρ c d w e kinds t u x shaped_t instantiated)),
      (λ kinds ctx first second last shaped_ctx instantiated substituted. joined_ways
          (compose_context m p (m + p) Γ Δ Θ (image sub n) ι ρ a b v e kinds ctx second last shaped_ctx substituted)
          (compose_context p m (m + p) Γ Ξ Θ ι (image later n) ρ c d w e kinds ctx first last shaped_ctx instantiated)),
    )
