-- The laws of renaming metavariables, as they are stated.
use Rattle.std.proofs.Common.{ℕ, refl, sym, ◌∙◌, subst}
use Rattle.lf_definitions.specs.Syntax.{LfHead}
use Rattle.lf_definitions.specs.Renaming.{rename, rename_spine, rename_type, rename_context}
use Rattle.lf_definitions.specs.Occurrence.{OccursIn, OccursInSpine, OccursInType, OccursInContext}
use Rattle.lf_definitions.specs.Typing.{goal_type}
use Rattle.lf_definitions.specs.Substitution.{Substituted, SubstitutedSpine, SubstitutedType, SubstitutedContext}
use Rattle.lf_definitions.specs.Instantiation.{instantiating, metavariables, IsInjective}
use Rattle.lf_definitions.proofs.Renaming.{KeepsShapes, rename_inj, rename_spine_inj, Substituted-rename, SubstitutedSpine-rename_spine, SubstitutedType-rename_type, Shaped-rename, ShapedSpine-rename_spine}
use Rattle.lf_definitions.proofs.Types.{ShapedType-rename_type}
use Rattle.lf_definitions.proofs.Unrenaming.{ComesFrom, Shaped-unrenamed, ShapedSpine-unrenamed, ShapedType-unrenamed, ShapedContext-unrenamed}
use Rattle.head_laws.specs.MetavariableLaws.{ResultsOfRenamedTermsAreRenamed, InstantiationsAreRenamed, ResultsOfInstantiationAreRenamed, RenamedMetavariablesKeepShapes, TypingIsRenamed, FailuresAreRenamed, MetavariablesOccurRenamed, GoalTypesAreRenamed}
use Rattle.head_laws.proofs.Occurrence.{Came, OccursIn-rename, OccursInSpine-rename_spine, OccursInType-rename_type, OccursInContext-rename_context, came_term, came_spine, came_type, came_context}
use Rattle.head_laws.proofs.Unrenamed.{unrenamed_term, unrenamed_spine, unrenamed_type, unrenamed_context, SubstitutedContext-rename_context}
use Rattle.head_laws.proofs.Metavariables.{KeepsApart-metavariables, rename_type_inj, rename_context_inj, goal_type-rename_goal, Follows-instantiating, InstantiatedGoal-rename_goal, InstantiatedGoal-unrenamed, ShapedContext-rename_context}
use Rattle.head_laws.proofs.MetavariableTyping.{Typed-renamed, Typed-unrenamed, Formed-renamed, Formed-unrenamed, FormedContext-renamed, FormedContext-unrenamed}
use Rattle.head_laws.proofs.MetavariableFailures.{FailsTerm-renamed, FailsTerm-unrenamed, FailsTypeFrom-renamed, FailsTypeFrom-unrenamed, FailsContextFrom-renamed, FailsContextFrom-unrenamed}

pub results_of_renamed_terms_are_renamed : ResultsOfRenamedTermsAreRenamed
results_of_renamed_terms_are_renamed ξ ζ σ τ follows = (
  (λ t x p. unrenamed_term p ξ ζ σ follows t refl),
  (λ ts xs p. unrenamed_spine p ξ ζ σ follows ts refl),
  (λ a x p. unrenamed_type a ξ ζ σ τ follows p),
  (λ ctx xs p. unrenamed_context ctx ξ ζ σ τ follows p),
)

pub results_of_instantiation_are_renamed : ResultsOfInstantiationAreRenamed
results_of_instantiation_are_renamed ρ σ τ renamed =
    results_of_renamed_terms_are_renamed (metavariables ρ) (metavariables ρ) (instantiating σ) (instantiating τ) (Follows-instantiating ρ σ τ renamed)

pub instantiations_are_renamed : InstantiationsAreRenamed
instantiations_are_renamed ρ injective σ τ renamed =
    let ζ = metavariables ρ in
    let follows = Follows-instantiating ρ σ τ renamed in
    let apart = KeepsApart-metavariables ρ injective in
    let back = results_of_instantiation_are_renamed ρ σ τ renamed in (
      (λ t r. (λ p. Substituted-rename p ζ ζ (instantiating τ) follows, λ p. let q = back.0 t (rename ζ r) p in subst (Substituted (instantiating σ) t) (sym (rename_inj r q.0 ζ apart q.1)) q.2)),
      (λ ts rs. (λ p. SubstitutedSpine-rename_spine p ζ ζ (instantiating τ) follows, λ p. let q = back.1 ts (rename_spine ζ rs) p in subst (SubstitutedSpine (instantiating σ) ts) (sym (rename_spine_inj rs q.0 ζ apart q.1)) q.2)),
      (λ a b. (λ p. SubstitutedType-rename_type p ζ ζ (instantiating τ) follows, λ p. let q = back.2 a (rename_type ζ b) p in subst (SubstitutedType (instantiating σ) a) (sym (rename_type_inj ρ injective b q.0 q.1)) q.2)),
      (λ ctx results. (λ p. SubstitutedContext-rename_context p ζ ζ (instantiating τ) follows, λ p. let q = back.3 ctx (rename_context ζ results) p in subst (SubstitutedContext (instantiating σ) ctx) (sym (rename_context_inj ρ injective results q.0 q.1)) q.2)),
      (λ g h. (InstantiatedGoal-rename_goal ρ σ τ renamed g h, InstantiatedGoal-unrenamed ρ injective σ τ renamed g h)),
    )

pub renamed_metavariables_keep_shapes : RenamedMetavariablesKeepShapes
renamed_metavariables_keep_shapes ρ Γ Δ same =
    let ζ = metavariables ρ in
    let keeps : KeepsShapes ζ Γ Δ = λ h s e. same h ∙ e in
    let from : ComesFrom ζ Γ Δ = λ h s e. sym (same h) ∙ e in (
      (λ t s. (λ p. Shaped-rename p ζ Δ keeps, λ p. Shaped-unrenamed t ζ Γ Δ from p)),
      (λ ts s. (λ p. ShapedSpine-rename_spine p ζ Δ keeps, λ p. ShapedSpine-unrenamed ts ζ Γ Δ from p)),
      (λ kinds a. (λ p. ShapedType-rename_type p ζ Δ keeps, λ p. ShapedType-unrenamed a ζ Γ Δ from p)),
      (λ kinds ctx. (λ p. ShapedContext-rename_context p ζ Δ keeps, λ p. ShapedContext-unrenamed ctx ζ Γ Δ from p)),
    )

pub typing_is_renamed : TypingIsRenamed
typing_is_renamed ρ injective Γ Δ renamed = (
  (λ t a. (λ p. Typed-renamed p ρ Δ renamed, λ p. Typed-unrenamed t a ρ injective Γ Δ renamed p)),
  (λ kinds fixed a. (λ p. Formed-renamed p ρ Δ renamed fixed, λ p. Formed-unrenamed a ρ injective Γ Δ renamed fixed p)),
  (λ kinds fixed ctx. (λ p. FormedContext-renamed p ρ Δ renamed fixed, λ p. FormedContext-unrenamed ctx ρ injective Γ Δ renamed fixed p)),
)

pub failures_are_renamed : FailuresAreRenamed
failures_are_renamed ρ injective Γ Δ renamed = (
  (λ t a path. (λ p. FailsTerm-renamed p ρ injective Δ renamed, λ p. FailsTerm-unrenamed t a ρ injective Γ Δ renamed p)),
  (λ kinds fixed a child path. (λ p. FailsTypeFrom-renamed p ρ injective Δ renamed fixed, λ p. FailsTypeFrom-unrenamed a ρ injective Γ Δ renamed fixed p)),
  (λ kinds fixed ctx child path. (λ p. FailsContextFrom-renamed p ρ injective Δ renamed fixed, λ p. FailsContextFrom-unrenamed ctx ρ injective Γ Δ renamed fixed p)),
)

-- the head that came is the one that occurs
same_came : (ρ : ℕ → ℕ) → IsInjective ρ → (h : LfHead) (P : LfHead → Type 0) → Came P (metavariables ρ) (metavariables ρ h) → P h
same_came ρ injective h P came = subst P (sym (KeepsApart-metavariables ρ injective h came.0 came.2)) came.1

pub metavariables_occur_renamed : MetavariablesOccurRenamed
metavariables_occur_renamed ρ injective h =
    let ζ = metavariables ρ in (
      (λ t. (λ o. same_came ρ injective h (λ k. OccursIn k t) (came_term t ζ (ζ h) o), λ o. OccursIn-rename o ζ)),
      (λ ts. (λ o. same_came ρ injective h (λ k. OccursInSpine k ts) (came_spine ts ζ (ζ h) o), λ o. OccursInSpine-rename_spine o ζ)),
      (λ a. (λ o. same_came ρ injective h (λ k. OccursInType k a) (came_type a ζ (ζ h) o), λ o. OccursInType-rename_type o ζ)),
      (λ ctx. (λ o. same_came ρ injective h (λ k. OccursInContext k ctx) (came_context ctx ζ (ζ h) o), λ o. OccursInContext-rename_context o ζ)),
      (λ g. (
        (λ o. same_came ρ injective h (λ k. OccursInType k (goal_type g)) (came_type (goal_type g) ζ (ζ h) (subst (OccursInType (ζ h)) (goal_type-rename_goal ρ g) o))),
        (λ o. subst (OccursInType (ζ h)) (sym (goal_type-rename_goal ρ g)) (OccursInType-rename_type o ζ)),
      )),
    )

pub goal_types_are_renamed : GoalTypesAreRenamed
goal_types_are_renamed = goal_type-rename_goal
