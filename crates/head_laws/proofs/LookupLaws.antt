-- The laws of what typing looks up, as they are stated.
use Rattle.std.proofs.Common.{◌≡◌, List, refl, sym}
use Rattle.lf_definitions.specs.Syntax.{LfHead, metavariable, Context}
use Rattle.lf_definitions.specs.Occurrence.{OccursIn, OccursInType, OccursInContext}
use Rattle.lf_definitions.specs.Typing.{LfGoal, typed_globals}
use Rattle.lf_definitions.specs.Signatures.{LfSignature, constant_types, typing_in}
use Rattle.head_laws.specs.LookupLaws.{TypingLooksUpWhatOccurs, TypedHeadsAreKnown, GoalsAgree, GoalsMayChange}
use Rattle.head_laws.proofs.Lookups.{Typed-agree, Formed-agree, FormedContext-agree, FailsTerm-agree, FailsTypeFrom-agree, FailsContextFrom-agree, has_type_term, has_type_type, has_type_context, agree_in}

pub typing_looks_up_what_occurs : TypingLooksUpWhatOccurs
typing_looks_up_what_occurs Γ Δ = (
  (λ t a agree p. Typed-agree p Δ agree),
  (λ kinds a agree p. Formed-agree p Δ agree),
  (λ kinds ctx agree p. FormedContext-agree p Δ agree),
  (λ t a path agree p. FailsTerm-agree p Δ agree),
  (λ kinds a child path agree p. FailsTypeFrom-agree p Δ agree),
  (λ kinds ctx child path agree p. FailsContextFrom-agree p Δ agree),
)

pub typed_heads_are_known : TypedHeadsAreKnown
typed_heads_are_known Γ h = (
  (λ t a p. has_type_term p h),
  (λ kinds a p. has_type_type p h),
  (λ kinds ctx p. has_type_context p h),
)

-- The heads of which `P` holds have the same types among both lists of goals.
goals_agree : (sig : LfSignature) (goals other : List LfGoal) (ctx : Context) (P : LfHead → Type 0) → GoalsAgree goals other (λ g. P (metavariable g)) →
    (h : LfHead) → P h → typing_in sig goals ctx h ≡ typing_in sig other ctx h
goals_agree sig goals other ctx P agree = agree_in ctx (typed_globals (constant_types sig) goals) (typed_globals (constant_types sig) other) (λ n. refl) (λ c. refl) P agree

pub goals_may_change : GoalsMayChange
goals_may_change sig goals other ctx =
    let Γ = typing_in sig goals ctx in
    let Δ = typing_in sig other ctx in (
      (λ t agree.
          let there = goals_agree sig goals other ctx (λ h. OccursIn h t) agree in
          let back = λ (h : LfHead) (o : OccursIn h t). sym (there h o) in
          ((λ a. (λ p. Typed-agree p Δ there, λ p. Typed-agree p Γ back)), (λ a path. (λ p. FailsTerm-agree p Δ there, λ p. FailsTerm-agree p Γ back)))),
      (λ a agree.
          let there = goals_agree sig goals other ctx (λ h. OccursInType h a) agree in
          let back = λ (h : LfHead) (o : OccursInType h a). sym (there h o) in
          ((λ p. Formed-agree p Δ there, λ p. Formed-agree p Γ back), (λ child path. (λ p. FailsTypeFrom-agree p Δ there, λ p. FailsTypeFrom-agree p Γ back)))),
      (λ more agree.
          let there = goals_agree sig goals other ctx (λ h. OccursInContext h more) agree in
          let back = λ (h : LfHead) (o : OccursInContext h more). sym (there h o) in
          ((λ p. FormedContext-agree p Δ there, λ p. FormedContext-agree p Γ back), (λ child path. (λ p. FailsContextFrom-agree p Δ there, λ p. FailsContextFrom-agree p Γ back)))),
    )
