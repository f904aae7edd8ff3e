-- The laws of where heads occur, as they are stated.
use Rattle.std.proofs.Common.{sym, subst}
use Rattle.lf_definitions.specs.Occurrence.{OccursIn, OccursInSpine, OccursInType, OccursInContext}
use Rattle.lf_definitions.specs.Renaming.{rename, rename_spine, rename_type, rename_context}
use Rattle.head_laws.specs.OccurrenceLaws.{OccurrenceIsDecided, RenamingsAgree, OccurrencesAreRenamed, ReplacementsAgree, UnreplacedTermsStay, ResultsMention}
use Rattle.head_laws.proofs.Heads.{same_head-true, same_head-from}
use Rattle.head_laws.proofs.Occurrence.{OccursIn-true, OccursInSpine-true, occurs_in-from, occurs_in_spine-from, OccursInType-true, occurs_in_type-from, OccursInContext-true, occurs_in_context-from, OccursRigidly-true, OccursRigidlyInSpine-true, occurs_rigidly-from, occurs_rigidly_in_spine-from, rename-agree, rename_spine-agree, rename_type-agree, rename_context-agree, OccursIn-rename, OccursInSpine-rename_spine, OccursInType-rename_type, OccursInContext-rename_context, came_term, came_spine, came_type, came_context}
use Rattle.head_laws.proofs.Replacing.{Substituted-agree, SubstitutedSpine-agree, SubstitutedType-agree, SubstitutedContext-agree, SubstitutedSpine-stays, SubstitutedType-stays, SubstitutedContext-stays, mentioned, mentioned_spine, mentioned_type, mentioned_context}
use Rattle.lf_definitions.proofs.Renaming.{Substituted-stays}

pub occurrence_is_decided : OccurrenceIsDecided
occurrence_is_decided = (
  (λ h k. (same_head-true h k, same_head-from h k)),
  (λ h t. (OccursIn-true h t, λ o. occurs_in-from o)),
  (λ h ts. (OccursInSpine-true h ts, λ o. occurs_in_spine-from o)),
  (λ h a. (OccursInType-true h a, λ o. occurs_in_type-from o)),
  (λ h ctx. (OccursInContext-true h ctx, λ o. occurs_in_context-from o)),
  (λ h t. (OccursRigidly-true h t, λ o. occurs_rigidly-from o)),
  (λ h ts. (OccursRigidlyInSpine-true h ts, λ o. occurs_rigidly_in_spine-from o)),
)

pub renamings_agree : RenamingsAgree
renamings_agree ξ ζ = (
  (λ t agree. rename-agree t ξ ζ agree),
  (λ ts agree. rename_spine-agree ts ξ ζ agree),
  (λ a agree. rename_type-agree a ξ ζ agree),
  (λ ctx agree. rename_context-agree ctx ξ ζ agree),
)

pub occurrences_are_renamed : OccurrencesAreRenamed
occurrences_are_renamed ξ h = (
  (λ t. (came_term t ξ h, λ c. subst (λ x. OccursIn x (rename ξ t)) (sym c.2) (OccursIn-rename c.1 ξ))),
  (λ ts. (came_spine ts ξ h, λ c. subst (λ x. OccursInSpine x (rename_spine ξ ts)) (sym c.2) (OccursInSpine-rename_spine c.1 ξ))),
  (λ a. (came_type a ξ h, λ c. subst (λ x. OccursInType x (rename_type ξ a)) (sym c.2) (OccursInType-rename_type c.1 ξ))),
  (λ ctx. (came_context ctx ξ h, λ c. subst (λ x. OccursInContext x (rename_context ξ ctx)) (sym c.2) (OccursInContext-rename_context c.1 ξ))),
)

pub replacements_agree : ReplacementsAgree
replacements_agree σ τ = (
  (λ t r agree p. Substituted-agree p τ agree),
  (λ ts rs agree p. SubstitutedSpine-agree p τ agree),
  (λ a b agree p. SubstitutedType-agree p τ agree),
  (λ ctx results agree p. SubstitutedContext-agree p τ agree),
)

pub unreplaced_terms_stay : UnreplacedTermsStay
unreplaced_terms_stay σ = (
  (λ t stay. Substituted-agree (Substituted-stays t) σ (λ h o. sym (stay h o))),
  (λ ts stay. SubstitutedSpine-agree (SubstitutedSpine-stays ts) σ (λ h o. sym (stay h o))),
  (λ a stay. SubstitutedType-agree (SubstitutedType-stays a) σ (λ h o. sym (stay h o))),
  (λ ctx stay. SubstitutedContext-agree (SubstitutedContext-stays ctx) σ (λ h o. sym (stay h o))),
)

pub results_mention : ResultsMention
results_mention σ h = (
  (λ t r p. mentioned p h),
  (λ ts rs p. mentioned_spine p h),
  (λ a b p. mentioned_type p h),
  (λ ctx results p. mentioned_context p h),
)
