-- The laws of typing under replacements, as they are stated.
use Rattle.std.proofs.Common.{length}
use Rattle.lf_definitions.specs.Typing.{with_context, shapes_of}
use Rattle.lf_definitions.specs.Syntax.{base, arrows, shapes_of_types, shape_size}
use Rattle.lf_definitions.specs.Laws.{image}
use Rattle.lf_definitions.proofs.Totality.{total}
use Rattle.lf_definitions.proofs.Types.{total_type}
use Rattle.lf_definitions.proofs.Typing.{Shaped-Typed}
use Rattle.typing_laws.specs.Laws.{ReplacementsKeepTypes, TypedTermsHaveResults, ReplacementsKeepWhatIsFormed, SubstitutionsKeepTypes, SubstitutionsKeepWhatIsFormed}
use Rattle.typing_laws.proofs.TypedReplacements.{Goes-GoesTyped}
use Rattle.typing_laws.proofs.Placing.{KeepsKinds-globals, image_keeps, image_goes}
use Rattle.typing_laws.proofs.Keeping.{Typed-Substituted, TypedSpine-SubstitutedSpine}
use Rattle.typing_laws.proofs.KeepingFormed.{Formed-SubstitutedType, FormedContext-SubstitutedContext}

pub replacements_keep_types : ReplacementsKeepTypes
replacements_keep_types kinds Γ Δ p σ shaped_Γ shaped_Δ goes = (
  Typed-Substituted kinds p Γ Δ σ shaped_Γ shaped_Δ goes,
  λ ts vs bs cs shaped typed binders put. TypedSpine-SubstitutedSpine kinds p typed Δ σ shaped_Γ shaped_Δ goes shaped binders put,
)

pub typed_terms_have_results : TypedTermsHaveResults
typed_terms_have_results kinds Γ Δ p σ goes t a shaped typed =
    let shapes = Goes-GoesTyped p Γ Δ σ goes in
    let r = total p (Shaped-Typed typed) (shapes_of Δ) σ shapes in
    let c = total_type p shaped (shapes_of Δ) σ shapes in
    ((r.0, r.1), (c.0, c.1))

pub replacements_keep_what_is_formed : ReplacementsKeepWhatIsFormed
replacements_keep_what_is_formed kinds Γ Δ p σ shaped_Γ shaped_Δ goes keeps = (
  λ a c formed result. Formed-SubstitutedType kinds p formed Δ σ shaped_Γ shaped_Δ goes keeps result,
  λ ctx more formed result. FormedContext-SubstitutedContext kinds p formed Δ σ shaped_Γ shaped_Δ goes keeps result,
)

pub substitutions_keep_types : SubstitutionsKeepTypes
substitutions_keep_types kinds Γ inner local placed sub put =
    let goes = image_goes kinds Γ put.outside put.of_inner put.of_local put.typed put.placing in
    replacements_keep_types kinds (with_context local (with_context inner Γ)) (with_context placed Γ) (shape_size (arrows (shapes_of_types inner) base)) (image sub (length local)) goes.0 goes.1 goes.2

pub substitutions_keep_what_is_formed : SubstitutionsKeepWhatIsFormed
substitutions_keep_what_is_formed kinds Γ inner local placed sub put =
    let goes = image_goes kinds Γ put.outside put.of_inner put.of_local put.typed put.placing in
    replacements_keep_what_is_formed kinds (with_context local (with_context inner Γ)) (with_context placed Γ) (shape_size (arrows (shapes_of_types inner) base)) (image sub (length local)) goes.0 goes.1 goes.2
    (KeepsKinds-globals kinds Γ (image sub (length local)) put.outside (image_keeps sub (length local)))
