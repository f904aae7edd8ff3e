-- The further laws of what replacements make of terms, as they are stated.
use Rattle.std.proofs.Common.{◌∙◌}
use Rattle.lf_definitions.specs.Substitution.{stays}
use Rattle.lf_functions.specs.ReplacingLaws.{ReplacedGoesPartByPart, ReplacedKeepsShapes, ReplacedIsRenamed, ReplacedLooksAtWhatOccurs, UnreplacedIsTheSame}
use Rattle.lf_functions.proofs.Renamed.{replaced-renamed, replaced_in_spine-renamed, replaced_in_type-renamed, replaced_in_atom-renamed, replaced_in_context-renamed}
use Rattle.lf_functions.proofs.Parts.{replaced-lam, replaced-at, replaced_in_spine-no_args, replaced_in_spine-arg, replaced_in_type-pi, replaced_in_type-family, replaced_in_type-atomic, replaced_in_context-empty, replaced_in_context-entry, shape_of-replaced_in_type, shapes_of_types-replaced_in_context, length-replaced_in_context}
use Rattle.lf_functions.proofs.Agreement.{replaced-agree, replaced_in_spine-agree, replaced_in_type-agree, replaced_in_atom-agree, replaced_in_context-agree, replaced-stays, replaced_in_spine-stays, replaced_in_type-stays, replaced_in_atom-stays, replaced_in_context-stays}

pub replaced_goes_part_by_part : ReplacedGoesPartByPart
replaced_goes_part_by_part depth σ = (
  replaced-lam depth σ,
  replaced-at depth σ,
  replaced_in_spine-no_args depth σ,
  replaced_in_spine-arg depth σ,
  replaced_in_type-pi depth σ,
  replaced_in_type-family depth σ,
  replaced_in_type-atomic depth σ,
  replaced_in_context-empty depth σ,
  replaced_in_context-entry depth σ,
)

pub replaced_keeps_shapes : ReplacedKeepsShapes
replaced_keeps_shapes depth σ = (shape_of-replaced_in_type depth σ, shapes_of_types-replaced_in_context depth σ, length-replaced_in_context depth σ)

pub replaced_is_renamed : ReplacedIsRenamed
replaced_is_renamed depth ρ σ τ along = (
  (λ t. replaced-renamed depth ρ t σ τ along),
  (λ ts. replaced_in_spine-renamed depth ρ ts σ τ along),
  (λ a. replaced_in_type-renamed depth ρ a σ τ along),
  (λ a. replaced_in_atom-renamed depth ρ a σ τ along),
  (λ ctx. replaced_in_context-renamed depth ρ ctx σ τ along),
)

pub replaced_looks_at_what_occurs : ReplacedLooksAtWhatOccurs
replaced_looks_at_what_occurs depth σ τ = (
  (λ t agree. replaced-agree depth t σ τ agree),
  (λ ts agree. replaced_in_spine-agree depth ts σ τ agree),
  (λ a agree. replaced_in_type-agree depth a σ τ agree),
  (λ a agree. replaced_in_atom-agree depth a σ τ agree),
  (λ ctx agree. replaced_in_context-agree depth ctx σ τ agree),
)

pub unreplaced_is_the_same : UnreplacedIsTheSame
unreplaced_is_the_same depth σ = (
  (λ t same. replaced-agree depth t σ stays same ∙ replaced-stays depth t),
  (λ ts same. replaced_in_spine-agree depth ts σ stays same ∙ replaced_in_spine-stays depth ts),
  (λ a same. replaced_in_type-agree depth a σ stays same ∙ replaced_in_type-stays depth a),
  (λ a same. replaced_in_atom-agree depth a σ stays same ∙ replaced_in_atom-stays depth a),
  (λ ctx same. replaced_in_context-agree depth ctx σ stays same ∙ replaced_in_context-stays depth ctx),
)
