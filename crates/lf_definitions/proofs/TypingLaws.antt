-- The laws of typing, as they are stated.
use Rattle.std.proofs.Common.{◌++◌, sym, subst}
use Rattle.lf_definitions.specs.Shaping.{ShapedType}
use Rattle.lf_definitions.specs.Signatures.{kinds_in, typing_in}
use Rattle.lf_definitions.specs.ShapedGoals.{kind_shapes_in, ShapedTyping}
use Rattle.lf_definitions.specs.TypingLaws.{FailuresExcludeDerivations, FirstFailuresAreUnique, ShapedChecksHaveAResult, FormedContextsAreShaped, RenamingsKeepWhatIsFormed, SignaturesGrow, EntriesAreFormed}
use Rattle.lf_definitions.proofs.Failures.{FailsTerm-Typed, FailsTypeFrom-Formed, FailsContextFrom-FormedContext, unique_path, unique_path_type, unique_path_context}
use Rattle.lf_definitions.proofs.Weakening.{Formed-rename, FormedContext-rename}
use Rattle.lf_definitions.proofs.Growth.{Typed-grown, Formed-grown, FormedContext-grown, TypesGrow-typing_in, KindsGrow-kinds_in, AllFormed, names_differ}
use Rattle.lf_definitions.proofs.ShapedGoals.{ShapedContext-FormedContext, ShapedSignature-FormedSignature, ShapedTyping-typing_in, shapes_of-typing_in}
use Rattle.lf_definitions.proofs.Decisions.{decide_term, decide_type, decide_context}

pub failures_exclude_derivations : FailuresExcludeDerivations
failures_exclude_derivations =
    ((λ Γ t a path fails typed. FailsTerm-Typed fails typed), (λ kinds Γ a path fails formed. FailsTypeFrom-Formed fails formed), (λ kinds Γ ctx child path fails formed. FailsContextFrom-FormedContext fails formed))

pub first_failures_are_unique : FirstFailuresAreUnique
first_failures_are_unique =
    ((λ Γ t a p q fails other. unique_path fails other), (λ kinds Γ a p q fails other. unique_path_type fails other), (λ kinds Γ ctx child p q fails other. unique_path_context fails other))

pub shaped_checks_have_a_result : ShapedChecksHaveAResult
shaped_checks_have_a_result sig goals ctx shaped_sig shaped_goals shaped_ctx =
    let Γ = typing_in sig goals ctx in
    let kinds = kinds_in sig in
    let shaped : ShapedTyping kinds Γ = ShapedTyping-typing_in sig goals ctx shaped_sig shaped_goals shaped_ctx in (
      (λ t a p. decide_term kinds Γ shaped t a (subst (λ Δ. ShapedType (kind_shapes_in sig) Δ a) (sym (shapes_of-typing_in sig goals ctx)) p)),
      (λ a. decide_type kinds Γ shaped a 0),
      (λ more child. decide_context kinds Γ shaped more child),
    )

pub formed_contexts_are_shaped : FormedContextsAreShaped
formed_contexts_are_shaped = ((λ kinds Γ ctx formed. ShapedContext-FormedContext formed), ShapedSignature-FormedSignature)

pub renamings_keep_what_is_formed : RenamingsKeepWhatIsFormed
renamings_keep_what_is_formed kinds closed v Γ Δ keeps = ((λ a formed. Formed-rename formed v Δ keeps closed), (λ ctx formed. FormedContext-rename formed v Δ keeps closed))

pub signatures_grow : SignaturesGrow
signatures_grow sig more goals ctx =
    let types = TypesGrow-typing_in sig more goals ctx in
    let kinds = KindsGrow-kinds_in sig more in
    let Δ = typing_in (sig ++ more) goals ctx in (
      (λ t a typed. Typed-grown typed Δ types),
      (λ a formed. Formed-grown formed (kinds_in (sig ++ more)) Δ kinds types),
      (λ rest formed. FormedContext-grown formed (kinds_in (sig ++ more)) Δ kinds types),
    )

pub entries_are_formed : EntriesAreFormed
entries_are_formed sig formed = (AllFormed formed, names_differ formed)
