-- The laws of renaming and of substitution, as they are stated.
use Rattle.std.proofs.Common.{◌≡◌, ℕ, suc, ◌+◌, ◌-◌, ◌<◌, ◌↔◌, ◌⊎◌, inl, inr, List, [], length, sym, ap, ◌∙◌, subst, arith}
use Rattle.lf_definitions.specs.Syntax.{LfHead, bound, Spine, SimpleType, base, arrows, shape_size, args_count}
use Rattle.lf_definitions.specs.Renaming.{rename, next_by}
use Rattle.lf_definitions.specs.Shaping.{Scope, under_all, ShapedList}
use Rattle.lf_definitions.specs.Substitution.{Image, stays, becomes, rename_image, up_by, push_all, Substituted}
use Rattle.lf_definitions.specs.Expansion.{eta}
use Rattle.lf_definitions.specs.Laws.{image, ImagesAreByNumber, ShapedSubstitutionsHaveOneResult, SubstitutionsCompose, SubstitutionsAreSimultaneous, OwnVariablesChangeNothing, EtaVariablesBecomeTheirTerms, EtaFormsRename, EtaFormsAreShaped, RenamingsCompose, RenamingsKeepShapes, RenamingsKeepSizes, RenamingsAreInjective, SubstitutionsAreRenamed}
use Rattle.lf_definitions.specs.Laws.{RenamingsKeepTypes, TypedTermsAreShaped}
use Rattle.lf_definitions.proofs.Uniqueness.{unique}
use Rattle.lf_definitions.proofs.Typing.{Shaped-Typed, ShapedType-Formed}
use Rattle.lf_definitions.proofs.Weakening.{Typed-rename}
use Rattle.lf_definitions.proofs.Renaming.{rename-rename, rename-same_head, Shaped-rename, Substituted-rename, term_size-rename, rename_inj}
use Rattle.lf_definitions.specs.Replacements.{Goes}
use Rattle.lf_definitions.proofs.Totality.{Goes-stays, total, ShapedSpine-SubstitutedSpine}
use Rattle.lf_definitions.specs.Replacements.{IsThen}
use Rattle.lf_definitions.proofs.Composition.{IsThen-before, IsThen-after}
use Rattle.lf_definitions.proofs.Expansion.{Shaped-eta, Alike, alike_stays, alike_eta, unit, Substituted-eta_put}
use Rattle.lf_definitions.proofs.Telescopes.{up_by-length-append, push_all-joined, args_count-length, Shaped-arg_at, Goes-push_all, Goes-up_by, IsThen-up_by, IsThen-push_all_before, IsThen-push_all_after, composes_iff, up_by-bound_small, up_by-bound, push_all-bound, push_all-bound_greater, push_all-constant, push_all-metavariable, up_by-constant, up_by-metavariable, Shaped-raise_by, own_variables_unit, next_by-bound, next_by-constant, next_by-metavariable}

pub images_are_by_number : ImagesAreByNumber
images_are_by_number sub d =
    let σ = push_all sub stays in (
      (λ i small. up_by-bound_small d i σ small),
      (λ k u e. up_by-bound d (args_count sub - suc k) σ ∙ ap (rename_image (next_by d)) (push_all-bound sub k u stays e)),
      (λ i. up_by-bound d (args_count sub + i) σ ∙ ap (rename_image (next_by d)) (push_all-bound_greater sub i stays) ∙ ap stays (next_by-bound d i)),
      (λ c. up_by-constant d c σ ∙ ap (rename_image (next_by d)) (push_all-constant sub c stays) ∙ ap stays (next_by-constant d c)),
      (λ g. up_by-metavariable d g σ ∙ ap (rename_image (next_by d)) (push_all-metavariable sub g stays) ∙ ap stays (next_by-metavariable d g)),
    )

-- a list put for a telescope, under local binders
pub Goes-image : (outer : Scope) (inner local : List SimpleType) (sub : Spine) → ShapedList outer sub inner →
    Goes (shape_size (arrows inner base)) (under_all local (under_all inner outer)) (under_all local outer) (image sub (length local))
Goes-image outer inner local sub shaped =
    let p = shape_size (arrows inner base) in
    Goes-up_by p local (under_all inner outer) outer (push_all sub stays) (Goes-push_all p inner sub outer outer stays (Goes-stays p outer) shaped (omega arith))

pub shaped_substitutions_have_one_result : ShapedSubstitutionsHaveOneResult
shaped_substitutions_have_one_result outer inner local s t sub shaped_sub shaped =
    let r = total (shape_size (arrows inner base)) shaped (under_all local outer) (image sub (length local)) (Goes-image outer inner local sub shaped_sub) in
    (r.0, (r.1, λ q result. unique result r.1), r.2)

pub substitutions_compose : SubstitutionsCompose
substitutions_compose outer a b local s t r q first second results shaped_first shaped_second put shaped result =
    let d = length local in
    let p = shape_size (arrows b base) in
    let m = shape_size (arrows a base) in
    let inside = under_all a outer in
    let σ = push_all first stays in
    let goes_first : Goes m inside outer σ = Goes-image outer a [] first shaped_first in
    let shaped_results : ShapedList outer results b = ShapedSpine-SubstitutedSpine m inside outer σ goes_first shaped_second put in
    let goes_both : Goes (m + p) (under_all b inside) outer (push_all results σ) =
    Goes-push_all (m + p) b results inside outer σ (Goes-push_all (m + p) a first outer outer stays (Goes-stays (m + p) outer) shaped_first (omega arith)) shaped_results (omega arith) in
    let then : IsThen (push_all second stays) σ (push_all results σ) = IsThen-push_all_before stays σ σ put (IsThen-before σ) in
    subst (λ ρ. Substituted (up_by d σ) r q ↔ Substituted (up_by d ρ) t q) (sym (push_all-joined first results stays))
    (composes_iff p m (m + p) (under_all local (under_all b inside)) (under_all local inside) (under_all local outer)
    (image second d) (image first d) (up_by d (push_all results σ))
    (Goes-image inside b local second shaped_second) (Goes-image outer a local first shaped_first)
    (Goes-up_by (m + p) local (under_all b inside) outer (push_all results σ) goes_both)
    (IsThen-up_by d (push_all second stays) σ (push_all results σ) then)
    s t r q shaped result)

pub substitutions_are_simultaneous : SubstitutionsAreSimultaneous
substitutions_are_simultaneous outer a b local s t r q first second shaped_first shaped_second shaped result =
    let d = length local in
    let n = length b in
    let p = shape_size (arrows b base) in
    let m = shape_size (arrows a base) in
    let inside = under_all a outer in
    let σ = push_all first stays in
    let goes_first : Goes m inside outer σ = Goes-image outer a [] first shaped_first in
    let goes_both : Goes (m + p) (under_all b inside) outer (push_all second σ) =
    Goes-push_all (m + p) b second inside outer σ (Goes-push_all (m + p) a first outer outer stays (Goes-stays (m + p) outer) shaped_first (omega arith)) shaped_second (omega arith) in
    let then : IsThen (up_by n σ) (push_all second stays) (push_all second σ) =
    subst (λ k. IsThen (up_by k σ) (push_all second stays) (push_all second σ)) (args_count-length b outer second shaped_second)
    (IsThen-push_all_after second σ stays σ (IsThen-after σ)) in
    let result_inside : Substituted (up_by d (up_by n σ)) t r = subst (λ ρ. Substituted ρ t r) (up_by-length-append b local σ) result in
    subst (λ ρ. Substituted (image second d) r q ↔ Substituted (up_by d ρ) t q) (sym (push_all-joined first second stays))
    (composes_iff m p (m + p) (under_all local (under_all b inside)) (under_all local (under_all b outer)) (under_all local outer)
    (up_by d (up_by n σ)) (image second d) (up_by d (push_all second σ))
    (Goes-up_by m local (under_all b inside) (under_all b outer) (up_by n σ) (Goes-up_by m b inside outer σ goes_first))
    (Goes-image outer b local second shaped_second)
    (Goes-up_by (m + p) local (under_all b inside) outer (push_all second σ) goes_both)
    (IsThen-up_by d (up_by n σ) (push_all second stays) (push_all second σ) then)
    s t r q shaped result_inside)

pub own_variables_change_nothing : OwnVariablesChangeNothing
own_variables_change_nothing = own_variables_unit

pub eta_variables_become_their_terms : EtaVariablesBecomeTheirTerms
eta_variables_become_their_terms outer inner local k s u sub shaped_sub shape_is term_is =
    let d = length local in
    Substituted-eta_put s (image sub d) (bound (d + (args_count sub - suc k))) (rename (next_by d) u)
    ((images_are_by_number sub d).1 k u term_is)
    (under_all local outer)
    (Shaped-raise_by local outer u s (Shaped-arg_at inner outer sub k s u shaped_sub shape_is term_is))

alike_of : {p : ℕ} {i : Image} {k : LfHead} {s : SimpleType} → (i ≡ stays k) ⊎ ((i ≡ becomes (eta k s)) × shape_size s < p) → Alike p i k s
alike_of {p} {k = k} {s = s} (inl e) = subst (λ i. Alike p i k s) (sym e) alike_stays
alike_of {p} {k = k} {s = s} (inr e) = subst (λ i. Alike p i k s) (sym e.0) (alike_eta e.1)

pub eta_forms_rename : EtaFormsRename
eta_forms_rename p Γ Δ ξ σ keeps alike = unit p Γ Δ ξ σ keeps (λ h s e. alike_of (alike h s e))

pub eta_forms_are_shaped : EtaFormsAreShaped
eta_forms_are_shaped Γ h s e = Shaped-eta s Γ h e

pub renamings_compose : RenamingsCompose
renamings_compose = ((λ ζ ξ t. rename-rename t ζ ξ), rename-same_head)

pub renamings_keep_shapes : RenamingsKeepShapes
renamings_keep_shapes ξ Γ Δ keeps t s shaped = Shaped-rename shaped ξ Δ keeps

pub renamings_keep_sizes : RenamingsKeepSizes
renamings_keep_sizes ξ t = term_size-rename t ξ

pub renamings_are_injective : RenamingsAreInjective
renamings_are_injective ξ apart t u e = rename_inj t u ξ apart e

pub substitutions_are_renamed : SubstitutionsAreRenamed
substitutions_are_renamed ξ ζ σ τ follows t r result = Substituted-rename result ξ ζ τ follows

pub renamings_keep_types : RenamingsKeepTypes
renamings_keep_types v Γ Δ keeps t a typed = Typed-rename typed v Δ keeps

pub typed_terms_are_shaped : TypedTermsAreShaped
typed_terms_are_shaped = ((λ Γ t a p. Shaped-Typed p), (λ kinds Γ a p. ShapedType-Formed p))
