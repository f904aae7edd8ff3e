-- A head with its first arguments as the code makes it eta-long.
use Rattle.std.proofs.Common.{◌≡◌, ℕ, suc, List, [], ◌∷◌, length, refl, sym, ap, ap₂, ◌∙◌, subst, arith}
use Rattle.lf_definitions.specs.Syntax.{LfHead, at, Spine, no_args, joined, lams, arity, SimpleType, base, arrow, arrows, shape_of, shapes_of_types, family, pis, Context}
use Rattle.lf_definitions.specs.Renaming.{next_by, rename_spine}
use Rattle.lf_definitions.specs.Shaping.{Scope, under_all, ShapedSpine, shaped_none}
use Rattle.lf_definitions.specs.Substitution.{SubstitutedSpine}
use Rattle.lf_definitions.specs.Expansion.{own_variables}
use Rattle.lf_definitions.proofs.Uniqueness.{unique_spine}
use Rattle.lf_definitions.proofs.Renaming.{rename_spine-same_head, SubstitutedSpine-renames}
use Rattle.lf_definitions.proofs.Telescopes.{arity-arrows, under_all-next_by_length}
use Rattle.lf_definitions.proofs.Typing.{shape_of-pis}
use Rattle.lf_terms.specs.Putting.{putting, Puts, ArgsShaped}
use Rattle.lf_terms.proofs.Expansions.{joined-no_args}
use Rattle.typing_laws.specs.EtaLaws.{expanded}

pub length-shapes_of_types : (binders : Context) → length (shapes_of_types binders) ≡ length binders
length-shapes_of_types [] = refl
length-shapes_of_types (a ∷ binders) = ap suc (length-shapes_of_types binders)

pub arity_of_type : (binders : Context) (f : ℕ) (args : Spine) → arity (shape_of (pis binders (family f args))) ≡ length binders
arity_of_type binders f args = ap arity (shape_of-pis binders f args) ∙ arity-arrows (shapes_of_types binders) ∙ length-shapes_of_types binders

pub expanded_none : (h : LfHead) (ts us : Spine) (s : SimpleType) → arity s ≡ 0 → us ≡ ts → at h us ≡ expanded h ts s
expanded_none h ts us base none same = ap (at h) (same ∙ sym (joined-no_args (rename_spine (next_by 0) ts) ∙ rename_spine-same_head ts))
expanded_none h ts us (arrow a s) none same = absurd (never (arity s) none)
  where
    never : (n : ℕ) → suc n ≡ 0 → ⊥
    never n e = omega arith

pub puts_raised : (Γ : Scope) (s : SimpleType) (ts us : Spine) (by : ℕ) (binders : Context) → us ≡ ts → by ≡ length binders → ShapedSpine Γ ts s → Puts no_args [] by 0 (ArgsShaped us)
puts_raised Γ s ts us by binders same count shaped = record {
  outer = Γ;
  target = under_all (shapes_of_types binders) Γ;
  local = [];
  shape = s;
  depth_is = refl;
  keeps = λ h c e. ap (λ n. under_all (shapes_of_types binders) Γ (next_by n h)) (count ∙ sym (length-shapes_of_types binders)) ∙ under_all-next_by_length (shapes_of_types binders) Γ h ∙ e;
  shaped_sub = shaped_none;
  shaped = subst (λ xs. ShapedSpine Γ xs s) (sym same) shaped;
}

pub seen_spine : (by : ℕ) (ts us seen : Spine) → us ≡ ts → SubstitutedSpine (putting no_args by 0) us seen → seen ≡ rename_spine (next_by by) ts
seen_spine by ts us seen same result = unique_spine result (SubstitutedSpine-renames us (next_by by)) ∙ ap (rename_spine (next_by by)) same

pub expanded_some : (h k : LfHead) (ts args seen own : Spine) (binders : Context) (f : ℕ) (us : Spine) (shapes : List SimpleType) (count : ℕ) → count ≡ length binders →
    seen ≡ rename_spine (next_by count) ts → shapes ≡ shapes_of_types binders → own ≡ own_variables (arrows shapes base) → args ≡ joined seen own → k ≡ next_by count h →
    lams count (at k args) ≡ expanded h ts (shape_of (pis binders (family f us)))
expanded_some h k ts args seen own binders f us shapes count count_is seen_is shapes_are own_is args_are k_is =
    let s = shape_of (pis binders (family f us)) in
    let variables : own ≡ own_variables s = own_is ∙ ap (λ ss. own_variables (arrows ss base)) shapes_are ∙ ap own_variables (sym (shape_of-pis binders f us)) in
    ap₂ (λ x xs. lams count (at x xs)) k_is (args_are ∙ ap₂ joined seen_is variables)
    ∙ ap (λ n. lams n (at (next_by n h) (joined (rename_spine (next_by n) ts) (own_variables s)))) (count_is ∙ sym (arity_of_type binders f us))
