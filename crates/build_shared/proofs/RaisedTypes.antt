-- Types that are raised past more variables, and entries of contexts with shapes.
use Rattle.std.proofs.Common.{◌≡◌, ℕ, zero, suc, ◌<◌, List, [], ◌∷◌, length, get_or, replicate, Option, refl, sym, ap, ◌∙◌, subst, arith}
use Rattle.std.proofs.lemmas.List.{length-replicate}
use Rattle.lf_definitions.specs.Syntax.{LfHead, no_args, SimpleType, base, LfType}
use Rattle.lf_definitions.specs.Renaming.{next_by, rename_type}
use Rattle.lf_definitions.specs.Shaping.{Scope, under_all, shaped_none}
use Rattle.lf_definitions.specs.ShapedGoals.{ShapedContext, shaped_entry}
use Rattle.lf_definitions.specs.Substitution.{stays, SubstitutedType}
use Rattle.lf_definitions.proofs.Uniqueness.{unique_type}
use Rattle.lf_definitions.proofs.Telescopes.{under_all-next_by_length}
use Rattle.lf_definitions.proofs.TypedSpines.{SubstitutedType-renamed_outside}
use Rattle.head_laws.proofs.OccurrenceLaws.{unreplaced_terms_stay}
use Rattle.lf_terms.specs.declared.ty.Ty.{Ty}
use Rattle.lf_terms.specs.Types.{type_of, types_of}
use Rattle.lf_terms.specs.Putting.{putting, Puts, TypeShaped}
use Rattle.build_shared.specs.Conditions.{HasShapes, ContextHasShapes}

-- The empty list goes from the scope of a type to that with so many more variables.
pub puts_nothing : (by : ℕ) (a : LfType) → HasShapes a → Puts no_args [] by 0 (TypeShaped a)
puts_nothing by a (kinds, Γ, shaped) = record {
  outer = Γ;
  target = under_all (replicate by base) Γ;
  local = [];
  shape = base;
  depth_is = refl;
  keeps = λ h s e. past h ∙ e;
  shaped_sub = shaped_none;
  shaped = (kinds, shaped);
}
  where
    past : (h : LfHead) → under_all (replicate by base) Γ (next_by by h) ≡ Γ h
    past h = ap (λ n. under_all (replicate by base) Γ (next_by n h)) (sym (length-replicate by base)) ∙ under_all-next_by_length (replicate by base) Γ h

pub is_raised : (by : ℕ) (a c : LfType) → SubstitutedType (putting no_args by 0) a c → c ≡ rename_type (next_by by) a
is_raised by a c result =
    unique_type (SubstitutedType-renamed_outside no_args (next_by by) a c result) ((unreplaced_terms_stay stays).2 (rename_type (next_by by) a) (λ h occurs. refl))

entry_shaped : (ts : List Ty) (i : ℕ) (t : Ty) → i < length ts → t ≡ get_or ts i t → (kinds : ℕ → Option SimpleType) (Γ : Scope) → ShapedContext kinds Γ (types_of ts) → HasShapes (type_of t)
entry_shaped [] i t within is kinds Γ shaped = absurd (omega arith)
entry_shaped (u ∷ ts) zero t within is kinds Γ (shaped_entry p ps) = subst (λ x. HasShapes (type_of x)) (sym is) (kinds, Γ, p)
entry_shaped (u ∷ ts) (suc i) t within is kinds Γ (shaped_entry p ps) = entry_shaped ts i t (omega arith) is kinds _ ps

pub entry_has_shapes : (ts : List Ty) (ctx : List LfType) (i : ℕ) (t : Ty) → i < length ts → t ≡ get_or ts i t → types_of ts ≡ ctx → ContextHasShapes ctx → HasShapes (type_of t)
entry_has_shapes ts ctx i t within is same (kinds, Γ, shaped) = entry_shaped ts i t within is kinds Γ (subst (ShapedContext kinds Γ) (sym same) shaped)
