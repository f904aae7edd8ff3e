-- Typed terms are shaped, and typing goes along with renamings of variables.
use Rattle.std.proofs.Common.{◌≡◌, ℕ, zero, suc, Option, Some, None, option_map, List, [], ◌∷◌, refl, ap, ◌∙◌, subst}
use mathlib.Core.Path.{fun_ext}
use Rattle.lf_definitions.specs.Syntax.{LfHead, bound, constant, metavariable, LfTerm, Spine, base, arrow, arrows, LfType, family, pis, shape_of, shapes_of_types, SimpleType, pi}
use Rattle.lf_definitions.specs.Renaming.{next, raise_type}
use Rattle.lf_definitions.specs.Shaping.{under, Shaped, shaped_lam, shaped_at, ShapedSpine, shaped_none, shaped_arg, ShapedType, shaped_pi, shaped_family, Scope}
use Rattle.lf_definitions.specs.Substitution.{Replacement}
use Rattle.lf_definitions.specs.Typing.{Typing, with_variable, Typed, typed_lam, typed_at, TypedSpine, typed_none, typed_arg, Kinds, Formed, formed_pi, formed_family, shapes_of, shapes_of_kinds}
use Rattle.lf_definitions.proofs.Types.{shape_of-rename_type, shape_of-SubstitutedType}

-- A variable more has the shape of its type.
pub shapes_of-with_variable : (Γ : Typing) (a : LfType) (h : LfHead) → shapes_of (with_variable a Γ) h ≡ under (shape_of a) (shapes_of Γ) h
shapes_of-with_variable Γ a (bound zero) = ap Some (shape_of-rename_type a next)
shapes_of-with_variable Γ a (bound (suc n)) = raised (Γ (bound n))
  where
    raised : (o : Option LfType) → option_map shape_of (option_map raise_type o) ≡ option_map shape_of o
    raised None = refl
    raised (Some b) = ap Some (shape_of-rename_type b next)
shapes_of-with_variable Γ a (constant c) = refl
shapes_of-with_variable Γ a (metavariable g) = refl

pub shape_of-pis : (bs : List LfType) (f : ℕ) (args : Spine) → shape_of (pis bs (family f args)) ≡ arrows (shapes_of_types bs) base
shape_of-pis [] f args = refl
shape_of-pis (b ∷ bs) f args = ap (arrow (shape_of b)) (shape_of-pis bs f args)

-- Typed terms are shaped.
mutual
  pub Shaped-Typed : {Γ : Typing} {t : LfTerm} {a : LfType} → Typed Γ t a → Shaped (shapes_of Γ) t (shape_of a)
  Shaped-Typed (typed_lam {Γ = Γ} {b = b} {a = a} {c = c} p) = shaped_lam (subst (λ Δ. Shaped Δ b (shape_of c)) (fun_ext (shapes_of-with_variable Γ a)) (Shaped-Typed p))
  Shaped-Typed (typed_at {f = f} binders args e ps results) =
      shaped_at (arrows (shapes_of_types binders) base) (ap (option_map shape_of) e ∙ ap Some (shape_of-pis binders f args)) (ShapedSpine-TypedSpine ps)

  pub ShapedSpine-TypedSpine : {Γ : Typing} {σ : Replacement} {ts : Spine} {binders : List LfType} → TypedSpine Γ σ ts binders → ShapedSpine (shapes_of Γ) ts (arrows (shapes_of_types binders) base)
  ShapedSpine-TypedSpine typed_none = shaped_none
  ShapedSpine-TypedSpine (typed_arg {Γ = Γ} {t = t} c result p ps) =
      shaped_arg (subst (Shaped (shapes_of Γ) t) (shape_of-SubstitutedType result) (Shaped-Typed p)) (ShapedSpine-TypedSpine ps)

pub shaped_argument : {kinds : ℕ → Option SimpleType} {Γ : Scope} {a b : LfType} → ShapedType kinds Γ (pi a b) → ShapedType kinds Γ a
shaped_argument (shaped_pi p q) = p

pub shaped_result : {kinds : ℕ → Option SimpleType} {Γ : Scope} {a b : LfType} → ShapedType kinds Γ (pi a b) → ShapedType kinds (under (shape_of a) Γ) b
shaped_result (shaped_pi p q) = q

-- Well-formed types are shaped.
pub ShapedType-Formed : {kinds : Kinds} {Γ : Typing} {a : LfType} → Formed kinds Γ a → ShapedType (shapes_of_kinds kinds) (shapes_of Γ) a
ShapedType-Formed {kinds} (formed_pi {Γ = Γ} {a = a} {b = b} p q) =
    shaped_pi (ShapedType-Formed p) (subst (λ Δ. ShapedType (shapes_of_kinds kinds) Δ b) (fun_ext (shapes_of-with_variable Γ a)) (ShapedType-Formed q))
ShapedType-Formed (formed_family binders e ps) =
    shaped_family (arrows (shapes_of_types binders) base) (ap (option_map (λ bs. arrows (shapes_of_types bs) base)) e) (ShapedSpine-TypedSpine ps)
