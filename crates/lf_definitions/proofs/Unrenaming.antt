-- What is shaped once its heads are renamed was shaped before, in a scope that has what they became.
use Rattle.std.proofs.Common.{◌≡◌, ℕ, Option, Some, [], ◌∷◌, sym, ap, ◌∙◌, subst}
use Rattle.lf_definitions.specs.Syntax.{LfHead, bound, LfTerm, lam, at, Spine, no_args, arg, SimpleType, LfType, pi, family, Context, shape_of}
use Rattle.lf_definitions.specs.Renaming.{next, Renaming, lifted, rename, rename_spine, rename_type, rename_context}
use Rattle.lf_definitions.specs.Shaping.{Scope, under, Shaped, shaped_lam, shaped_at, ShapedSpine, shaped_none, shaped_arg, ShapedType, shaped_pi, shaped_family}
use Rattle.lf_definitions.specs.ShapedGoals.{ShapedContext, shaped_empty, shaped_entry}
use Rattle.lf_definitions.proofs.Renaming.{extended-next, each_head}
use Rattle.lf_definitions.proofs.Types.{shape_of-rename_type}

-- the shape that a head becomes is the head's
abbrev pub ComesFrom : Renaming → Scope → Scope → Type 0
ComesFrom ξ Γ Δ = (h : LfHead) (s : SimpleType) → Δ (ξ h) ≡ Some s → Γ h ≡ Some s

ComesFrom-lifted : (ξ : Renaming) (Γ Δ : Scope) (a : SimpleType) → ComesFrom ξ Γ Δ → ComesFrom (lifted ξ) (under a Γ) (under a Δ)
ComesFrom-lifted ξ Γ Δ a from =
    each_head (λ h. (s : SimpleType) → under a Δ (lifted ξ h) ≡ Some s → under a Γ h ≡ Some s)
    (λ s e. e)
    (λ h s e. extended-next (Some a) Γ h ∙ from h s (sym (ap (under a Δ) (extended-next (bound 0) (λ k. next (ξ k)) h) ∙ extended-next (Some a) Δ (ξ h)) ∙ e))

mutual
  pub Shaped-unrenamed : (t : LfTerm) {s : SimpleType} (ξ : Renaming) (Γ Δ : Scope) → ComesFrom ξ Γ Δ → Shaped Δ (rename ξ t) s → Shaped Γ t s
  Shaped-unrenamed (lam b) ξ Γ Δ from (shaped_lam {a = a} p) = shaped_lam (Shaped-unrenamed b (lifted ξ) (under a Γ) (under a Δ) (ComesFrom-lifted ξ Γ Δ a from) p)
  Shaped-unrenamed (at h ts) ξ Γ Δ from (shaped_at s e ps) = shaped_at s (from h s e) (ShapedSpine-unrenamed ts ξ Γ Δ from ps)

  pub ShapedSpine-unrenamed : (ts : Spine) {s : SimpleType} (ξ : Renaming) (Γ Δ : Scope) → ComesFrom ξ Γ Δ → ShapedSpine Δ (rename_spine ξ ts) s → ShapedSpine Γ ts s
  ShapedSpine-unrenamed no_args ξ Γ Δ from shaped_none = shaped_none
  ShapedSpine-unrenamed (arg t ts) ξ Γ Δ from (shaped_arg p ps) = shaped_arg (Shaped-unrenamed t ξ Γ Δ from p) (ShapedSpine-unrenamed ts ξ Γ Δ from ps)

pub ShapedType-unrenamed : (a : LfType) {kinds : ℕ → Option SimpleType} (ξ : Renaming) (Γ Δ : Scope) → ComesFrom ξ Γ Δ → ShapedType kinds Δ (rename_type ξ a) → ShapedType kinds Γ a
ShapedType-unrenamed (pi a b) {kinds} ξ Γ Δ from (shaped_pi p q) =
    shaped_pi (ShapedType-unrenamed a ξ Γ Δ from p)
    (ShapedType-unrenamed b (lifted ξ) (under (shape_of a) Γ) (under (shape_of a) Δ) (ComesFrom-lifted ξ Γ Δ (shape_of a) from)
    (subst (λ s. ShapedType kinds (under s Δ) (rename_type (lifted ξ) b)) (shape_of-rename_type a ξ) q))
ShapedType-unrenamed (family f ts) ξ Γ Δ from (shaped_family s e ps) = shaped_family s e (ShapedSpine-unrenamed ts ξ Γ Δ from ps)

pub ShapedContext-unrenamed : (ctx : Context) {kinds : ℕ → Option SimpleType} (ξ : Renaming) (Γ Δ : Scope) → ComesFrom ξ Γ Δ → ShapedContext kinds Δ (rename_context ξ ctx) → ShapedContext kinds Γ ctx
ShapedContext-unrenamed [] ξ Γ Δ from shaped_empty = shaped_empty
ShapedContext-unrenamed (a ∷ rest) {kinds} ξ Γ Δ from (shaped_entry p ps) =
    shaped_entry (ShapedType-unrenamed a ξ Γ Δ from p)
    (ShapedContext-unrenamed rest (lifted ξ) (under (shape_of a) Γ) (under (shape_of a) Δ) (ComesFrom-lifted ξ Γ Δ (shape_of a) from)
    (subst (λ s. ShapedContext kinds (under s Δ) (rename_context (lifted ξ) rest)) (shape_of-rename_type a ξ) ps))
