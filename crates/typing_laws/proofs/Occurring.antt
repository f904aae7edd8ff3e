-- What occurs in what is shaped has a shape.
use Rattle.std.proofs.Common.{◌≡◌, ℕ, Option, Some, sym, ◌∙◌}
use Rattle.lf_definitions.specs.Syntax.{LfHead, LfTerm, Spine, SimpleType, shape_of, LfType, Context}
use Rattle.lf_definitions.specs.Renaming.{next}
use Rattle.lf_definitions.specs.Shaping.{Scope, under, Shaped, shaped_lam, shaped_at, ShapedSpine, shaped_none, shaped_arg, ShapedType, shaped_pi, shaped_family}
use Rattle.lf_definitions.specs.ShapedGoals.{ShapedContext, shaped_empty, shaped_entry}
use Rattle.lf_definitions.specs.Occurrence.{OccursIn, occurs_head, occurs_args, occurs_lam, OccursInSpine, occurs_first, occurs_later, OccursInType, occurs_binder, occurs_rest, occurs_family, OccursInContext, occurs_entry, occurs_after}
use Rattle.lf_definitions.proofs.Renaming.{extended-next}

abbrev pub HasShape : Scope → LfHead → Type 0
HasShape Γ h = (s : SimpleType) × (Γ h ≡ Some s)

HasShape-next : (Γ : Scope) (a : SimpleType) (h : LfHead) → HasShape (under a Γ) (next h) → HasShape Γ h
HasShape-next Γ a h x = (x.0, sym (extended-next (Some a) Γ h) ∙ x.1)

mutual
  pub HasShape-OccursIn : {Γ : Scope} {t : LfTerm} {s : SimpleType} → Shaped Γ t s → {h : LfHead} → OccursIn h t → HasShape Γ h
  HasShape-OccursIn (shaped_lam {Γ = Γ} {a = a} p) (occurs_lam h b o) = HasShape-next Γ a h (HasShape-OccursIn p o)
  HasShape-OccursIn (shaped_at s e ps) (occurs_head h ts) = (s, e)
  HasShape-OccursIn (shaped_at s e ps) (occurs_args h k ts o) = HasShape-OccursInSpine ps o

  pub HasShape-OccursInSpine : {Γ : Scope} {ts : Spine} {s : SimpleType} → ShapedSpine Γ ts s → {h : LfHead} → OccursInSpine h ts → HasShape Γ h
  HasShape-OccursInSpine shaped_none o = elim o [ ]
  HasShape-OccursInSpine (shaped_arg p ps) (occurs_first h t ts o) = HasShape-OccursIn p o
  HasShape-OccursInSpine (shaped_arg p ps) (occurs_later h t ts o) = HasShape-OccursInSpine ps o

pub HasShape-OccursInType : {kinds : ℕ → Option SimpleType} {Γ : Scope} {a : LfType} → ShapedType kinds Γ a → {h : LfHead} → OccursInType h a → HasShape Γ h
HasShape-OccursInType (shaped_pi p q) (occurs_binder h a b o) = HasShape-OccursInType p o
HasShape-OccursInType (shaped_pi {Γ = Γ} p q) (occurs_rest h a b o) = HasShape-next Γ (shape_of a) h (HasShape-OccursInType q o)
HasShape-OccursInType (shaped_family s e ps) (occurs_family h f args o) = HasShape-OccursInSpine ps o

pub HasShape-OccursInContext : {kinds : ℕ → Option SimpleType} {Γ : Scope} {ctx : Context} → ShapedContext kinds Γ ctx → {h : LfHead} → OccursInContext h ctx → HasShape Γ h
HasShape-OccursInContext shaped_empty o = elim o [ ]
HasShape-OccursInContext (shaped_entry p ps) (occurs_entry h a rest o) = HasShape-OccursInType p o
HasShape-OccursInContext (shaped_entry {Γ = Γ} p ps) (occurs_after h a rest o) = HasShape-next Γ (shape_of a) h (HasShape-OccursInContext ps o)
