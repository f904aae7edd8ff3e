-- Typing goes along with renamings of variables that keep types.
use Rattle.std.proofs.Common.{◌≡◌, ℕ, zero, suc, Option, Some, None, option_map, List, [], ◌∷◌, length, refl, sym, ap, ◌∙◌, subst}
use mathlib.Core.Path.{fun_ext}
use Rattle.lf_definitions.specs.Syntax.{LfHead, bound, constant, metavariable, LfTerm, Spine, no_args, arg, args_count, LfType, pi, family, Context, pis}
use Rattle.lf_definitions.specs.Renaming.{next, Renaming, lifted, lifted_by, rename, rename_spine, rename_type, rename_context, raise_type}
use Rattle.lf_definitions.specs.Substitution.{Replacement, stays, push, push_all, SubstitutedSpine}
use Rattle.lf_definitions.specs.Typing.{Typing, with_variable, Typed, typed_lam, typed_at, TypedSpine, typed_none, typed_arg, Kinds, Formed, formed_pi, formed_family, FormedContext, formed_empty, formed_entry}
use Rattle.lf_definitions.specs.Laws.{variables, KeepsTypes}
use Rattle.lf_definitions.specs.TypingLaws.{ClosedKinds}
use Rattle.lf_definitions.proofs.Renaming.{extended-next, rename_type-rename_type, Follows, Follows-push, SubstitutedType-rename_type, SubstitutedSpine-rename_spine}
use Rattle.lf_definitions.proofs.Options.{Some-Some}

-- under a binder
abbrev under_binder : (ℕ → ℕ) → ℕ → ℕ
under_binder v zero = zero
under_binder v (suc n) = suc (v n)

variables-under_binder : (v : ℕ → ℕ) (h : LfHead) → variables (under_binder v) h ≡ lifted (variables v) h
variables-under_binder v (bound zero) = refl
variables-under_binder v (bound (suc n)) = refl
variables-under_binder v (constant c) = refl
variables-under_binder v (metavariable g) = refl

rename_type-raise_type : (ξ : Renaming) (a : LfType) → rename_type (lifted ξ) (raise_type a) ≡ raise_type (rename_type ξ a)
rename_type-raise_type ξ a =
    rename_type-rename_type a (lifted ξ) next ∙ ap (λ θ. rename_type θ a) (fun_ext (extended-next (bound zero) (λ h. next (ξ h)))) ∙ sym (rename_type-rename_type a next ξ)

raised : (v : ℕ → ℕ) (a : LfType) → raise_type (rename_type (variables v) a) ≡ rename_type (variables (under_binder v)) (raise_type a)
raised v a = sym (rename_type-raise_type (variables v) a) ∙ ap (λ ξ. rename_type ξ (raise_type a)) (sym (fun_ext (variables-under_binder v)))

KeepsTypes-under_binder : (v : ℕ → ℕ) (Γ Δ : Typing) (a : LfType) → KeepsTypes v Γ Δ → KeepsTypes (under_binder v) (with_variable a Γ) (with_variable (rename_type (variables v) a) Δ)
KeepsTypes-under_binder v Γ Δ a keeps = (at_variable, keeps.1, keeps.2)
  where
    older : (n : ℕ) (o : Option LfType) → Γ (bound n) ≡ o → (b : LfType) → option_map raise_type o ≡ Some b → option_map raise_type (Δ (bound (v n))) ≡ Some (rename_type (variables (under_binder v)) b)
    older n None is b e = absurd cc
    older n (Some c) is b e =
        ap (option_map raise_type) (keeps.0 n c is) ∙ ap Some (raised v c ∙ ap (rename_type (variables (under_binder v))) (Some-Some e))

    at_variable : (n : ℕ) (b : LfType) → with_variable a Γ (bound n) ≡ Some b → with_variable (rename_type (variables v) a) Δ (bound (under_binder v n)) ≡ Some (rename_type (variables (under_binder v)) b)
    at_variable zero b e = ap Some (raised v a ∙ ap (rename_type (variables (under_binder v))) (Some-Some e))
    at_variable (suc n) b e = older n (Γ (bound n)) refl b e

pub KeepsTypes-head : (v : ℕ → ℕ) (Γ Δ : Typing) → KeepsTypes v Γ Δ → (h : LfHead) (a : LfType) → Γ h ≡ Some a → Δ (variables v h) ≡ Some (rename_type (variables v) a)
KeepsTypes-head v Γ Δ keeps (bound n) a e = keeps.0 n a e
KeepsTypes-head v Γ Δ keeps (constant c) a e = let k = keeps.1 c a e in k.0 ∙ ap Some (sym (k.1 v))
KeepsTypes-head v Γ Δ keeps (metavariable g) a e = let k = keeps.2 g a e in k.0 ∙ ap Some (sym (k.1 v))

pub rename_type-pis : (ξ : Renaming) (bs : List LfType) (end : LfType) → rename_type ξ (pis bs end) ≡ pis (rename_context ξ bs) (rename_type (lifted_by (length bs) ξ) end)
rename_type-pis ξ [] end = refl
rename_type-pis ξ (b ∷ bs) end = ap (pi (rename_type ξ b)) (rename_type-pis (lifted ξ) bs end)

pub Follows-push_all : (ts : Spine) (ξ ζ : Renaming) (σ τ : Replacement) → Follows ξ ζ σ τ → Follows (lifted_by (args_count ts) ξ) ζ (push_all ts σ) (push_all (rename_spine ζ ts) τ)
Follows-push_all no_args ξ ζ σ τ follows = follows
Follows-push_all (arg t ts) ξ ζ σ τ follows = Follows-push_all ts (lifted ξ) ζ (push t σ) (push (rename ζ t) τ) (Follows-push ξ ζ σ τ t follows)

pub args_count-TypedSpine : {Γ : Typing} {σ : Replacement} {ts : Spine} {bs : List LfType} → TypedSpine Γ σ ts bs → args_count ts ≡ length bs
args_count-TypedSpine typed_none = refl
args_count-TypedSpine (typed_arg c r p ps) = ap suc (args_count-TypedSpine ps)

mutual
  pub Typed-rename : {Γ : Typing} {t : LfTerm} {a : LfType} → Typed Γ t a → (v : ℕ → ℕ) (Δ : Typing) → KeepsTypes v Γ Δ → Typed Δ (rename (variables v) t) (rename_type (variables v) a)
  Typed-rename (typed_lam {Γ = Γ} {b = b} {a = a} {c = c} p) v Δ keeps =
      typed_lam (subst (λ ξ. Typed (with_variable (rename_type (variables v) a) Δ) (rename ξ b) (rename_type ξ c)) (fun_ext (variables-under_binder v))
      (Typed-rename p (under_binder v) (with_variable (rename_type (variables v) a) Δ) (KeepsTypes-under_binder v Γ Δ a keeps)))
  Typed-rename (typed_at {Γ = Γ} {h = h} {ts = ts} {results = rs} {f = f} bs args e ps result) v Δ keeps =
      let ζ = variables v in
      typed_at (rename_context ζ bs) (rename_spine (lifted_by (length bs) ζ) args)
      (KeepsTypes-head v Γ Δ keeps h (pis bs (family f args)) e ∙ ap Some (rename_type-pis ζ bs (family f args)))
      (TypedSpine-rename_spine ps v Δ keeps ζ stays (λ h. refl))
      (subst (λ n. SubstitutedSpine (push_all (rename_spine ζ ts) stays) (rename_spine (lifted_by n ζ) args) (rename_spine ζ rs)) (args_count-TypedSpine ps)
      (SubstitutedSpine-rename_spine result (lifted_by (args_count ts) ζ) ζ (push_all (rename_spine ζ ts) stays) (Follows-push_all ts ζ ζ stays stays (λ h. refl))))

  pub TypedSpine-rename_spine : {Γ : Typing} {σ : Replacement} {ts : Spine} {bs : List LfType} → TypedSpine Γ σ ts bs → (v : ℕ → ℕ) (Δ : Typing) → KeepsTypes v Γ Δ →
      (ξ : Renaming) (τ : Replacement) → Follows ξ (variables v) σ τ → TypedSpine Δ τ (rename_spine (variables v) ts) (rename_context ξ bs)
  TypedSpine-rename_spine typed_none v Δ keeps ξ τ follows = typed_none
  TypedSpine-rename_spine (typed_arg {σ = σ} {t = t} c result p ps) v Δ keeps ξ τ follows =
      let ζ = variables v in
      typed_arg (rename_type ζ c) (SubstitutedType-rename_type result ξ ζ τ follows) (Typed-rename p v Δ keeps)
      (TypedSpine-rename_spine ps v Δ keeps (lifted ξ) (push (rename ζ t) τ) (Follows-push ξ ζ σ τ t follows))

-- The kinds of families are closed.
pub Formed-rename : {kinds : Kinds} {Γ : Typing} {a : LfType} → Formed kinds Γ a → (v : ℕ → ℕ) (Δ : Typing) → KeepsTypes v Γ Δ → ClosedKinds kinds → Formed kinds Δ (rename_type (variables v) a)
Formed-rename {kinds} (formed_pi {Γ = Γ} {a = a} {b = b} p q) v Δ keeps closed =
    formed_pi (Formed-rename p v Δ keeps closed)
    (subst (λ ξ. Formed kinds (with_variable (rename_type (variables v) a) Δ) (rename_type ξ b)) (fun_ext (variables-under_binder v))
    (Formed-rename q (under_binder v) (with_variable (rename_type (variables v) a) Δ) (KeepsTypes-under_binder v Γ Δ a keeps) closed))
Formed-rename (formed_family {args = ts} bs e ps) v Δ keeps closed =
    formed_family bs e (subst (TypedSpine Δ stays (rename_spine (variables v) ts)) (closed _ bs e v) (TypedSpine-rename_spine ps v Δ keeps (variables v) stays (λ h. refl)))

pub FormedContext-rename : {kinds : Kinds} {Γ : Typing} {ctx : Context} → FormedContext kinds Γ ctx → (v : ℕ → ℕ) (Δ : Typing) → KeepsTypes v Γ Δ → ClosedKinds kinds → FormedContext kinds Δ (rename_context (variables v) ctx)
FormedContext-rename formed_empty v Δ keeps closed = formed_empty
FormedContext-rename {kinds} (formed_entry {Γ = Γ} {a = a} {rest = rest} p q) v Δ keeps closed =
    formed_entry (Formed-rename p v Δ keeps closed)
    (subst (λ ξ. FormedContext kinds (with_variable (rename_type (variables v) a) Δ) (rename_context ξ rest)) (fun_ext (variables-under_binder v))
    (FormedContext-rename q (under_binder v) (with_variable (rename_type (variables v) a) Δ) (KeepsTypes-under_binder v Γ Δ a keeps) closed))
