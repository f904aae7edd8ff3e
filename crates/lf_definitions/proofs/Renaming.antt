-- Renaming composes, keeps shapes, and goes through substitution.
use Rattle.std.proofs.Common.{◌≡◌, ℕ, zero, suc, ◌+◌, Some, refl, sym, ap, ap₂, ◌∙◌, subst, arith}
use mathlib.Core.Path.{fun_ext}
use Rattle.lf_definitions.specs.Syntax.{LfHead, bound, constant, metavariable, LfTerm, lam, at, Spine, no_args, arg, LfType, pi, family, SimpleType, term_size, spine_size}
use Rattle.lf_definitions.specs.Renaming.{next, extended, Renaming, lifted, rename, rename_spine, rename_type, raise}
use Rattle.lf_definitions.specs.Shaping.{Scope, under, Shaped, shaped_lam, shaped_at, ShapedSpine, shaped_none, shaped_arg}
use Rattle.lf_definitions.specs.Substitution.{Image, stays, becomes, rename_image, Replacement, up, push, Substituted, substituted_lam, substituted_stays, substituted_becomes, SubstitutedSpine, substituted_none, substituted_arg, Applied, applied_none, applied_arg, SubstitutedType, substituted_pi, substituted_family}

pub extended-next {ℓ} : {A : Type ℓ} (newest : A) (older : LfHead → A) (h : LfHead) → extended newest older (next h) ≡ older h
extended-next newest older (bound n) = refl
extended-next newest older (constant c) = refl
extended-next newest older (metavariable g) = refl

-- A fact on each head under a binder holds of the binder's variable, and of each other head as it is seen from there.
pub each_head {ℓ} : (P : LfHead → Type ℓ) → P (bound zero) → ((h : LfHead) → P (next h)) → (h : LfHead) → P h
each_head P newest older (bound zero) = newest
each_head P newest older (bound (suc n)) = older (bound n)
each_head P newest older (constant c) = older (constant c)
each_head P newest older (metavariable g) = older (metavariable g)

-- one renaming after another
abbrev pub after : Renaming → Renaming → Renaming
after ζ ξ h = ζ (ξ h)

pub lifted-after : (ζ ξ : Renaming) (h : LfHead) → lifted ζ (lifted ξ h) ≡ lifted (after ζ ξ) h
lifted-after ζ ξ (bound zero) = refl
lifted-after ζ ξ (bound (suc n)) = extended-next (bound zero) (λ h. next (ζ h)) (ξ (bound n))
lifted-after ζ ξ (constant c) = extended-next (bound zero) (λ h. next (ζ h)) (ξ (constant c))
lifted-after ζ ξ (metavariable g) = extended-next (bound zero) (λ h. next (ζ h)) (ξ (metavariable g))

mutual
  pub rename-rename : (t : LfTerm) (ζ ξ : Renaming) → rename ζ (rename ξ t) ≡ rename (after ζ ξ) t
  rename-rename (lam b) ζ ξ = ap lam (rename-rename b (lifted ζ) (lifted ξ) ∙ ap (λ θ. rename θ b) (fun_ext (lifted-after ζ ξ)))
  rename-rename (at h ts) ζ ξ = ap (at (ζ (ξ h))) (rename_spine-rename_spine ts ζ ξ)

  pub rename_spine-rename_spine : (ts : Spine) (ζ ξ : Renaming) → rename_spine ζ (rename_spine ξ ts) ≡ rename_spine (after ζ ξ) ts
  rename_spine-rename_spine no_args ζ ξ = refl
  rename_spine-rename_spine (arg t ts) ζ ξ = ap₂ arg (rename-rename t ζ ξ) (rename_spine-rename_spine ts ζ ξ)

pub rename_type-rename_type : (a : LfType) (ζ ξ : Renaming) → rename_type ζ (rename_type ξ a) ≡ rename_type (after ζ ξ) a
rename_type-rename_type (pi a b) ζ ξ =
    ap₂ pi (rename_type-rename_type a ζ ξ) (rename_type-rename_type b (lifted ζ) (lifted ξ) ∙ ap (λ θ. rename_type θ b) (fun_ext (lifted-after ζ ξ)))
rename_type-rename_type (family f ts) ζ ξ = ap (family f) (rename_spine-rename_spine ts ζ ξ)

-- the renaming that changes nothing
abbrev pub same_head : Renaming
same_head h = h

pub lifted-same_head : (h : LfHead) → lifted same_head h ≡ h
lifted-same_head (bound zero) = refl
lifted-same_head (bound (suc n)) = refl
lifted-same_head (constant c) = refl
lifted-same_head (metavariable g) = refl

mutual
  pub rename-same_head : (t : LfTerm) → rename same_head t ≡ t
  rename-same_head (lam b) = ap lam (ap (λ θ. rename θ b) (fun_ext lifted-same_head) ∙ rename-same_head b)
  rename-same_head (at h ts) = ap (at h) (rename_spine-same_head ts)

  pub rename_spine-same_head : (ts : Spine) → rename_spine same_head ts ≡ ts
  rename_spine-same_head no_args = refl
  rename_spine-same_head (arg t ts) = ap₂ arg (rename-same_head t) (rename_spine-same_head ts)

pub rename_type-same_head : (a : LfType) → rename_type same_head a ≡ a
rename_type-same_head (pi a b) = ap₂ pi (rename_type-same_head a) (ap (λ θ. rename_type θ b) (fun_ext lifted-same_head) ∙ rename_type-same_head b)
rename_type-same_head (family f ts) = ap (family f) (rename_spine-same_head ts)

-- Renaming under a binder, seen from there.
pub rename-raise : (ξ : Renaming) (t : LfTerm) → rename (lifted ξ) (raise t) ≡ raise (rename ξ t)
rename-raise ξ t = rename-rename t (lifted ξ) next ∙ ap (λ θ. rename θ t) (fun_ext (extended-next (bound zero) (λ h. next (ξ h)))) ∙ sym (rename-rename t next ξ)

-- A renaming that keeps the shape of each head keeps the shapes of terms.
abbrev pub KeepsShapes : Renaming → Scope → Scope → Type 0
KeepsShapes ξ Γ Δ = (h : LfHead) (s : SimpleType) → Γ h ≡ Some s → Δ (ξ h) ≡ Some s

pub KeepsShapes-lifted : (ξ : Renaming) (Γ Δ : Scope) (a : SimpleType) → KeepsShapes ξ Γ Δ → KeepsShapes (lifted ξ) (under a Γ) (under a Δ)
KeepsShapes-lifted ξ Γ Δ a keeps =
    each_head (λ h. (s : SimpleType) → under a Γ h ≡ Some s → under a Δ (lifted ξ h) ≡ Some s)
    (λ s e. e)
    (λ h s e. ap (under a Δ) (extended-next (bound zero) (λ k. next (ξ k)) h) ∙ extended-next (Some a) Δ (ξ h) ∙ keeps h s (sym (extended-next (Some a) Γ h) ∙ e))

pub KeepsShapes-next : (Γ : Scope) (a : SimpleType) → KeepsShapes next Γ (under a Γ)
KeepsShapes-next Γ a h s e = extended-next (Some a) Γ h ∙ e

mutual
  pub Shaped-rename : {Γ : Scope} {t : LfTerm} {s : SimpleType} → Shaped Γ t s → (ξ : Renaming) (Δ : Scope) → KeepsShapes ξ Γ Δ → Shaped Δ (rename ξ t) s
  Shaped-rename (shaped_lam p) ξ Δ keeps = shaped_lam (Shaped-rename p (lifted ξ) _ (KeepsShapes-lifted ξ _ Δ _ keeps))
  Shaped-rename (shaped_at s e ps) ξ Δ keeps = shaped_at s (keeps _ s e) (ShapedSpine-rename_spine ps ξ Δ keeps)

  pub ShapedSpine-rename_spine : {Γ : Scope} {ts : Spine} {s : SimpleType} → ShapedSpine Γ ts s → (ξ : Renaming) (Δ : Scope) → KeepsShapes ξ Γ Δ → ShapedSpine Δ (rename_spine ξ ts) s
  ShapedSpine-rename_spine shaped_none ξ Δ keeps = shaped_none
  ShapedSpine-rename_spine (shaped_arg p ps) ξ Δ keeps = shaped_arg (Shaped-rename p ξ Δ keeps) (ShapedSpine-rename_spine ps ξ Δ keeps)

pub Shaped-raise : {Γ : Scope} {t : LfTerm} {s : SimpleType} (a : SimpleType) → Shaped Γ t s → Shaped (under a Γ) (raise t) s
Shaped-raise a p = Shaped-rename p next _ (KeepsShapes-next _ a)

-- What `σ` does to a head and `ζ` then to the image, `τ` does to the head that `ξ` makes of it.
abbrev pub Follows : Renaming → Renaming → Replacement → Replacement → Type 0
Follows ξ ζ σ τ = (h : LfHead) → τ (ξ h) ≡ rename_image ζ (σ h)

pub rename_image-next : (ζ : Renaming) (i : Image) → rename_image (lifted ζ) (rename_image next i) ≡ rename_image next (rename_image ζ i)
rename_image-next ζ (stays k) = ap stays (extended-next (bound zero) (λ h. next (ζ h)) k)
rename_image-next ζ (becomes u) = ap becomes (rename-raise ζ u)

pub Follows-up : (ξ ζ : Renaming) (σ τ : Replacement) → Follows ξ ζ σ τ → Follows (lifted ξ) (lifted ζ) (up σ) (up τ)
Follows-up ξ ζ σ τ follows =
    each_head (λ h. up τ (lifted ξ h) ≡ rename_image (lifted ζ) (up σ h))
    refl
    (λ h. ap (up τ) (extended-next (bound zero) (λ k. next (ξ k)) h) ∙ extended-next (stays (bound zero)) (λ k. rename_image next (τ k)) (ξ h) ∙ ap (rename_image next) (follows h)
    ∙ sym (rename_image-next ζ (σ h)) ∙ ap (rename_image (lifted ζ)) (sym (extended-next (stays (bound zero)) (λ k. rename_image next (σ k)) h)))

pub Follows-push : (ξ ζ : Renaming) (σ τ : Replacement) (v : LfTerm) → Follows ξ ζ σ τ → Follows (lifted ξ) ζ (push v σ) (push (rename ζ v) τ)
Follows-push ξ ζ σ τ v follows =
    each_head (λ h. push (rename ζ v) τ (lifted ξ h) ≡ rename_image ζ (push v σ h))
    refl
    (λ h. ap (push (rename ζ v) τ) (extended-next (bound zero) (λ k. next (ξ k)) h) ∙ extended-next (becomes (rename ζ v)) τ (ξ h) ∙ follows h ∙ ap (rename_image ζ) (sym (extended-next (becomes v) σ h)))

mutual
  pub Substituted-rename : {σ : Replacement} {t r : LfTerm} → Substituted σ t r → (ξ ζ : Renaming) (τ : Replacement) → Follows ξ ζ σ τ → Substituted τ (rename ξ t) (rename ζ r)
  Substituted-rename (substituted_lam p) ξ ζ τ follows = substituted_lam (Substituted-rename p (lifted ξ) (lifted ζ) (up τ) (Follows-up ξ ζ _ τ follows))
  Substituted-rename (substituted_stays e ps) ξ ζ τ follows = substituted_stays (follows _ ∙ ap (rename_image ζ) e) (SubstitutedSpine-rename_spine ps ξ ζ τ follows)
  Substituted-rename (substituted_becomes u vs e ps p) ξ ζ τ follows =
      substituted_becomes (rename ζ u) (rename_spine ζ vs) (follows _ ∙ ap (rename_image ζ) e) (SubstitutedSpine-rename_spine ps ξ ζ τ follows)
      (Applied-rename p ζ ζ stays (λ h. refl))

  pub SubstitutedSpine-rename_spine : {σ : Replacement} {ts vs : Spine} → SubstitutedSpine σ ts vs → (ξ ζ : Renaming) (τ : Replacement) → Follows ξ ζ σ τ → SubstitutedSpine τ (rename_spine ξ ts) (rename_spine ζ vs)
  SubstitutedSpine-rename_spine substituted_none ξ ζ τ follows = substituted_none
  SubstitutedSpine-rename_spine (substituted_arg p ps) ξ ζ τ follows =
      substituted_arg (Substituted-rename p ξ ζ τ follows) (SubstitutedSpine-rename_spine ps ξ ζ τ follows)

  pub Applied-rename : {σ : Replacement} {u r : LfTerm} {vs : Spine} → Applied σ u vs r → (ξ ζ : Renaming) (τ : Replacement) → Follows ξ ζ σ τ → Applied τ (rename ξ u) (rename_spine ζ vs) (rename ζ r)
  Applied-rename (applied_none p) ξ ζ τ follows = applied_none (Substituted-rename p ξ ζ τ follows)
  Applied-rename (applied_arg p) ξ ζ τ follows = applied_arg (Applied-rename p (lifted ξ) ζ (push (rename ζ _) τ) (Follows-push ξ ζ _ τ _ follows))

pub SubstitutedType-rename_type : {σ : Replacement} {a b : LfType} → SubstitutedType σ a b → (ξ ζ : Renaming) (τ : Replacement) → Follows ξ ζ σ τ → SubstitutedType τ (rename_type ξ a) (rename_type ζ b)
SubstitutedType-rename_type (substituted_pi p q) ξ ζ τ follows =
    substituted_pi (SubstitutedType-rename_type p ξ ζ τ follows) (SubstitutedType-rename_type q (lifted ξ) (lifted ζ) (up τ) (Follows-up ξ ζ _ τ follows))
SubstitutedType-rename_type (substituted_family ps) ξ ζ τ follows = substituted_family (SubstitutedSpine-rename_spine ps ξ ζ τ follows)

-- Where each head stays, under its new number, the result is the renamed term.
abbrev pub renames : Renaming → Replacement
renames ξ h = stays (ξ h)

pub up-renames : (ξ : Renaming) (h : LfHead) → renames (lifted ξ) h ≡ up (renames ξ) h
up-renames ξ (bound zero) = refl
up-renames ξ (bound (suc n)) = refl
up-renames ξ (constant c) = refl
up-renames ξ (metavariable g) = refl

mutual
  pub Substituted-renames : (t : LfTerm) (ξ : Renaming) → Substituted (renames ξ) t (rename ξ t)
  Substituted-renames (lam b) ξ = substituted_lam (subst (λ σ. Substituted σ b (rename (lifted ξ) b)) (fun_ext (up-renames ξ)) (Substituted-renames b (lifted ξ)))
  Substituted-renames (at h ts) ξ = substituted_stays refl (SubstitutedSpine-renames ts ξ)

  pub SubstitutedSpine-renames : (ts : Spine) (ξ : Renaming) → SubstitutedSpine (renames ξ) ts (rename_spine ξ ts)
  SubstitutedSpine-renames no_args ξ = substituted_none
  SubstitutedSpine-renames (arg t ts) ξ = substituted_arg (Substituted-renames t ξ) (SubstitutedSpine-renames ts ξ)

-- Where each head stays as it is, nothing changes.
pub Substituted-stays : (t : LfTerm) → Substituted stays t t
Substituted-stays t = subst (Substituted stays t) (rename-same_head t) (Substituted-renames t same_head)

-- Renaming keeps sizes.
mutual
  pub term_size-rename : (t : LfTerm) (ξ : Renaming) → term_size (rename ξ t) ≡ term_size t
  term_size-rename (lam b) ξ = ap suc (term_size-rename b (lifted ξ))
  term_size-rename (at h ts) ξ = ap suc (spine_size-rename_spine ts ξ)

  pub spine_size-rename_spine : (ts : Spine) (ξ : Renaming) → spine_size (rename_spine ξ ts) ≡ spine_size ts
  spine_size-rename_spine no_args ξ = refl
  spine_size-rename_spine (arg t ts) ξ = ap₂ (λ m n. suc (m + n)) (term_size-rename t ξ) (spine_size-rename_spine ts ξ)

-- A renaming that keeps heads apart keeps terms apart.
abbrev pub KeepsApart : Renaming → Type 0
KeepsApart ξ = (h k : LfHead) → ξ h ≡ ξ k → h ≡ k

next_inj : (h k : LfHead) → next h ≡ next k → h ≡ k
next_inj (bound n) (bound m) e = ap bound (suc_inj n m cc)
  where
    suc_inj : (n m : ℕ) → suc n ≡ suc m → n ≡ m
    suc_inj n m e = omega arith
next_inj (bound n) (constant c) e = absurd cc
next_inj (bound n) (metavariable g) e = absurd cc
next_inj (constant c) (bound n) e = absurd cc
next_inj (constant c) (constant d) e = cc
next_inj (constant c) (metavariable g) e = absurd cc
next_inj (metavariable g) (bound n) e = absurd cc
next_inj (metavariable g) (constant c) e = absurd cc
next_inj (metavariable g) (metavariable m) e = cc

zero-next : (h : LfHead) → bound zero ≡ next h → ⊥
zero-next (bound n) e = apart (bound_inj e)
  where
    bound_inj : {m : ℕ} → bound zero ≡ bound m → zero ≡ m
    bound_inj e = cc

    apart : zero ≡ suc n → ⊥
    apart e = omega arith
zero-next (constant c) e = cc
zero-next (metavariable g) e = cc

KeepsApart-lifted : (ξ : Renaming) → KeepsApart ξ → KeepsApart (lifted ξ)
KeepsApart-lifted ξ apart =
    each_head (λ h. (k : LfHead) → lifted ξ h ≡ lifted ξ k → h ≡ k)
    (each_head (λ k. bound zero ≡ lifted ξ k → bound zero ≡ k) (λ e. refl) (λ k e. absurd (zero-next (ξ k) (e ∙ at_next k))))
    (λ h. each_head (λ k. lifted ξ (next h) ≡ lifted ξ k → next h ≡ k)
    (λ e. absurd (zero-next (ξ h) (sym e ∙ at_next h)))
    (λ k e. ap next (apart h k (next_inj (ξ h) (ξ k) (sym (at_next h) ∙ e ∙ at_next k)))))
  where
    at_next : (h : LfHead) → lifted ξ (next h) ≡ next (ξ h)
    at_next h = extended-next (bound zero) (λ k. next (ξ k)) h

mutual
  pub rename_inj : (t u : LfTerm) (ξ : Renaming) → KeepsApart ξ → rename ξ t ≡ rename ξ u → t ≡ u
  rename_inj (lam b) (lam c) ξ apart e = ap lam (rename_inj b c (lifted ξ) (KeepsApart-lifted ξ apart) cc)
  rename_inj (lam b) (at h ts) ξ apart e = absurd cc
  rename_inj (at h ts) (lam b) ξ apart e = absurd cc
  rename_inj (at h ts) (at k us) ξ apart e = ap₂ at (apart h k cc) (rename_spine_inj ts us ξ apart cc)

  pub rename_spine_inj : (ts us : Spine) (ξ : Renaming) → KeepsApart ξ → rename_spine ξ ts ≡ rename_spine ξ us → ts ≡ us
  rename_spine_inj no_args no_args ξ apart e = refl
  rename_spine_inj no_args (arg u us) ξ apart e = absurd cc
  rename_spine_inj (arg t ts) no_args ξ apart e = absurd cc
  rename_spine_inj (arg t ts) (arg u us) ξ apart e = ap₂ arg (rename_inj t u ξ apart cc) (rename_spine_inj ts us ξ apart cc)
