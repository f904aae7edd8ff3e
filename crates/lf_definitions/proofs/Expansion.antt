-- Eta-long variables: they have the shape of their head, a term put for one stands in its place, and putting them for heads renames those.
use Rattle.std.proofs.Common.{◌≡◌, ℕ, zero, suc, ◌<◌, ◌≤◌, Some, refl, sym, ap, ◌∙◌, subst, subst₂, arith}
use Rattle.lf_definitions.specs.Syntax.{LfHead, bound, LfTerm, lam, at, Spine, no_args, arg, SimpleType, base, arrow, shape_size, arguments, arity, args_count, lams}
use Rattle.lf_definitions.specs.Renaming.{next, Renaming, lifted, rename, rename_spine, next_by, lifted_by}
use Rattle.lf_definitions.specs.Shaping.{Scope, under, under_all, Shaped, shaped_lam, shaped_at, ShapedSpine, shaped_none, shaped_arg}
use Rattle.lf_definitions.specs.Substitution.{Image, stays, becomes, rename_image, Replacement, up, up_by, push, push_all, Substituted, substituted_lam, substituted_stays, substituted_becomes, SubstitutedSpine, substituted_none, substituted_arg, Applied, applied_none, applied_arg}
use Rattle.lf_definitions.specs.Expansion.{own_variables, eta}
use Rattle.lf_definitions.proofs.Uniqueness.{unique}
use Rattle.lf_definitions.proofs.Renaming.{extended-next, each_head, after, same_head, rename-rename, rename-same_head, KeepsShapes, KeepsShapes-lifted, ShapedSpine-rename_spine, Substituted-rename, renames, Substituted-renames}
use Rattle.lf_definitions.proofs.Options.{Some-Some}

pub rename_image-same_head : (i : Image) → rename_image same_head i ≡ i
rename_image-same_head (stays k) = refl
rename_image-same_head (becomes u) = ap becomes (rename-same_head u)

pub rename_image-rename_image : (ζ ξ : Renaming) (i : Image) → rename_image ζ (rename_image ξ i) ≡ rename_image (after ζ ξ) i
rename_image-rename_image ζ ξ (stays k) = refl
rename_image-rename_image ζ ξ (becomes u) = ap becomes (rename-rename u ζ ξ)

-- Under binders a head from outside has the image that it has outside.
pub up_by-next_by : (n : ℕ) (σ : Replacement) (h : LfHead) → up_by n σ (next_by n h) ≡ rename_image (next_by n) (σ h)
up_by-next_by zero σ h = sym (rename_image-same_head (σ h))
up_by-next_by (suc n) σ h =
    up_by-next_by n (up σ) (next h)
    ∙ ap (rename_image (next_by n)) (extended-next (stays (bound zero)) (λ k. rename_image next (σ k)) h)
    ∙ rename_image-rename_image (next_by n) next (σ h)

-- The terms put for the innermost variables don't matter to a head from outside.
pub push_all-next_by : (vs : Spine) (σ : Replacement) (h : LfHead) → push_all vs σ (next_by (args_count vs) h) ≡ σ h
push_all-next_by no_args σ h = refl
push_all-next_by (arg v vs) σ h = push_all-next_by vs (push v σ) (next h) ∙ extended-next (becomes v) σ h

pub args_count-arity : {Γ : Scope} {ts : Spine} {s : SimpleType} → ShapedSpine Γ ts s → args_count ts ≡ arity s
args_count-arity shaped_none = refl
args_count-arity (shaped_arg p ps) = ap suc (args_count-arity ps)

pub args_count-own_variables : (s : SimpleType) → args_count (own_variables s) ≡ arity s
args_count-own_variables base = refl
args_count-own_variables (arrow a s) = ap suc (args_count-own_variables s)

pub Substituted-lams : (n : ℕ) (σ : Replacement) (b r : LfTerm) → Substituted (up_by n σ) b r → Substituted σ (lams n b) (lams n r)
Substituted-lams zero σ b r p = p
Substituted-lams (suc n) σ b r p = substituted_lam (Substituted-lams n (up σ) b r p)

pub Applied-lams : (vs : Spine) (σ : Replacement) (b r : LfTerm) → Substituted (push_all vs σ) b r → Applied σ (lams (args_count vs) b) vs r
Applied-lams no_args σ b r p = applied_none p
Applied-lams (arg v vs) σ b r p = applied_arg (Applied-lams vs (push v σ) b r p)

pub rename-lams : (n : ℕ) (ξ : Renaming) (b : LfTerm) → rename ξ (lams n b) ≡ lams n (rename (lifted_by n ξ) b)
rename-lams zero ξ b = refl
rename-lams (suc n) ξ b = ap lam (rename-lams n (lifted ξ) b)

-- A shaped term has as many abstractions as its shape takes arguments.
pub stripped : {Γ : Scope} {u : LfTerm} {s : SimpleType} → Shaped Γ u s → (b : LfTerm) × (u ≡ lams (arity s) b) × Shaped (under_all (arguments s) Γ) b base
stripped (shaped_lam p) = let r = stripped p in (r.0, ap lam r.1, r.2)
stripped (shaped_at s e ps) = (at _ _, refl, shaped_at s e ps)

pub Shaped-lams : (s : SimpleType) (Γ : Scope) (b : LfTerm) → Shaped (under_all (arguments s) Γ) b base → Shaped Γ (lams (arity s) b) s
Shaped-lams base Γ b p = p
Shaped-lams (arrow a s) Γ b p = shaped_lam (Shaped-lams s (under a Γ) b p)

pub under_all-next_by : (s : SimpleType) (Γ : Scope) (h : LfHead) → under_all (arguments s) Γ (next_by (arity s) h) ≡ Γ h
under_all-next_by base Γ h = refl
under_all-next_by (arrow a s) Γ h = under_all-next_by s (under a Γ) (next h) ∙ extended-next (Some a) Γ h

-- A shape's own variables are known in a scope.
abbrev pub Knows : Scope → SimpleType → Type 0
Knows Γ base = Unit {0}
Knows Γ (arrow a s) = (Γ (next_by (arity s) (bound zero)) ≡ Some a) × Knows Γ s

Knows-under_all : (s : SimpleType) (Γ : Scope) → Knows (under_all (arguments s) Γ) s
Knows-under_all base Γ = tt
Knows-under_all (arrow a s) Γ = (under_all-next_by s (under a Γ) (bound zero), Knows-under_all s (under a Γ))

pub ShapedSpine-own_variables : (s : SimpleType) (Γ : Scope) → Knows Γ s → ShapedSpine Γ (own_variables s) s
ShapedSpine-own_variables base Γ knows = shaped_none
ShapedSpine-own_variables (arrow a s) Γ knows =
    shaped_arg
    (Shaped-lams a Γ _ (shaped_at a (under_all-next_by a Γ _ ∙ knows.0) (ShapedSpine-own_variables a (under_all (arguments a) Γ) (Knows-under_all a Γ))))
    (ShapedSpine-own_variables s Γ knows.1)

-- The eta-long form of a head has its shape.
pub Shaped-eta : (s : SimpleType) (Γ : Scope) (h : LfHead) → Γ h ≡ Some s → Shaped Γ (eta h s) s
Shaped-eta s Γ h e =
    Shaped-lams s Γ _ (shaped_at s (under_all-next_by s Γ h ∙ e) (ShapedSpine-own_variables s (under_all (arguments s) Γ) (Knows-under_all s Γ)))

-- A replacement keeps a shape's own variables.
abbrev Keeps : Replacement → SimpleType → Type 0
Keeps σ base = Unit {0}
Keeps σ (arrow a s) = (σ (next_by (arity s) (bound zero)) ≡ stays (next_by (arity s) (bound zero))) × Keeps σ s

Keeps-up_by : (s : SimpleType) (σ : Replacement) → Keeps (up_by (arity s) σ) s
Keeps-up_by base σ = tt
Keeps-up_by (arrow a s) σ = (up_by-next_by (arity s) (up σ) (bound zero), Keeps-up_by s (up σ))

own_variables_kept : (s : SimpleType) (σ : Replacement) → Keeps σ s → SubstitutedSpine σ (own_variables s) (own_variables s)
own_variables_kept base σ keeps = substituted_none
own_variables_kept (arrow a s) σ keeps =
    let x = next_by (arity s) (bound zero) in
    substituted_arg
    (Substituted-lams (arity a) σ _ _ (substituted_stays (up_by-next_by (arity a) σ x ∙ ap (rename_image (next_by (arity a))) keeps.0)
    (own_variables_kept a (up_by (arity a) σ) (Keeps-up_by a σ))))
    (own_variables_kept s σ keeps.1)

-- A head that stays gives its eta-long form.
pub Substituted-eta : (s : SimpleType) (σ : Replacement) (h k : LfHead) → σ h ≡ stays k → Substituted σ (eta h s) (eta k s)
Substituted-eta s σ h k e =
    Substituted-lams (arity s) σ _ _ (substituted_stays (up_by-next_by (arity s) σ h ∙ ap (rename_image (next_by (arity s))) e)
    (own_variables_kept s (up_by (arity s) σ) (Keeps-up_by s σ)))

pub rename-eta : (ξ : Renaming) (h : LfHead) (s : SimpleType) → rename ξ (eta h s) ≡ eta (ξ h) s
rename-eta ξ h s = unique (Substituted-renames (eta h s) ξ) (Substituted-eta s (renames ξ) h (ξ h) refl)

-- A head stays under another number, or its eta-long form under that number is put for it, where its shape is below a bound.
pub data Alike : ℕ → Image → LfHead → SimpleType → Type 0 where
  alike_stays : {p : ℕ} {k : LfHead} {s : SimpleType} → Alike p (stays k) k s
  alike_eta : {p : ℕ} {k : LfHead} {s : SimpleType} → shape_size s < p → Alike p (becomes (eta k s)) k s

abbrev pub IsAlike : ℕ → Renaming → Scope → Replacement → Type 0
IsAlike p ξ Γ ρ = (h : LfHead) (s : SimpleType) → Γ h ≡ Some s → Alike p (ρ h) (ξ h) s

Alike-next : {p : ℕ} {i : Image} {k : LfHead} {s : SimpleType} → Alike p i k s → Alike p (rename_image next i) (next k) s
Alike-next alike_stays = alike_stays
Alike-next {p} (alike_eta {k = k} {s = s} small) = subst (λ u. Alike p (becomes u) (next k) s) (sym (rename-eta next k s)) (alike_eta small)

pub IsAlike-up : (p : ℕ) (ξ : Renaming) (Γ : Scope) (ρ : Replacement) (a : SimpleType) → IsAlike p ξ Γ ρ → IsAlike p (lifted ξ) (under a Γ) (up ρ)
IsAlike-up p ξ Γ ρ a alike =
    each_head (λ h. (s : SimpleType) → under a Γ h ≡ Some s → Alike p (up ρ h) (lifted ξ h) s)
    (λ s e. alike_stays)
    (λ h s e. subst₂ (λ i k. Alike p i k s)
    (sym (extended-next (stays (bound zero)) (λ k. rename_image next (ρ k)) h))
    (sym (extended-next (bound zero) (λ k. next (ξ k)) h))
    (Alike-next (alike h s (sym (extended-next (Some a) Γ h) ∙ e))))

-- Putting eta-long forms for heads renames them.
abbrev pub IsUnit : ℕ → Type 0
IsUnit p = (Γ Δ : Scope) (ξ : Renaming) (ρ : Replacement) → KeepsShapes ξ Γ Δ → IsAlike p ξ Γ ρ → (t : LfTerm) (s : SimpleType) → Shaped Γ t s → Substituted ρ t (rename ξ t)

-- Under a shape's own binders, putting its variables for themselves.
pub own_alike : (p : ℕ) (s : SimpleType) → shape_size s ≤ p → (Γ : Scope) (τ : Replacement) (ξ : Renaming) →
    ((h : LfHead) (c : SimpleType) → Γ h ≡ Some c → Alike p (τ (ξ h)) (next_by (arity s) h) c) →
    (h : LfHead) (c : SimpleType) → under_all (arguments s) Γ h ≡ Some c → Alike p (push_all (own_variables s) τ (lifted_by (arity s) ξ h)) h c
own_alike p base small Γ τ ξ alike = alike
own_alike p (arrow a s) small Γ τ ξ alike =
    let x = next_by (arity s) (bound zero) in
    let size : shape_size a < p = omega arith in
    own_alike p s (omega arith) (under a Γ) (push (eta x a) τ) (lifted ξ)
    (each_head (λ h. (c : SimpleType) → under a Γ h ≡ Some c → Alike p (push (eta x a) τ (lifted ξ h)) (next_by (arity s) h) c)
    (λ c e. subst (λ d. Alike p (becomes (eta x a)) x d) (Some-Some e) (alike_eta size))
    (λ h c e. subst (λ i. Alike p i (next_by (arity s) (next h)) c)
    (sym (ap (push (eta x a) τ) (extended-next (bound zero) (λ k. next (ξ k)) h) ∙ extended-next (becomes (eta x a)) τ (ξ h)))
    (alike h c (sym (extended-next (Some a) Γ h) ∙ e))))

-- A term put for an eta-long head stands in its place.
put_eta : (s : SimpleType) → IsUnit (shape_size s) → (σ : Replacement) (h : LfHead) (u : LfTerm) → σ h ≡ becomes u → (Δ : Scope) → Shaped Δ u s → Substituted σ (eta h s) u
put_eta s unit σ h u e Δ shaped =
    let n = arity s in
    let b = (stripped shaped).0 in
    let u-lams : u ≡ lams n b = (stripped shaped).1 in
    let inside = under_all (arguments s) Δ in
    let τ = push_all (own_variables s) stays in
    let ξ = lifted_by n (next_by n) in
    let ρ : Replacement = λ k. τ (ξ k) in
    let same : Substituted ρ b (rename same_head b) =
    unit inside inside same_head ρ (λ k c f. f) (own_alike (shape_size s) s (omega arith) Δ stays (next_by n) (λ k c f. alike_stays)) b base (stripped shaped).2 in
    let moved : Substituted τ (rename ξ b) (rename same_head (rename same_head b)) =
    Substituted-rename same ξ same_head τ (λ k. sym (rename_image-same_head (ρ k))) in
    let body : Substituted τ (rename ξ b) b =
    subst (Substituted τ (rename ξ b)) (ap (rename same_head) (rename-same_head b) ∙ rename-same_head b) moved in
    let applied : Applied stays (lams (args_count (own_variables s)) (rename ξ b)) (own_variables s) b = Applied-lams (own_variables s) stays (rename ξ b) b body in
    let head : lams (args_count (own_variables s)) (rename ξ b) ≡ rename (next_by n) u =
    ap (λ m. lams m (rename ξ b)) (args_count-own_variables s) ∙ sym (rename-lams n (next_by n) b) ∙ ap (rename (next_by n)) (sym u-lams) in
    subst (Substituted σ (eta h s)) (sym u-lams)
    (Substituted-lams n σ _ b
    (substituted_becomes (rename (next_by n) u) (own_variables s) (up_by-next_by n σ h ∙ ap (rename_image (next_by n)) e)
    (own_variables_kept s (up_by n σ) (Keeps-up_by s σ))
    (subst (λ x. Applied stays x (own_variables s) b) head applied)))

module _ (p : ℕ) (below : (q : ℕ) → q < p → IsUnit q) where
  own_variables_put : (Δ : Scope) {vs : Spine} {s : SimpleType} → ShapedSpine Δ vs s → shape_size s ≤ p → (τ : Replacement) → SubstitutedSpine (push_all vs τ) (own_variables s) vs
  own_variables_put Δ shaped_none small τ = substituted_none
  own_variables_put Δ (shaped_arg {t = v} {ts = vs} {a = a} {s = s} w ws) small τ =
      let n = arity s in
      let place : push_all vs (push v τ) (next_by n (bound zero)) ≡ becomes v =
      ap (λ m. push_all vs (push v τ) (next_by m (bound zero))) (sym (args_count-arity ws)) ∙ push_all-next_by vs (push v τ) (bound zero) in
      substituted_arg
      (put_eta a (below (shape_size a) (omega arith)) (push_all vs (push v τ)) (next_by n (bound zero)) v place Δ w)
      (own_variables_put Δ ws (omega arith) (push v τ))

  -- an eta-long head applied to arguments
  applied_eta : (Δ : Scope) (k : LfHead) (vs : Spine) (s : SimpleType) → ShapedSpine Δ vs s → shape_size s ≤ p → Applied stays (eta k s) vs (at k vs)
  applied_eta Δ k vs s shaped small =
      let b = at (next_by (arity s) k) (own_variables s) in
      let place : push_all vs stays (next_by (arity s) k) ≡ stays k =
      ap (λ m. push_all vs stays (next_by m k)) (sym (args_count-arity shaped)) ∙ push_all-next_by vs stays k in
      subst (λ m. Applied stays (lams m b) vs (at k vs)) (args_count-arity shaped)
      (Applied-lams vs stays b (at k vs) (substituted_stays place (own_variables_put Δ shaped small stays)))

  at_head : (Δ : Scope) (ρ : Replacement) {i : Image} {h k : LfHead} {ts vs : Spine} {s : SimpleType} → ρ h ≡ i → Alike p i k s → ShapedSpine Δ vs s → SubstitutedSpine ρ ts vs → Substituted ρ (at h ts) (at k vs)
  at_head Δ ρ e alike_stays shaped args = substituted_stays e args
  at_head Δ ρ {vs = vs} e (alike_eta {k = k} {s = s} small) shaped args = substituted_becomes (eta k s) vs e args (applied_eta Δ k vs s shaped (omega arith))

  mutual
    step : {Γ : Scope} {t : LfTerm} {s : SimpleType} → Shaped Γ t s → (Δ : Scope) (ξ : Renaming) (ρ : Replacement) → KeepsShapes ξ Γ Δ → IsAlike p ξ Γ ρ → Substituted ρ t (rename ξ t)
    step (shaped_lam {Γ = Γ} {a = a} b) Δ ξ ρ keeps alike =
        substituted_lam (step b (under a Δ) (lifted ξ) (up ρ) (KeepsShapes-lifted ξ Γ Δ a keeps) (IsAlike-up p ξ Γ ρ a alike))
    step (shaped_at {h = h} s e ps) Δ ξ ρ keeps alike =
        at_head Δ ρ refl (alike h s e) (ShapedSpine-rename_spine ps ξ Δ keeps) (step_spine ps Δ ξ ρ keeps alike)

    step_spine : {Γ : Scope} {ts : Spine} {s : SimpleType} → ShapedSpine Γ ts s → (Δ : Scope) (ξ : Renaming) (ρ : Replacement) → KeepsShapes ξ Γ Δ → IsAlike p ξ Γ ρ → SubstitutedSpine ρ ts (rename_spine ξ ts)
    step_spine shaped_none Δ ξ ρ keeps alike = substituted_none
    step_spine (shaped_arg b bs) Δ ξ ρ keeps alike = substituted_arg (step b Δ ξ ρ keeps alike) (step_spine bs Δ ξ ρ keeps alike)

below_all : (p q : ℕ) → q < p → IsUnit q
below_all zero q small = absurd (omega arith)
below_all (suc p) q small = λ Γ Δ ξ ρ keeps alike t s shaped. step q (λ m less. below_all p m (omega arith)) shaped Δ ξ ρ keeps alike

pub unit : (p : ℕ) → IsUnit p
unit p = below_all (suc p) p (omega arith)

pub Substituted-eta_put : (s : SimpleType) (σ : Replacement) (h : LfHead) (u : LfTerm) → σ h ≡ becomes u → (Δ : Scope) → Shaped Δ u s → Substituted σ (eta h s) u
Substituted-eta_put s = put_eta s (unit (shape_size s))
