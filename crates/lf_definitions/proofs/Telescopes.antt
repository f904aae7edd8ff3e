-- Replacements that put a list for the innermost variables, under local binders.
use Rattle.std.proofs.Common.{◌≡◌, ℕ, zero, suc, ◌+◌, ◌-◌, ◌<◌, ◌≤◌, ◌↔◌, ◌⊎◌, inl, inr, Some, List, [], ◌∷◌, ◌++◌, length, refl, sym, ap, ◌∙◌, subst, subst₂, arith}
use mathlib.Core.Path.{fun_ext}
use Rattle.lf_definitions.specs.Syntax.{LfHead, bound, constant, metavariable, LfTerm, Spine, no_args, arg, SimpleType, base, arrows, shape_size, arguments, arity, args_count, arg_at, joined}
use Rattle.lf_definitions.specs.Renaming.{next, Renaming, lifted, rename, next_by, lifted_by}
use Rattle.lf_definitions.specs.Shaping.{Scope, under, under_all, Shaped, shaped_none, shaped_arg, shape_at, ShapedList}
use Rattle.lf_definitions.specs.Substitution.{stays, becomes, rename_image, Replacement, up, up_by, push, push_all, Substituted, SubstitutedSpine, substituted_none, substituted_arg}
use Rattle.lf_definitions.specs.Expansion.{own_variables}
use Rattle.lf_definitions.proofs.Uniqueness.{unique}
use Rattle.lf_definitions.proofs.Renaming.{extended-next, same_head, lifted-same_head, rename-same_head, KeepsShapes, KeepsShapes-lifted, Follows, Follows-up, Substituted-rename, Shaped-rename}
use Rattle.lf_definitions.specs.Replacements.{Goes}
use Rattle.lf_definitions.proofs.Totality.{Goes-up, Goes-push, total}
use Rattle.lf_definitions.specs.Replacements.{IsThen}
use Rattle.lf_definitions.proofs.Composition.{IsThen-up, IsThen-push_before, IsThen-push_after, composes}
use Rattle.lf_definitions.proofs.Expansion.{rename_image-same_head, up_by-next_by, push_all-next_by, IsAlike, IsAlike-up, Alike, alike_stays, own_alike, unit}

pub under_all-append : (xs ys : List SimpleType) (Γ : Scope) → under_all (xs ++ ys) Γ ≡ under_all ys (under_all xs Γ)
under_all-append [] ys Γ = refl
under_all-append (x ∷ xs) ys Γ = under_all-append xs ys (under x Γ)

pub up_by-length-append : (xs ys : List SimpleType) (σ : Replacement) → up_by (length (xs ++ ys)) σ ≡ up_by (length ys) (up_by (length xs) σ)
up_by-length-append [] ys σ = refl
up_by-length-append (x ∷ xs) ys σ = up_by-length-append xs ys (up σ)

pub push_all-joined : (vs ws : Spine) (σ : Replacement) → push_all (joined vs ws) σ ≡ push_all ws (push_all vs σ)
push_all-joined no_args ws σ = refl
push_all-joined (arg v vs) ws σ = push_all-joined vs ws (push v σ)

pub arity-arrows : (xs : List SimpleType) → arity (arrows xs base) ≡ length xs
arity-arrows [] = refl
arity-arrows (x ∷ xs) = ap suc (arity-arrows xs)

pub arguments-arrows : (xs : List SimpleType) → arguments (arrows xs base) ≡ xs
arguments-arrows [] = refl
arguments-arrows (x ∷ xs) = ap (λ ys. x ∷ ys) (arguments-arrows xs)

pub args_count-length : (xs : List SimpleType) (Γ : Scope) (vs : Spine) → ShapedList Γ vs xs → args_count vs ≡ length xs
args_count-length [] Γ no_args shaped_none = refl
args_count-length [] Γ (arg v vs) p = elim p [ ]
args_count-length (x ∷ xs) Γ no_args p = elim p [ ]
args_count-length (x ∷ xs) Γ (arg v vs) (shaped_arg p ps) = ap suc (args_count-length xs Γ vs ps)

pub Shaped-arg_at : (xs : List SimpleType) (Γ : Scope) (vs : Spine) (k : ℕ) (s : SimpleType) (u : LfTerm) → ShapedList Γ vs xs → shape_at xs k ≡ Some s → arg_at vs k ≡ Some u → Shaped Γ u s
Shaped-arg_at [] Γ no_args k s u shaped_none e f = absurd (cc)
Shaped-arg_at [] Γ (arg v vs) k s u p e f = elim p [ ]
Shaped-arg_at (x ∷ xs) Γ no_args k s u p e f = elim p [ ]
Shaped-arg_at (x ∷ xs) Γ (arg v vs) zero s u (shaped_arg p ps) e f =
    let same_shape : x ≡ s = cc in
    let same_term : v ≡ u = cc in
    subst₂ (Shaped Γ) same_term same_shape p
Shaped-arg_at (x ∷ xs) Γ (arg v vs) (suc k) s u (shaped_arg p ps) e f = Shaped-arg_at xs Γ vs k s u ps e f

pub Goes-push_all : (p : ℕ) (inner : List SimpleType) (sub : Spine) (Γ Δ : Scope) (σ : Replacement) → Goes p Γ Δ σ → ShapedList Δ sub inner → shape_size (arrows inner base) ≤ p → Goes p (under_all inner Γ) Δ (push_all sub σ)
Goes-push_all p [] no_args Γ Δ σ goes shaped_none small = goes
Goes-push_all p [] (arg v sub) Γ Δ σ goes shaped small = elim shaped [ ]
Goes-push_all p (a ∷ inner) no_args Γ Δ σ goes shaped small = elim shaped [ ]
Goes-push_all p (a ∷ inner) (arg v sub) Γ Δ σ goes (shaped_arg w ws) small =
    Goes-push_all p inner sub (under a Γ) Δ (push v σ) (Goes-push p Γ Δ σ a v goes w (omega arith)) ws (omega arith)

pub Goes-up_by : (p : ℕ) (local : List SimpleType) (Γ Δ : Scope) (σ : Replacement) → Goes p Γ Δ σ → Goes p (under_all local Γ) (under_all local Δ) (up_by (length local) σ)
Goes-up_by p [] Γ Δ σ goes = goes
Goes-up_by p (a ∷ local) Γ Δ σ goes = Goes-up_by p local (under a Γ) (under a Δ) (up σ) (Goes-up p Γ Δ σ a goes)

pub IsThen-up_by : (n : ℕ) (σ τ ρ : Replacement) → IsThen σ τ ρ → IsThen (up_by n σ) (up_by n τ) (up_by n ρ)
IsThen-up_by zero σ τ ρ then = then
IsThen-up_by (suc n) σ τ ρ then = IsThen-up_by n (up σ) (up τ) (up ρ) (IsThen-up σ τ ρ then)

pub IsThen-push_all_before : (σ τ ρ : Replacement) {vs ws : Spine} → SubstitutedSpine τ vs ws → IsThen σ τ ρ → IsThen (push_all vs σ) τ (push_all ws ρ)
IsThen-push_all_before σ τ ρ substituted_none then = then
IsThen-push_all_before σ τ ρ (substituted_arg {t = t} {v = v} p ps) then =
    IsThen-push_all_before (push t σ) τ (push v ρ) ps (IsThen-push_before σ τ ρ p then)

pub IsThen-push_all_after : (vs : Spine) (σ τ ρ : Replacement) → IsThen σ τ ρ → IsThen (up_by (args_count vs) σ) (push_all vs τ) (push_all vs ρ)
IsThen-push_all_after no_args σ τ ρ then = then
IsThen-push_all_after (arg v vs) σ τ ρ then = IsThen-push_all_after vs (up σ) (push v τ) (push v ρ) (IsThen-push_after σ τ ρ v then)

-- the result by `ρ` is that of `τ` on the result by `σ`, and back
pub composes_iff : (p q m : ℕ) (Γ Δ Θ : Scope) (σ τ ρ : Replacement) → Goes p Γ Δ σ → Goes q Δ Θ τ → Goes m Γ Θ ρ → IsThen σ τ ρ →
    (s : SimpleType) (t r x : LfTerm) → Shaped Γ t s → Substituted σ t r → Substituted τ r x ↔ Substituted ρ t x
composes_iff p q m Γ Δ Θ σ τ ρ goes goes_τ goes_ρ then s t r x shaped result = (
  λ y. let c = total m shaped Θ ρ goes_ρ in
      let z : Substituted τ r c.0 = composes p q Γ Δ Θ σ τ ρ goes goes_τ then t s r c.0 shaped result c.1 in
      subst (Substituted ρ t) (unique z y) c.1,
  λ y. composes p q Γ Δ Θ σ τ ρ goes goes_τ then t s r x shaped result y,
)

-- heads by their numbers
pub next_by-bound : (n i : ℕ) → next_by n (bound i) ≡ bound (n + i)
next_by-bound zero i = ap bound (omega arith)
next_by-bound (suc n) i = next_by-bound n (suc i) ∙ ap bound (omega arith)

pub next_by-constant : (n c : ℕ) → next_by n (constant c) ≡ constant c
next_by-constant zero c = refl
next_by-constant (suc n) c = next_by-constant n c

pub next_by-metavariable : (n g : ℕ) → next_by n (metavariable g) ≡ metavariable g
next_by-metavariable zero g = refl
next_by-metavariable (suc n) g = next_by-metavariable n g

eq_or_lt : (n i : ℕ) → i < suc n → (i ≡ n) ⊎ (i < n)
eq_or_lt n i small = grind arith

pub up_by-bound_small : (n i : ℕ) (σ : Replacement) → i < n → up_by n σ (bound i) ≡ stays (bound i)
up_by-bound_small zero i σ small = absurd (omega arith)
up_by-bound_small (suc n) i σ small = at_place (eq_or_lt n i small) (λ less. up_by-bound_small n i (up σ) less)
  where
    at_place : (i ≡ n) ⊎ (i < n) → (i < n → up_by n (up σ) (bound i) ≡ stays (bound i)) → up_by n (up σ) (bound i) ≡ stays (bound i)
    at_place (inl e) smaller =
        let same : next_by n (bound zero) ≡ bound i = next_by-bound n zero ∙ ap bound (omega arith) in
        ap (up_by n (up σ)) (sym same) ∙ up_by-next_by n (up σ) (bound zero) ∙ ap stays same
    at_place (inr less) smaller = smaller less

pub up_by-bound : (n i : ℕ) (σ : Replacement) → up_by n σ (bound (n + i)) ≡ rename_image (next_by n) (σ (bound i))
up_by-bound n i σ = ap (up_by n σ) (sym (next_by-bound n i)) ∙ up_by-next_by n σ (bound i)

pub push_all-bound : (vs : Spine) (k : ℕ) (u : LfTerm) (σ : Replacement) → arg_at vs k ≡ Some u → push_all vs σ (bound (args_count vs - suc k)) ≡ becomes u
push_all-bound no_args k u σ e = absurd (cc)
push_all-bound (arg v vs) zero u σ e =
    let place : bound (suc (args_count vs) - 1) ≡ next_by (args_count vs) (bound zero) = ap bound (omega arith) ∙ sym (next_by-bound (args_count vs) zero) in
    let same : v ≡ u = cc in
    ap (push_all vs (push v σ)) place ∙ push_all-next_by vs (push v σ) (bound zero) ∙ ap becomes same
push_all-bound (arg v vs) (suc k) u σ e =
    let place : suc (args_count vs) - suc (suc k) ≡ args_count vs - suc k = omega arith in
    ap (λ n. push_all vs (push v σ) (bound n)) place ∙ push_all-bound vs k u (push v σ) e

pub push_all-bound_greater : (vs : Spine) (i : ℕ) (σ : Replacement) → push_all vs σ (bound (args_count vs + i)) ≡ σ (bound i)
push_all-bound_greater vs i σ = ap (push_all vs σ) (sym (next_by-bound (args_count vs) i)) ∙ push_all-next_by vs σ (bound i)

pub push_all-constant : (vs : Spine) (c : ℕ) (σ : Replacement) → push_all vs σ (constant c) ≡ σ (constant c)
push_all-constant no_args c σ = refl
push_all-constant (arg v vs) c σ = push_all-constant vs c (push v σ)

pub push_all-metavariable : (vs : Spine) (g : ℕ) (σ : Replacement) → push_all vs σ (metavariable g) ≡ σ (metavariable g)
push_all-metavariable no_args g σ = refl
push_all-metavariable (arg v vs) g σ = push_all-metavariable vs g (push v σ)

pub up_by-constant : (n c : ℕ) (σ : Replacement) → up_by n σ (constant c) ≡ rename_image (next_by n) (σ (constant c))
up_by-constant n c σ = ap (up_by n σ) (sym (next_by-constant n c)) ∙ up_by-next_by n σ (constant c)

pub up_by-metavariable : (n g : ℕ) (σ : Replacement) → up_by n σ (metavariable g) ≡ rename_image (next_by n) (σ (metavariable g))
up_by-metavariable n g σ = ap (up_by n σ) (sym (next_by-metavariable n g)) ∙ up_by-next_by n σ (metavariable g)

-- under local binders
pub under_all-next_by_length : (local : List SimpleType) (Γ : Scope) (h : LfHead) → under_all local Γ (next_by (length local) h) ≡ Γ h
under_all-next_by_length [] Γ h = refl
under_all-next_by_length (a ∷ local) Γ h = under_all-next_by_length local (under a Γ) (next h) ∙ extended-next (Some a) Γ h

pub Shaped-raise_by : (local : List SimpleType) (Γ : Scope) (t : LfTerm) (s : SimpleType) → Shaped Γ t s → Shaped (under_all local Γ) (rename (next_by (length local)) t) s
Shaped-raise_by local Γ t s p = Shaped-rename p (next_by (length local)) (under_all local Γ) (λ h c e. under_all-next_by_length local Γ h ∙ e)

lifted_by-same_head : (n : ℕ) → lifted_by n same_head ≡ same_head
lifted_by-same_head zero = refl
lifted_by-same_head (suc n) = ap (lifted_by n) (fun_ext lifted-same_head) ∙ lifted_by-same_head n

KeepsShapes-lifted_by : (local : List SimpleType) (ξ : Renaming) (Γ Δ : Scope) → KeepsShapes ξ Γ Δ → KeepsShapes (lifted_by (length local) ξ) (under_all local Γ) (under_all local Δ)
KeepsShapes-lifted_by [] ξ Γ Δ keeps = keeps
KeepsShapes-lifted_by (a ∷ local) ξ Γ Δ keeps = KeepsShapes-lifted_by local (lifted ξ) (under a Γ) (under a Δ) (KeepsShapes-lifted ξ Γ Δ a keeps)

IsAlike-up_by : (p : ℕ) (local : List SimpleType) (ξ : Renaming) (Γ : Scope) (ρ : Replacement) → IsAlike p ξ Γ ρ → IsAlike p (lifted_by (length local) ξ) (under_all local Γ) (up_by (length local) ρ)
IsAlike-up_by p [] ξ Γ ρ alike = alike
IsAlike-up_by p (a ∷ local) ξ Γ ρ alike = IsAlike-up_by p local (lifted ξ) (under a Γ) (up ρ) (IsAlike-up p ξ Γ ρ a alike)

Follows-up_by : (n : ℕ) (ξ ζ : Renaming) (σ τ : Replacement) → Follows ξ ζ σ τ → Follows (lifted_by n ξ) (lifted_by n ζ) (up_by n σ) (up_by n τ)
Follows-up_by zero ξ ζ σ τ follows = follows
Follows-up_by (suc n) ξ ζ σ τ follows = Follows-up_by n (lifted ξ) (lifted ζ) (up σ) (up τ) (Follows-up ξ ζ σ τ follows)

-- the variables of a telescope put for themselves
pub own_variables_unit : (outer : Scope) (inner local : List SimpleType) (s : SimpleType) (t : LfTerm) → Shaped (under_all local (under_all inner outer)) t s →
    Substituted (up_by (length local) (push_all (own_variables (arrows inner base)) stays)) (rename (lifted_by (length local) (lifted_by (length inner) (next_by (length inner)))) t) t
own_variables_unit outer inner local s t shaped =
    let d = length local in
    let shape = arrows inner base in
    let p = shape_size shape in
    let Γ = under_all inner outer in
    let τ = push_all (own_variables shape) stays in
    let ξ = lifted_by (length inner) (next_by (length inner)) in
    let ρ : Replacement = λ h. τ (ξ h) in
    let alike : IsAlike p same_head Γ ρ =
    subst (λ n. (h : LfHead) (c : SimpleType) → Γ h ≡ Some c → Alike p (τ (lifted_by n (next_by n) h)) h c) (arity-arrows inner)
    (subst (λ xs. (h : LfHead) (c : SimpleType) → under_all xs outer h ≡ Some c → Alike p (τ (lifted_by (arity shape) (next_by (arity shape)) h)) h c)
    (arguments-arrows inner)
    (own_alike p shape (omega arith) outer stays (next_by (arity shape)) (λ h c e. alike_stays))) in
    let same : Substituted (up_by d ρ) t (rename (lifted_by d same_head) t) =
    unit p (under_all local Γ) (under_all local Γ) (lifted_by d same_head) (up_by d ρ)
    (KeepsShapes-lifted_by local same_head Γ Γ (λ h c e. e)) (IsAlike-up_by p local same_head Γ ρ alike) t s shaped in
    let moved : Substituted (up_by d τ) (rename (lifted_by d ξ) t) (rename (lifted_by d same_head) (rename (lifted_by d same_head) t)) =
    Substituted-rename same (lifted_by d ξ) (lifted_by d same_head) (up_by d τ)
    (Follows-up_by d ξ same_head ρ τ (λ h. sym (rename_image-same_head (ρ h)))) in
    let unchanged : (x : LfTerm) → rename (lifted_by d same_head) x ≡ x = λ x. ap (λ ζ. rename ζ x) (lifted_by-same_head d) ∙ rename-same_head x in
    subst (Substituted (up_by d τ) (rename (lifted_by d ξ) t)) (unchanged _ ∙ unchanged t) moved
