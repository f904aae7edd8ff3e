-- One substitution after another is a substitution.
use Rattle.std.proofs.Common.{◌≡◌, ℕ, zero, suc, ◌+◌, ◌<◌, ◌≤◌, refl, sym, ap, ◌∙◌, subst, subst₂, arith}
use Rattle.lf_definitions.specs.Syntax.{LfHead, bound, LfTerm, Spine, SimpleType, base, shape_size}
use Rattle.lf_definitions.specs.Renaming.{next, raise}
use Rattle.lf_definitions.specs.Shaping.{Scope, under, Shaped, shaped_lam, shaped_at, ShapedSpine, shaped_none, shaped_arg}
use Rattle.lf_definitions.specs.Substitution.{Image, stays, becomes, rename_image, Replacement, up, push, Substituted, substituted_lam, substituted_stays, substituted_becomes, SubstitutedSpine, substituted_none, substituted_arg, Applied, applied_none, applied_arg}
use Rattle.lf_definitions.specs.Replacements.{Then, then_stays, then_becomes, IsThen}
use Rattle.lf_definitions.proofs.Uniqueness.{unique, stays-becomes, stays_inj, becomes_inj}
use Rattle.lf_definitions.proofs.Renaming.{extended-next, each_head, same_head, rename-same_head, Substituted-rename, Substituted-stays}
use Rattle.lf_definitions.specs.Replacements.{Fits, fits_stays, fits_becomes, Goes}
use Rattle.lf_definitions.proofs.Totality.{Goes-more, Goes-stays, Goes-up, Goes-push, total, Shaped-Substituted, ShapedSpine-SubstitutedSpine}

pub IsThen-before : (τ : Replacement) → IsThen stays τ τ
IsThen-before τ h = then_stays refl

Then-stays : (i : Image) → Then stays i i
Then-stays (stays k) = then_stays refl
Then-stays (becomes u) = then_becomes (Substituted-stays u)

pub IsThen-after : (σ : Replacement) → IsThen σ stays σ
IsThen-after σ h = Then-stays (σ h)

Then-next : (τ : Replacement) {i j : Image} → Then τ i j → Then (up τ) (rename_image next i) (rename_image next j)
Then-next τ (then_stays {k = k} e) = then_stays (extended-next (stays (bound zero)) (λ h. rename_image next (τ h)) k ∙ ap (rename_image next) e)
Then-next τ (then_becomes p) = then_becomes (Substituted-rename p next next (up τ) (extended-next (stays (bound zero)) (λ h. rename_image next (τ h))))

pub IsThen-up : (σ τ ρ : Replacement) → IsThen σ τ ρ → IsThen (up σ) (up τ) (up ρ)
IsThen-up σ τ ρ then =
    each_head (λ h. Then (up τ) (up σ h) (up ρ h))
    (then_stays refl)
    (λ h. subst₂ (Then (up τ))
    (sym (extended-next (stays (bound zero)) (λ k. rename_image next (σ k)) h))
    (sym (extended-next (stays (bound zero)) (λ k. rename_image next (ρ k)) h))
    (Then-next τ (then h)))

pub IsThen-push_before : (σ τ ρ : Replacement) {v w : LfTerm} → Substituted τ v w → IsThen σ τ ρ → IsThen (push v σ) τ (push w ρ)
IsThen-push_before σ τ ρ {v} {w} p then =
    each_head (λ h. Then τ (push v σ h) (push w ρ h))
    (then_becomes p)
    (λ h. subst₂ (Then τ) (sym (extended-next (becomes v) σ h)) (sym (extended-next (becomes w) ρ h)) (then h))

Then-push : (τ : Replacement) (v : LfTerm) {i j : Image} → Then τ i j → Then (push v τ) (rename_image next i) j
Then-push τ v (then_stays {k = k} e) = then_stays (extended-next (becomes v) τ k ∙ e)
Then-push τ v (then_becomes {u = u} {r = r} p) =
    then_becomes (subst (Substituted (push v τ) (raise u)) (rename-same_head r)
    (Substituted-rename p next same_head (push v τ) (λ h. extended-next (becomes v) τ h ∙ unchanged (τ h))))
  where
    unchanged : (i : Image) → i ≡ rename_image same_head i
    unchanged (stays k) = refl
    unchanged (becomes x) = ap becomes (sym (rename-same_head x))

pub IsThen-push_after : (σ τ ρ : Replacement) (v : LfTerm) → IsThen σ τ ρ → IsThen (up σ) (push v τ) (push v ρ)
IsThen-push_after σ τ ρ v then =
    each_head (λ h. Then (push v τ) (up σ h) (push v ρ h))
    (then_stays refl)
    (λ h. subst₂ (Then (push v τ))
    (sym (extended-next (stays (bound zero)) (λ k. rename_image next (σ k)) h))
    (sym (extended-next (becomes v) ρ h))
    (Then-push τ v (then h)))

-- at two bounds: the result by `ρ` is that of `τ` on the result by `σ`
abbrev pub Composes : ℕ → ℕ → Type 0
Composes p q =
    (Γ Δ Θ : Scope) (σ τ ρ : Replacement) → Goes p Γ Δ σ → Goes q Δ Θ τ → IsThen σ τ ρ →
    (t : LfTerm) (s : SimpleType) (a b : LfTerm) → Shaped Γ t s → Substituted σ t a → Substituted ρ t b → Substituted τ a b

-- A term applied to arguments, and then `τ`, is what `τ` makes of the term, applied to what it makes of the arguments: both are the body under one
-- replacement, which has a result.
applied : (m q : ℕ) → Composes m q → Composes q m → {Δ : Scope} {vs : Spine} {s : SimpleType} → ShapedSpine Δ vs s → shape_size s ≤ m →
    {ws : Spine} (Θ : Scope) (τ : Replacement) → Goes q Δ Θ τ → SubstitutedSpine τ vs ws →
    (Γ Ξ : Scope) (before inside outside both : Replacement) → Goes m Γ Δ before → Goes q Γ Ξ inside → Goes m Ξ Θ outside → Goes (m + q) Γ Θ both →
    IsThen before τ both → IsThen inside outside both →
    {u w a b : LfTerm} → Shaped Γ u s → Applied before u vs a → Substituted inside u w → Applied outside w ws b → Substituted τ a b
applied m q first second {Δ} shaped_none small Θ τ goes substituted_none Γ Ξ before inside outside both goes_before goes_inside goes_outside goes_both then_before then_inside {u} {w} {a} {b} shaped (applied_none x) y (applied_none z) =
    let c = total (m + q) shaped Θ both goes_both in
    let left : Substituted τ a c.0 = first Γ Δ Θ before τ both goes_before goes then_before u base a c.0 shaped x c.1 in
    let right : Substituted outside w c.0 = second Γ Ξ Θ inside outside both goes_inside goes_outside then_inside u base w c.0 shaped y c.1 in
    subst (Substituted τ a) (unique right z) left
applied m q first second {Δ} (shaped_arg {t = v} {a = d} shaped_v shaped_vs) small Θ τ goes (substituted_arg {v = v'} p ps) Γ Ξ before inside outside both goes_before goes_inside goes_outside goes_both then_before then_inside (shaped_lam shaped) (applied_arg x) (substituted_lam y) (applied_arg z) =
    let shaped_v' : Shaped Θ v' d = Shaped-Substituted q Δ Θ τ goes shaped_v p in
    applied m q first second shaped_vs (omega arith) Θ τ goes ps (under d Γ) (under d Ξ) (push v before) (up inside) (push v' outside) (push v' both)
    (Goes-push m Γ Δ before d v goes_before shaped_v (omega arith))
    (Goes-up q Γ Ξ inside d goes_inside)
    (Goes-push m Ξ Θ outside d v' goes_outside shaped_v' (omega arith))
    (Goes-push (m + q) Γ Θ both d v' goes_both shaped_v' (omega arith))
    (IsThen-push_before before τ both p then_before)
    (IsThen-push_after inside outside both v' then_inside)
    shaped x y z

-- what `ρ` does to a head, where `σ` keeps it or puts a term
kept : (τ : Replacement) {i j : Image} → Then τ i j → (k : LfHead) → i ≡ stays k → τ k ≡ j
kept τ (then_stays e) k f = ap τ (stays_inj f refl) ∙ e
kept τ (then_becomes p) k f = absurd (stays-becomes f refl)

put : (τ : Replacement) {i j : Image} → Then τ i j → (u : LfTerm) → i ≡ becomes u → (w : LfTerm) × (j ≡ becomes w) × Substituted τ u w
put τ (then_stays e) u f = absurd (stays-becomes refl f)
put τ (then_becomes {r = w} p) u f = (w, refl, subst (λ x. Substituted τ x w) (becomes_inj refl f) p)

fitting : {Δ : Scope} {p : ℕ} {i : Image} {s : SimpleType} → Fits Δ p i s → (u : LfTerm) → i ≡ becomes u → Shaped Δ u s × shape_size s < p
fitting (fits_stays e) u f = absurd (stays-becomes refl f)
fitting {Δ} {s = s} (fits_becomes shaped small) u f = (subst (λ x. Shaped Δ x s) (becomes_inj refl f) shaped, small)

module _ (p q : ℕ) (below : (m : ℕ) → m < p → Composes m q × Composes q m) where
  mutual
    step : {Γ : Scope} {t : LfTerm} {s : SimpleType} → Shaped Γ t s → (Δ Θ : Scope) (σ τ ρ : Replacement) → Goes p Γ Δ σ → Goes q Δ Θ τ → IsThen σ τ ρ →
        {a b : LfTerm} → Substituted σ t a → Substituted ρ t b → Substituted τ a b
    step (shaped_lam {Γ = Γ} {a = d} shaped) Δ Θ σ τ ρ goes goes_τ then (substituted_lam x) (substituted_lam y) =
        substituted_lam (step shaped (under d Δ) (under d Θ) (up σ) (up τ) (up ρ) (Goes-up p Γ Δ σ d goes) (Goes-up q Δ Θ τ d goes_τ) (IsThen-up σ τ ρ then) x y)
    step (shaped_at {h = h} s e ps) Δ Θ σ τ ρ goes goes_τ then (substituted_stays {k = k} f xs) (substituted_stays g ys) =
        substituted_stays (kept τ (then h) k f ∙ g) (steps ps Δ Θ σ τ ρ goes goes_τ then xs ys)
    step (shaped_at {h = h} s e ps) Δ Θ σ τ ρ goes goes_τ then (substituted_stays {k = k} f xs) (substituted_becomes w ws g ys y) =
        substituted_becomes w ws (kept τ (then h) k f ∙ g) (steps ps Δ Θ σ τ ρ goes goes_τ then xs ys) y
    step (shaped_at {h = h} s e ps) Δ Θ σ τ ρ goes goes_τ then (substituted_becomes u vs f xs x) (substituted_stays g ys) =
        absurd (stays-becomes g (put τ (then h) u f).1)
    step (shaped_at {Γ = Γ} {h = h} s e ps) Δ Θ σ τ ρ goes goes_τ then (substituted_becomes u vs f xs x) (substituted_becomes w ws g ys y) =
        let placed = put τ (then h) u f in
        let fits = fitting (goes h s e) u f in
        let both = below (shape_size s) fits.1 in
        applied (shape_size s) q both.0 both.1 (ShapedSpine-SubstitutedSpine p Γ Δ σ goes ps xs) (omega arith) Θ τ goes_τ
        (steps ps Δ Θ σ τ ρ goes goes_τ then xs ys)
        Δ Θ stays τ stays τ (Goes-stays (shape_size s) Δ) goes_τ (Goes-stays (shape_size s) Θ) (Goes-more q (shape_size s + q) Δ Θ τ (omega arith) goes_τ)
        (IsThen-before τ) (IsThen-after τ) fits.0 x (subst (Substituted τ u) (becomes_inj placed.1 g) placed.2) y

    steps : {Γ : Scope} {ts : Spine} {s : SimpleType} → ShapedSpine Γ ts s → (Δ Θ : Scope) (σ τ ρ : Replacement) → Goes p Γ Δ σ → Goes q Δ Θ τ → IsThen σ τ ρ →
        {vs ws : Spine} → SubstitutedSpine σ ts vs → SubstitutedSpine ρ ts ws → SubstitutedSpine τ vs ws
    steps shaped_none Δ Θ σ τ ρ goes goes_τ then substituted_none substituted_none = substituted_none
    steps (shaped_arg p ps) Δ Θ σ τ ρ goes goes_τ then (substituted_arg x xs) (substituted_arg y ys) =
        substituted_arg (step p Δ Θ σ τ ρ goes goes_τ then x y) (steps ps Δ Θ σ τ ρ goes goes_τ then xs ys)

-- by induction on the sum of the bounds
below_sum : (n p q : ℕ) → p + q < n → Composes p q
below_sum zero p q small = absurd (omega arith)
below_sum (suc n) p q small = λ Γ Δ Θ σ τ ρ goes goes_τ then t s a b shaped.
    step p q (λ m less. (below_sum n m q (omega arith), below_sum n q m (omega arith))) shaped Δ Θ σ τ ρ goes goes_τ then

pub composes : (p q : ℕ) → Composes p q
composes p q = below_sum (suc (p + q)) p q (omega arith)

pub composes_spine : (p q : ℕ) {Γ : Scope} {ts : Spine} {s : SimpleType} → ShapedSpine Γ ts s → (Δ Θ : Scope) (σ τ ρ : Replacement) → Goes p Γ Δ σ → Goes q Δ Θ τ → IsThen σ τ ρ →
    {vs ws : Spine} → SubstitutedSpine σ ts vs → SubstitutedSpine ρ ts ws → SubstitutedSpine τ vs ws
composes_spine p q = steps p q (λ m less. (composes m q, composes q m))
