-- What no assignment makes equal.
use Rattle.std.proofs.Common.{◌≡◌, ℕ, zero, suc, ◌<◌, Bool, true, false, not, List, [], ◌∷◌, length, get_or, refl, sym, ap, ◌∙◌, subst, subst₂, arith}
use Rattle.std.specs.Prelude.{nat_eq}
use Rattle.std.proofs.lemmas.Bool.{eqb-true, eqb-false}
use Rattle.lf_definitions.specs.Syntax.{LfHead, bound, constant, LfTerm, lam, at, Spine, arg}
use Rattle.lf_definitions.specs.Substitution.{stays, becomes, Replacement, rename_image, up, Substituted, substituted_lam, substituted_stays, substituted_becomes, SubstitutedSpine, substituted_none, substituted_arg}
use Rattle.lf_definitions.specs.Renaming.{next}
use Rattle.lf_definitions.specs.Instantiation.{Assignment, instantiating}
use Rattle.lf_definitions.specs.Occurrence.{IsRigid, rigid_bound, rigid_constant}
use Rattle.lf_terms.specs.declared.term.Term.{Term}
use Rattle.lf_terms.specs.Terms.{term_of, spine_of}
use Rattle.build_forward.specs.Clashes.{KeepsRigid, HeadsDiffer, HeadsAgree, TermsClash, ArgsClash}

pub assignments_keep_rigid : (σ : Assignment) → KeepsRigid (instantiating σ)
assignments_keep_rigid σ _ (rigid_bound n) = refl
assignments_keep_rigid σ _ (rigid_constant c) = refl

up_keeps : (σ : Replacement) → KeepsRigid σ → KeepsRigid (up σ)
up_keeps σ keeps _ (rigid_bound zero) = refl
up_keeps σ keeps _ (rigid_bound (suc n)) = ap (rename_image next) (keeps (bound n) (rigid_bound n))
up_keeps σ keeps _ (rigid_constant c) = ap (rename_image next) (keeps (constant c) (rigid_constant c))

-- What an abstraction becomes.
lam_result : {σ : Replacement} {t r : LfTerm} → Substituted σ t r → (b : LfTerm) → t ≡ lam b → (c : LfTerm) × (r ≡ lam c) × Substituted (up σ) b c
lam_result (substituted_lam {σ = σ} {b = d} {r = r} s) b is = let same : d ≡ b = cc in (r, refl, subst (λ x. Substituted (up σ) x r) same s)
lam_result (substituted_stays here args) b is = absurd cc
lam_result (substituted_becomes u vs here args applied) b is = absurd cc

-- What a spine with a head that stays becomes.
at_result : {σ : Replacement} {t r : LfTerm} → Substituted σ t r → KeepsRigid σ → (h : LfHead) (ts : Spine) → IsRigid h → t ≡ at h ts → (vs : Spine) × (r ≡ at h vs) × SubstitutedSpine σ ts vs
at_result (substituted_lam s) keeps h ts rigid is = absurd cc
at_result (substituted_stays {σ = σ} {h = g} {k = k} {ts = us} {vs = vs} here args) keeps h ts rigid is =
    let same : g ≡ h = cc in
    let same_args : us ≡ ts = cc in
    let stayed : stays k ≡ stays h = sym here ∙ ap σ same ∙ keeps h rigid in
    let kept : k ≡ h = cc in
    (vs, ap (λ x. at x vs) kept, subst (λ x. SubstitutedSpine σ x vs) same_args args)
at_result (substituted_becomes {σ = σ} {h = g} u vs here args applied) keeps h ts rigid is =
    let same : g ≡ h = cc in
    let stayed : becomes u ≡ stays h = sym here ∙ ap σ same ∙ keeps h rigid in
    absurd cc

-- What arguments become.
args_result : {σ : Replacement} {us rs : Spine} → SubstitutedSpine σ us rs → (t : LfTerm) (ts : Spine) → us ≡ arg t ts →
    (r : LfTerm) × (rest : Spine) × (rs ≡ arg r rest) × Substituted σ t r × SubstitutedSpine σ ts rest
args_result substituted_none t ts is = absurd cc
args_result (substituted_arg {σ = σ} {t = u} {v = v} {ts = us} {vs = vs} first later) t ts is =
    let same : u ≡ t = cc in
    let same_later : us ≡ ts = cc in
    (v, vs, refl, subst (λ x. Substituted σ x v) same first, subst (λ x. SubstitutedSpine σ x vs) same_later later)

pub bodies_clash : (b c : LfTerm) → TermsClash b c → TermsClash (lam b) (lam c)
bodies_clash b c clash σ keeps r left right =
    let l = lam_result left b refl in
    let k = lam_result right c refl in
    let same : l.0 ≡ k.0 = let both = sym l.1 ∙ k.1 in cc in
    clash (up σ) (up_keeps σ keeps) k.0 (subst (Substituted (up σ) b) same l.2) k.2

pub heads_clash : (h k : LfHead) (ts us : Spine) → HeadsDiffer h k → TermsClash (at h ts) (at k us)
heads_clash h k ts us differ σ keeps r left right =
    let l = at_result left keeps h ts differ.0 refl in
    let m = at_result right keeps k us differ.1 refl in
    let same : h ≡ k = let both = sym l.1 ∙ m.1 in cc in
    differ.2 same

pub args_of_heads_clash : (h k : LfHead) (ts us : Spine) → HeadsAgree h k → ArgsClash ts us → TermsClash (at h ts) (at k us)
args_of_heads_clash h k ts us agree clash σ keeps r left right =
    let rigid = subst IsRigid agree.1 agree.0 in
    let l = at_result left keeps h ts agree.0 refl in
    let m = at_result right keeps k us rigid refl in
    let same : l.0 ≡ m.0 = let both = sym l.1 ∙ m.1 in cc in
    clash σ keeps m.0 (subst (SubstitutedSpine σ ts) same l.2) m.2

first_clash : (t u : LfTerm) (ts us : Spine) → TermsClash t u → ArgsClash (arg t ts) (arg u us)
first_clash t u ts us clash σ keeps rs left right =
    let l = args_result left t ts refl in
    let m = args_result right u us refl in
    let same : l.0 ≡ m.0 = let both = sym l.2 ∙ m.2 in cc in
    clash σ keeps m.0 (subst (Substituted σ t) same l.3) m.3

later_clash : (t u : LfTerm) (ts us : Spine) → ArgsClash ts us → ArgsClash (arg t ts) (arg u us)
later_clash t u ts us clash σ keeps rs left right =
    let l = args_result left t ts refl in
    let m = args_result right u us refl in
    let same : l.1 ≡ m.1 = let both = sym l.2 ∙ m.2 in cc in
    clash σ keeps m.1 (subst (SubstitutedSpine σ ts) same l.4) m.4

pub clash_at : (xs ys : List Term) (i : ℕ) (x y : Term) → i < length xs → length xs ≡ length ys → x ≡ get_or xs i x → y ≡ get_or ys i y → TermsClash (term_of x) (term_of y) →
    ArgsClash (spine_of xs) (spine_of ys)
clash_at [] ys i x y within lengths x_is y_is clash = absurd (omega (arith, within))
clash_at (z ∷ xs) [] i x y within lengths x_is y_is clash = absurd (omega (arith, lengths))
clash_at (z ∷ xs) (w ∷ ys) zero x y within lengths x_is y_is clash =
    first_clash (term_of z) (term_of w) (spine_of xs) (spine_of ys) (subst₂ TermsClash (ap term_of x_is) (ap term_of y_is) clash)
clash_at (z ∷ xs) (w ∷ ys) (suc i) x y within lengths x_is y_is clash =
    later_clash (term_of z) (term_of w) (spine_of xs) (spine_of ys) (clash_at xs ys i x y (omega (arith, within)) (omega (arith, lengths)) x_is y_is clash)

pub not_true : (b : Bool) → not b ≡ true → b ≡ false
not_true true e = absurd cc
not_true false e = refl

-- Two variables, two constants, or one of each.
pub bound_agree : (h k : LfHead) (n m : ℕ) → h ≡ bound n → k ≡ bound m → nat_eq n m ≡ true → HeadsAgree h k
bound_agree h k n m h_is k_is e = (subst IsRigid (sym h_is) (rigid_bound n), h_is ∙ ap bound (eqb-true n m e) ∙ sym k_is)

pub constants_agree : (h k : LfHead) (n m : ℕ) → h ≡ constant n → k ≡ constant m → nat_eq n m ≡ true → HeadsAgree h k
constants_agree h k n m h_is k_is e = (subst IsRigid (sym h_is) (rigid_constant n), h_is ∙ ap constant (eqb-true n m e) ∙ sym k_is)

pub bound_differ : (h k : LfHead) (n m : ℕ) → h ≡ bound n → k ≡ bound m → not (nat_eq n m) ≡ true → HeadsDiffer h k
bound_differ h k n m h_is k_is differ = (
  subst IsRigid (sym h_is) (rigid_bound n),
  subst IsRigid (sym k_is) (rigid_bound m),
  λ e. let same : bound n ≡ bound m = sym h_is ∙ e ∙ k_is in let numbers : n ≡ m = cc in eqb-false n m (not_true (nat_eq n m) differ) numbers,
)

pub constants_differ : (h k : LfHead) (n m : ℕ) → h ≡ constant n → k ≡ constant m → not (nat_eq n m) ≡ true → HeadsDiffer h k
constants_differ h k n m h_is k_is differ = (
  subst IsRigid (sym h_is) (rigid_constant n),
  subst IsRigid (sym k_is) (rigid_constant m),
  λ e. let same : constant n ≡ constant m = sym h_is ∙ e ∙ k_is in let numbers : n ≡ m = cc in eqb-false n m (not_true (nat_eq n m) differ) numbers,
)

pub bound_not_constant : (h k : LfHead) (n m : ℕ) → h ≡ bound n → k ≡ constant m → HeadsDiffer h k
bound_not_constant h k n m h_is k_is = (
  subst IsRigid (sym h_is) (rigid_bound n),
  subst IsRigid (sym k_is) (rigid_constant m),
  λ e. let same : bound n ≡ constant m = sym h_is ∙ e ∙ k_is in absurd cc,
)

pub constant_not_bound : (h k : LfHead) (n m : ℕ) → h ≡ constant n → k ≡ bound m → HeadsDiffer h k
constant_not_bound h k n m h_is k_is = (
  subst IsRigid (sym h_is) (rigid_constant n),
  subst IsRigid (sym k_is) (rigid_bound m),
  λ e. let same : constant n ≡ bound m = sym h_is ∙ e ∙ k_is in absurd cc,
)
