-- Assignments under local binders, and when they solve equations of abstractions, of equal rigid heads and of arguments.
use Rattle.std.proofs.Common.{◌≡◌, ℕ, suc, ◌↔◌, List, [], ◌∷◌, ◌++◌, length, refl, sym, ap, ◌∙◌, subst}
use Rattle.std.proofs.lemmas.List.Elements.{All-nil, All-cons, All-head, All-tail}
use Rattle.lf_definitions.specs.Syntax.{LfHead, LfTerm, lam, at, Spine, no_args, arg, SimpleType}
use Rattle.lf_definitions.specs.Shaping.{Scope, under_all, ShapedSpine, shaped_none, shaped_arg}
use Rattle.lf_definitions.specs.Occurrence.{IsRigid, rigid_bound, rigid_constant}
use Rattle.lf_definitions.specs.Substitution.{stays, becomes, Replacement, up, Substituted, substituted_lam, substituted_stays, substituted_becomes, SubstitutedSpine, substituted_none, substituted_arg, Applied}
use Rattle.lf_definitions.specs.Replacements.{Goes}
use Rattle.lf_definitions.specs.Instantiation.{Assignment, instantiating, Instantiated, InstantiatedSpine}
use Rattle.lf_definitions.proofs.Uniqueness.{stays-becomes, stays_inj, becomes_inj}
use Rattle.lf_definitions.proofs.Telescopes.{Goes-up_by}
use Rattle.head_laws.specs.AssignmentLaws.{AssignsClosedTerms}
use Rattle.head_laws.proofs.Assignments.{up_by-closed}
use Rattle.unification.proofs.Spreading.{under_all-metavariable}
use Rattle.unification.specs.Equations.{of_terms, argument_equations}
use Rattle.unification.specs.Solutions.{Solves, SolvesAll, IsInstanceOf}

-- under local binders
pub Goes-local : (θ : Assignment) → AssignsClosedTerms θ → (p : ℕ) (Γ Δ : Scope) → Goes p Γ Δ (instantiating θ) → (local : List SimpleType) → Goes p (under_all local Γ) (under_all local Δ) (instantiating θ)
Goes-local θ closed p Γ Δ goes local = subst (Goes p (under_all local Γ) (under_all local Δ)) (up_by-closed (length local) θ closed) (Goes-up_by p local Γ Δ (instantiating θ) goes)

pub IsInstanceOf-local : (Γ : Scope) (σ θ : Assignment) → IsInstanceOf Γ σ θ → (local : List SimpleType) → IsInstanceOf (under_all local Γ) σ θ
IsInstanceOf-local Γ σ θ instance local g s u e f = instance g s u (sym (under_all-metavariable local Γ g) ∙ e) f

-- What results come from.
pub lam_result : {σ : Replacement} {b r : LfTerm} → Substituted σ (lam b) r → (q : LfTerm) × (r ≡ lam q) × Substituted (up σ) b q
lam_result (substituted_lam {r = q} p) = (q, refl, p)

pub stays_result : {σ : Replacement} {h k : LfHead} {ts : Spine} {r : LfTerm} → σ h ≡ stays k → Substituted σ (at h ts) r → (rs : Spine) × (r ≡ at k rs) × SubstitutedSpine σ ts rs
stays_result e (substituted_stays {vs = vs} f ps) = (vs, ap (λ m. at m vs) (stays_inj f e), ps)
stays_result e (substituted_becomes u vs f ps p) = absurd (stays-becomes e f)

pub becomes_result : {σ : Replacement} {h : LfHead} {ts : Spine} {r u : LfTerm} → σ h ≡ becomes u → Substituted σ (at h ts) r → (vs : Spine) × SubstitutedSpine σ ts vs × Applied stays u vs r
becomes_result e (substituted_stays f ps) = absurd (stays-becomes f e)
becomes_result {r = r} e (substituted_becomes w vs f ps p) = (vs, ps, subst (λ x. Applied stays x vs r) (becomes_inj f e) p)

pub rigid_stays : (θ : Assignment) {h : LfHead} → IsRigid h → instantiating θ h ≡ stays h
rigid_stays θ (rigid_bound n) = refl
rigid_stays θ (rigid_constant c) = refl

-- abstractions
module _ (θ : Assignment) (closed : AssignsClosedTerms θ) where
  pub under_lam : {b r : LfTerm} → Instantiated θ (lam b) r → (q : LfTerm) × (r ≡ lam q) × Instantiated θ b q
  under_lam {b} p = let c = lam_result p in (c.0, c.1, subst (λ σ. Substituted σ b c.0) (up_by-closed 1 θ closed) c.2)

  pub over_lam : {b r : LfTerm} → Instantiated θ b r → Instantiated θ (lam b) (lam r)
  over_lam {b} {r} p = substituted_lam (subst (λ σ. Substituted σ b r) (sym (up_by-closed 1 θ closed)) p)

  pub lams_solved : (path below : List ℕ) (b c : LfTerm) → Solves θ (of_terms path (lam b) (lam c)) ↔ Solves θ (of_terms below b c)
  lams_solved path below b c = (
    λ solves. let first = under_lam solves.1 in
        let second = under_lam solves.2 in
        let same : second.0 ≡ first.0 = lam_inj (sym second.1 ∙ first.1) in
        (first.0, first.2, subst (Instantiated θ c) same second.2),
    λ solves. (lam solves.0, over_lam solves.1, over_lam solves.2),
  )
    where
      lam_inj : {x y : LfTerm} → lam x ≡ lam y → x ≡ y
      lam_inj e = cc

-- equal heads
abbrev pub SolvesSpines : Assignment → Spine → Spine → Type 0
SolvesSpines θ ts us = (rs : Spine) × InstantiatedSpine θ ts rs × InstantiatedSpine θ us rs

at_args : {h k : LfHead} {ts us : Spine} → at h ts ≡ at k us → ts ≡ us
at_args e = cc

pub heads_solved : (θ : Assignment) (path : List ℕ) (h : LfHead) (ts us : Spine) → IsRigid h → Solves θ (of_terms path (at h ts) (at h us)) ↔ SolvesSpines θ ts us
heads_solved θ path h ts us rigid = (
  λ solves. let first = stays_result (rigid_stays θ rigid) solves.1 in
      let second = stays_result (rigid_stays θ rigid) solves.2 in
      (first.0, first.2, subst (InstantiatedSpine θ us) (at_args (sym second.1 ∙ first.1)) second.2),
  λ solves. (at h solves.0, substituted_stays (rigid_stays θ rigid) solves.1, substituted_stays (rigid_stays θ rigid) solves.2),
)

-- Arguments have one instance exactly where each two of them do.
pub each_solved : (θ : Assignment) (ts us rs : Spine) (path : List ℕ) (child : ℕ) → InstantiatedSpine θ ts rs → InstantiatedSpine θ us rs → SolvesAll θ (argument_equations path child ts us)
each_solved θ no_args us rs path child p q = All-nil (Solves θ)
each_solved θ (arg t ts) no_args rs path child p q = All-nil (Solves θ)
each_solved θ (arg t ts) (arg u us) no_args path child p q = elim p [ ]
each_solved θ (arg t ts) (arg u us) (arg r rs) path child (substituted_arg p ps) (substituted_arg q qs) =
    All-cons (Solves θ) (of_terms (path ++ child ∷ []) t u) (argument_equations path (suc child) ts us) (r, p, q) (each_solved θ ts us rs path (suc child) ps qs)

pub spines_solved : {Γ : Scope} {ts us : Spine} {s : SimpleType} → ShapedSpine Γ ts s → ShapedSpine Γ us s → (θ : Assignment) (path : List ℕ) (child : ℕ) →
    SolvesAll θ (argument_equations path child ts us) → SolvesSpines θ ts us
spines_solved shaped_none shaped_none θ path child all = (no_args, substituted_none, substituted_none)
spines_solved (shaped_arg {t = t} {ts = ts} p ps) (shaped_arg {t = u} {ts = us} q qs) θ path child all =
    let e = of_terms (path ++ child ∷ []) t u in
    let later = argument_equations path (suc child) ts us in
    let first = All-head (Solves θ) e later all in
    let rest = spines_solved ps qs θ path (suc child) (All-tail (Solves θ) e later all) in
    (arg first.0 rest.0, substituted_arg first.1 rest.1, substituted_arg first.2 rest.2)
