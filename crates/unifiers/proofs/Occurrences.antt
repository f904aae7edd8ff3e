-- A metavariable that occurs, applied to variables and outside all arguments of metavariables, below the head of a term has no instance with that term: the
-- instance of the occurrence is as large as its own, and stands below a head.
use Rattle.std.proofs.Common.{◌≡◌, ℕ, suc, ◌+◌, ◌≤◌, ◌⊎◌, inl, inr, true, false, ◌&&◌, List, [], ◌∷◌, Option, Some, None, refl, sym, ap, ◌∙◌, subst, arith}
use Rattle.std.specs.Prelude.{is_some}
use Rattle.std.proofs.lemmas.Bool.{or_cases, and_parts}
use Rattle.lf_definitions.specs.Syntax.{LfHead, metavariable, LfTerm, at, Spine, SimpleType, arity, lams, term_size, spine_size}
use Rattle.lf_definitions.specs.Shaping.{Scope, under, Shaped, shaped_lam, shaped_at, ShapedSpine, shaped_none, shaped_arg}
use Rattle.lf_definitions.specs.Renaming.{next_by}
use Rattle.lf_definitions.specs.Substitution.{substituted_arg}
use Rattle.lf_definitions.specs.Replacements.{Goes}
use Rattle.lf_definitions.specs.Instantiation.{Assignment, instantiating, Instantiated, InstantiatedSpine}
use Rattle.lf_definitions.proofs.Options.{Some_inj}
use Rattle.lf_definitions.proofs.Uniqueness.{unique}
use Rattle.lf_definitions.proofs.Renaming.{term_size-rename}
use Rattle.head_laws.specs.Mentions.{same_head, is_rigid}
use Rattle.head_laws.specs.AssignmentLaws.{AssignsClosedTerms}
use Rattle.head_laws.proofs.Heads.{same_head-true}
use Rattle.unification.specs.Patterns.{variables_of, occurs_plainly, occurs_plainly_in_spine}
use Rattle.unification.specs.Equations.{of_terms}
use Rattle.unification.specs.Transitions.{has_head}
use Rattle.unification.specs.Solutions.{Solves, value_of}
use Rattle.unification.proofs.Tests.{IsRigid-is_rigid}
use Rattle.unification.proofs.PatternSpines.{AreVariables, variables_at_shape}
use Rattle.unification.proofs.Spreading.{spreading}
use Rattle.unifiers.proofs.Spines.{Goes-local, stays_result, rigid_stays, under_lam}
use Rattle.unifiers.proofs.Values.{has_instance}
use Rattle.unifiers.proofs.Assigning.{lams_inj}

is_some-true : {X : Type 0} (o : Option X) → is_some o ≡ true → (x : X) × (o ≡ Some x)
is_some-true None e = absurd cc
is_some-true (Some x) e = (x, refl)

module _ (p : ℕ) (θ : Assignment) (closed : AssignsClosedTerms θ) (g : ℕ) (s : SimpleType) (body : LfTerm) (value_is : value_of θ g s ≡ lams (arity s) body) where
  -- Applied to variables its instance is as large as the body.
  pub instance_size : {Γ : Scope} {ns : List ℕ} {ts : Spine} → AreVariables Γ ns ts s → (Δ : Scope) → Goes p Γ Δ (instantiating θ) → Γ (metavariable g) ≡ Some s →
      (r : LfTerm) → Instantiated θ (at (metavariable g) ts) r → term_size r ≡ term_size body
  instance_size {Γ} {ns} variables Δ goes known r result =
      let there = has_instance p Γ Δ θ goes g s known variables in
      let same : there.body ≡ body = lams_inj (arity s) there.body body (sym there.value_is ∙ value_is) in
      ap term_size (unique result there.result) ∙ term_size-rename there.body (spreading ns (next_by 0)) ∙ ap term_size same

  plain_head : {Γ : Scope} {h : LfHead} {ts : Spine} {c : SimpleType} → Γ h ≡ Some c → ShapedSpine Γ ts c → (same_head (metavariable g) h && is_some (variables_of ts)) ≡ true →
      (Δ : Scope) → Goes p Γ Δ (instantiating θ) → Γ (metavariable g) ≡ Some s → (r : LfTerm) → Instantiated θ (at h ts) r → term_size r ≡ term_size body
  plain_head {Γ} {h} {ts} {c} e ps tested Δ goes known r result =
      let both = and_parts (same_head (metavariable g) h) (is_some (variables_of ts)) tested in
      let head : metavariable g ≡ h = same_head-true (metavariable g) h both.0 in
      let numbers = is_some-true (variables_of ts) both.1 in
      let shape : c ≡ s = Some_inj (ap Γ head ∙ e) known in
      instance_size (variables_at_shape (subst (ShapedSpine Γ ts) shape ps) numbers.0 numbers.1) Δ goes known r (subst (λ k. Instantiated θ (at k ts) r) (sym head) result)

  -- No instance of a term with such an occurrence is smaller.
  mutual
    plain_term : {Γ : Scope} {t : LfTerm} {c : SimpleType} → Shaped Γ t c → occurs_plainly g t ≡ true → (Δ : Scope) → Goes p Γ Δ (instantiating θ) → Γ (metavariable g) ≡ Some s →
        (r : LfTerm) → Instantiated θ t r → term_size body ≤ term_size r
    plain_term (shaped_lam {Γ = Γ} {a = a} q) occurs Δ goes known r result =
        let below = under_lam θ closed result in
        let within = plain_term q occurs (under a Δ) (Goes-local θ closed p Γ Δ goes (a ∷ [])) known below.0 below.2 in
        let size : term_size r ≡ suc (term_size below.0) = ap term_size below.1 in
        omega arith
    plain_term (shaped_at {Γ = Γ} {h = h} {ts = ts} c e ps) occurs Δ goes known r result =
        either (or_cases (same_head (metavariable g) h && is_some (variables_of ts)) (is_rigid h && occurs_plainly_in_spine g ts) occurs) (λ f. plain_spine ps f Δ goes known)
      where
        either : ((same_head (metavariable g) h && is_some (variables_of ts)) ≡ true) ⊎ ((is_rigid h && occurs_plainly_in_spine g ts) ≡ true) →
            (occurs_plainly_in_spine g ts ≡ true → (rs : Spine) → InstantiatedSpine θ ts rs → term_size body ≤ spine_size rs) → term_size body ≤ term_size r
        either (inl f) within = let size = plain_head e ps f Δ goes known r result in omega arith
        either (inr f) within =
            let both = and_parts (is_rigid h) (occurs_plainly_in_spine g ts) f in
            let args = stays_result (rigid_stays θ (IsRigid-is_rigid h both.0)) result in
            let smaller = within both.1 args.0 args.2 in
            let size : term_size r ≡ suc (spine_size args.0) = ap term_size args.1 in
            omega arith

    pub plain_spine : {Γ : Scope} {ts : Spine} {c : SimpleType} → ShapedSpine Γ ts c → occurs_plainly_in_spine g ts ≡ true → (Δ : Scope) → Goes p Γ Δ (instantiating θ) → Γ (metavariable g) ≡ Some s →
        (rs : Spine) → InstantiatedSpine θ ts rs → term_size body ≤ spine_size rs
    plain_spine shaped_none occurs Δ goes known rs result = absurd cc
    plain_spine (shaped_arg {t = t} {ts = ts} q qs) occurs Δ goes known rs (substituted_arg {v = v} {vs = vs} x xs) =
        either (or_cases (occurs_plainly g t) (occurs_plainly_in_spine g ts) occurs) (λ f. plain_term q f Δ goes known v x) (λ f. plain_spine qs f Δ goes known vs xs)
      where
        either : (occurs_plainly g t ≡ true) ⊎ (occurs_plainly_in_spine g ts ≡ true) → (occurs_plainly g t ≡ true → term_size body ≤ term_size v) → (occurs_plainly_in_spine g ts ≡ true → term_size body ≤ spine_size vs) →
            term_size body ≤ suc (term_size v + spine_size vs)
        either (inl f) now later = let smaller = now f in omega arith
        either (inr f) now later = let smaller = later f in omega arith

-- So nothing makes one term of it and of the term.
pub occurs_unsolved : (p : ℕ) (Γ Δ : Scope) (θ : Assignment) → Goes p Γ Δ (instantiating θ) → AssignsClosedTerms θ → (path : List ℕ) (g : ℕ) (k : LfHead) (ts us : Spine) {s c : SimpleType} (ns : List ℕ) →
    Shaped Γ (at (metavariable g) ts) s → Shaped Γ (at k us) c → variables_of ts ≡ Some ns → has_head (metavariable g) (at k us) ≡ false → occurs_plainly g (at k us) ≡ true →
    Solves θ (of_terms path (at (metavariable g) ts) (at k us)) → ⊥
occurs_unsolved p Γ Δ θ goes closed path g k ts us ns (shaped_at s known ps) (shaped_at c e qs) reads other occurs solves =
    either (or_cases (same_head (metavariable g) k && is_some (variables_of us)) (is_rigid k && occurs_plainly_in_spine g us) occurs)
  where
    variables : AreVariables Γ ns ts s
    variables = variables_at_shape ps ns reads

    either : ((same_head (metavariable g) k && is_some (variables_of us)) ≡ true) ⊎ ((is_rigid k && occurs_plainly_in_spine g us) ≡ true) → ⊥
    either (inl f) = let same = (and_parts (same_head (metavariable g) k) (is_some (variables_of us)) f).0 in cc
    either (inr f) =
        let there = has_instance p Γ Δ θ goes g s known variables in
        let size = instance_size p θ closed g s there.body there.value_is variables Δ goes known solves.0 solves.1 in
        let both = and_parts (is_rigid k) (occurs_plainly_in_spine g us) f in
        let args = stays_result (rigid_stays θ (IsRigid-is_rigid k both.0)) solves.2 in
        let smaller = plain_spine p θ closed g s there.body there.value_is qs both.1 Δ goes known args.0 args.2 in
        let whole : term_size solves.0 ≡ suc (spine_size args.0) = ap term_size args.1 in
        omega arith
