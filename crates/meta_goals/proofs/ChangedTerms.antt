-- The steps of an instantiation in terms: what each asks follows from what was asked before, and what each gives makes up the result.
use Rattle.std.proofs.Common.{◌≡◌, ℕ, zero, suc, ◌+◌, ◌-◌, ◌<◌, Bool, true, false, Option, Some, None, List, [], ◌∷◌, ◌++◌, length, get_or, take, unwrap_or, length-append, refl, sym, ap, ◌∙◌, subst, subst₂, arith, option_map, if◌then◌else◌}
use Rattle.std.specs.Prelude.{nat_eq}
use Rattle.std.proofs.lemmas.List.{length-take-le}
use Rattle.lf_definitions.specs.Syntax.{LfHead, bound, constant, metavariable, LfTerm, lam, at, Spine, SimpleType, base, arrows, lams, arg_at}
use Rattle.lf_definitions.specs.Shaping.{Scope, under, under_all, Shaped, shaped_lam, shaped_at, ShapedSpine, shaped_none, shaped_arg}
use Rattle.lf_definitions.specs.Occurrence.{OccursIn, occurs_lam}
use Rattle.lf_definitions.specs.Substitution.{stays, becomes, Replacement, up, Substituted, substituted_lam, substituted_stays, substituted_becomes, SubstitutedSpine, Applied}
use Rattle.lf_definitions.specs.Replacements.{Goes, Fits, fits_becomes}
use Rattle.lf_definitions.specs.Instantiation.{Assignment, assigned, instantiating, Instantiated, InstantiatedSpine}
use Rattle.lf_definitions.proofs.Expansion.{stripped}
use Rattle.lf_definitions.proofs.Totality.{Shaped-Substituted, ShapedSpine-SubstitutedSpine}
use Rattle.lf_definitions.proofs.Telescopes.{Goes-up_by, arguments-arrows, arity-arrows}
use Rattle.head_laws.specs.AssignmentLaws.{AssignsClosedTerms}
use Rattle.head_laws.proofs.Assignments.{up_by-closed}
use Rattle.lf_terms.specs.declared.term.Term.{Term}
use Rattle.lf_terms.specs.Terms.{term_of, spine_of}
use Rattle.lf_terms.specs.Extents.{ExcludesMetavariables, InSpine}
use Rattle.lf_terms.proofs.Spines.{arg_at-spine_of, take_more_spine, length_of_spine, spine_of-append}
use Rattle.lf_terms.proofs.ShapeLists.{take_read}
use Rattle.lf_terms.proofs.Putting.{put_arg}
use Rattle.lf_terms.proofs.Extents.{spine_stays}
use Rattle.meta_goals.specs.Bindings.{LfBinding, assigning, binding_for}
use Rattle.meta_goals.specs.Applies.{Applies}
use Rattle.meta_goals.specs.Instantiates.{Instantiates, TermIsShaped, ArgsAreShaped}

pub under_all-metavariable : (local : List SimpleType) (Γ : Scope) (g : ℕ) → under_all local Γ (metavariable g) ≡ Γ (metavariable g)
under_all-metavariable [] Γ g = refl
under_all-metavariable (a ∷ local) Γ g = under_all-metavariable local (under a Γ) g

-- the term that a binding puts
abbrev pub put_by : LfBinding → LfTerm
put_by b = lams (length b.shapes) b.bound_body

first_step : (b : Bool) (first : LfBinding) (o : Option LfTerm) (p : Option LfBinding) → o ≡ option_map put_by p →
    (if b then Some (put_by first) else o) ≡ option_map put_by (if b then Some first else p)
first_step true first o p rest = refl
first_step false first o p rest = rest

pub assigning-binding_for : (bindings : List LfBinding) (g : ℕ) → assigning bindings g ≡ option_map put_by (binding_for bindings g)
assigning-binding_for [] g = refl
assigning-binding_for (b ∷ rest) g = first_step (nat_eq b.number g) b (assigning rest g) (binding_for rest g) (assigning-binding_for rest g)

-- Binders make no difference to a closed assignment.
pub under_one : (σ : Assignment) → AssignsClosedTerms σ → up (instantiating σ) ≡ instantiating σ
under_one σ closed = up_by-closed 1 σ closed

module _ (bindings : List LfBinding) where
  abbrev ι : Replacement
  ι = instantiating (assigning bindings)

  -- Something else may be shaped in the same scope, or with more variables.
  abbrev pub in_scope : (H K : Scope → Type 0) (p : Instantiates bindings H) → K p.outer → Instantiates bindings K
  in_scope H K p shaped =
      record { size = p.size; outer = p.outer; target = p.target; goes = p.goes; closed = p.closed; contexts = p.contexts; shaped = shaped }

  pub in_scope_under : (H K : Scope → Type 0) (local : List SimpleType) (p : Instantiates bindings H) → K (under_all local p.outer) → Instantiates bindings K
  in_scope_under H K local p shaped =
      record {
        size = p.size;
        outer = under_all local p.outer;
        target = under_all local p.target;
        goes =
            subst (Goes p.size (under_all local p.outer) (under_all local p.target)) (up_by-closed (length local) (assigning bindings) p.closed)
            (Goes-up_by p.size local p.outer p.target ι p.goes);
        closed = p.closed;
        contexts = λ g s b known found. p.contexts g s b (sym (under_all-metavariable local p.outer g) ∙ known) found;
        shaped = shaped;
      }

  -- An abstraction.
  inside_lam : {Γ : Scope} {b : LfTerm} {s : SimpleType} → Shaped Γ (lam b) s → (a : SimpleType) × TermIsShaped b (under a Γ)
  inside_lam (shaped_lam {a = a} {s = c} p) = (a, (c, p))

  pub instantiates_body : (t b : LfTerm) → t ≡ lam b → Instantiates bindings (TermIsShaped t) → Instantiates bindings (TermIsShaped b)
  instantiates_body t b is p =
      let inside = inside_lam (subst (λ x. Shaped p.outer x p.shaped.0) is p.shaped.1) in
      in_scope_under (TermIsShaped t) (TermIsShaped b) (inside.0 ∷ []) p inside.1

  pub body_instantiated : (H : Scope → Type 0) → Instantiates bindings H → (t b u r : LfTerm) → t ≡ lam b → u ≡ lam r → Instantiated (assigning bindings) b r → Instantiated (assigning bindings) t u
  body_instantiated H p t b u r is made result =
      subst₂ (Substituted ι) (sym is) (sym made) (substituted_lam (subst (λ σ. Substituted σ b r) (sym (under_one (assigning bindings) p.closed)) result))

  -- Arguments.
  arguments_of : {Γ : Scope} {h : LfHead} {ts : Spine} {s : SimpleType} → Shaped Γ (at h ts) s → (c : SimpleType) × (Γ h ≡ Some c) × ShapedSpine Γ ts c
  arguments_of (shaped_at c e ps) = (c, e, ps)

  pub instantiates_args : (t : LfTerm) (h : LfHead) (ts : Spine) → t ≡ at h ts → Instantiates bindings (TermIsShaped t) → Instantiates bindings (ArgsAreShaped ts)
  instantiates_args t h ts is p =
      let inside = arguments_of (subst (λ x. Shaped p.outer x p.shaped.0) is p.shaped.1) in
      in_scope (TermIsShaped t) (ArgsAreShaped ts) p (inside.0, inside.2)

  pub instantiates_term : (t u : LfTerm) → t ≡ u → Instantiates bindings (TermIsShaped t) → Instantiates bindings (TermIsShaped u)
  instantiates_term t u is p = subst (λ x. Instantiates bindings (TermIsShaped x)) is p

  argument_of : {Γ : Scope} {ts : Spine} {s : SimpleType} → ShapedSpine Γ ts s → (i : ℕ) (t : LfTerm) → arg_at ts i ≡ Some t → TermIsShaped t Γ
  argument_of shaped_none i t e = absurd cc
  argument_of {Γ} (shaped_arg {t = u} {a = a} p ps) zero t e = let same : u ≡ t = cc in (a, subst (λ x. Shaped Γ x a) same p)
  argument_of (shaped_arg p ps) (suc i) t e = argument_of ps i t e

  pub instantiates_item : (xs : List Term) (i : ℕ) (x : Term) → i < length xs → x ≡ get_or xs i x → Instantiates bindings (ArgsAreShaped (spine_of xs)) → Instantiates bindings (TermIsShaped (term_of x))
  instantiates_item xs i x within is p =
      in_scope (ArgsAreShaped (spine_of xs)) (TermIsShaped (term_of x)) p (argument_of p.shaped.1 i (term_of x) (arg_at-spine_of xs i x within is))

  -- A list in which no metavariable occurs stays.
  pub spine_without : (ts : Spine) → ExcludesMetavariables (InSpine ts) → InstantiatedSpine (assigning bindings) ts ts
  spine_without ts none = spine_stays ts ι each
    where
      each : (h : LfHead) → InSpine ts h → ι h ≡ stays h
      each (bound n) here = refl
      each (constant c) here = refl
      each (metavariable g) here = absurd (none g here)

  -- A metavariable that is not assigned.
  pub unassigned : (g : ℕ) (ts rs : Spine) → binding_for bindings g ≡ None → InstantiatedSpine (assigning bindings) ts rs → Instantiated (assigning bindings) (at (metavariable g) ts) (at (metavariable g) rs)
  unassigned g ts rs none results =
      substituted_stays (ap (assigned g) (assigning-binding_for bindings g ∙ ap (option_map put_by) none)) results

  -- One that is.
  module _ (g : ℕ) (ts rs : Spine) (b : LfBinding) (p : Instantiates bindings (TermIsShaped (at (metavariable g) ts))) (found : binding_for bindings g ≡ Some b)
      (results : InstantiatedSpine (assigning bindings) ts rs) where
    image_is : ι (metavariable g) ≡ becomes (put_by b)
    image_is = ap (assigned g) (assigning-binding_for bindings g ∙ ap (option_map put_by) found)

    fits_term : {Δ : Scope} {n : ℕ} {u : LfTerm} {s : SimpleType} → Fits Δ n (becomes u) s → Shaped Δ u s
    fits_term (fits_becomes shaped small) = shaped

    lams_same : (n : ℕ) (c e : LfTerm) → lams n c ≡ lams n e → c ≡ e
    lams_same zero c e same = same
    lams_same (suc n) c e same = lams_same n c e cc

    occurs_lams : (n m : ℕ) (c : LfTerm) → OccursIn (bound (n + m)) c → OccursIn (bound m) (lams n c)
    occurs_lams zero m c here = subst (λ k. OccursIn (bound k) c) (omega arith) here
    occurs_lams (suc n) m c here =
        let k : suc n + m ≡ n + suc m = omega arith in
        occurs_lam (bound m) (lams n c) (occurs_lams n (suc m) c (subst (λ j. OccursIn (bound j) c) k here))

    pub applies : Applies b.shapes b.bound_body rs
    applies =
        let n = length b.shapes in
        let inside = arguments_of p.shaped.1 in
        let shape_is : inside.0 ≡ arrows b.shapes base = p.contexts g inside.0 b inside.1 found in
        let term : Shaped p.target (put_by b) (arrows b.shapes base) =
        subst (Shaped p.target (put_by b)) shape_is (fits_term (subst (λ i. Fits p.target p.size i inside.0) image_is (p.goes (metavariable g) inside.0 inside.1))) in
        let r = stripped term in
        let body_is : r.0 ≡ b.bound_body = lams_same n r.0 b.bound_body (ap (λ m. lams m r.0) (sym (arity-arrows b.shapes)) ∙ sym r.1) in
        record {
          scope = p.target;
          body_shaped = subst₂ (λ l x. Shaped (under_all l p.target) x base) (arguments-arrows b.shapes) body_is r.2;
          args_shaped = subst (ShapedSpine p.target rs) shape_is (ShapedSpine-SubstitutedSpine p.size p.outer p.target ι p.goes inside.2 results);
          within = λ i far here.
              let place : i ≡ n + (i - n) = omega arith in
              p.closed g (i - n) (put_by b) (assigning-binding_for bindings g ∙ ap (option_map put_by) found) (occurs_lams n (i - n) b.bound_body (subst (λ k. OccursIn (bound k) b.bound_body) place here));
        }

    pub assigned_applied : (r : LfTerm) → Applied stays (lams (length b.shapes) b.bound_body) rs r → Instantiated (assigning bindings) (at (metavariable g) ts) r
    assigned_applied r applied = substituted_becomes (put_by b) rs image_is results applied

  -- What is shaped stays so.
  pub term_keeps_shape : (t r : LfTerm) → Instantiated (assigning bindings) t r → (p : Instantiates bindings (TermIsShaped t)) → Shaped p.target r p.shaped.0
  term_keeps_shape t r result p = Shaped-Substituted p.size p.outer p.target ι p.goes p.shaped.1 result

  pub args_keep_shape : (ts rs : Spine) → InstantiatedSpine (assigning bindings) ts rs → (p : Instantiates bindings (ArgsAreShaped ts)) → ShapedSpine p.target rs p.shaped.0
  args_keep_shape ts rs results p = ShapedSpine-SubstitutedSpine p.size p.outer p.target ι p.goes p.shaped.1 results

-- The same head over the results of its arguments, where these may not have changed.
pub head_kept : (h : LfHead) (ts : Spine) (o : Option Spine) (w : Option LfTerm) → w ≡ option_map (at h) o → at h (unwrap_or o ts) ≡ unwrap_or w (at h ts)
head_kept h ts None w e = ap (λ x. unwrap_or x (at h ts)) (sym e)
head_kept h ts (Some us) w e = ap (λ x. unwrap_or x (at h ts)) (sym e)

module _ (σ : Replacement) (xs : List Term) (i : ℕ) (x : Term) (within : i < length xs) (is : x ≡ get_or xs i x) where
  -- One more term, with its result.
  pub one_more_term : (results new : List Term) (r : Term) → new ≡ results ++ r ∷ [] → SubstitutedSpine σ (spine_of (take i xs)) (spine_of results) → Substituted σ (term_of x) (term_of r) →
      SubstitutedSpine σ (spine_of (take (i + 1) xs)) (spine_of new)
  one_more_term results new r pushed before here =
      put_arg σ (spine_of (take i xs)) (spine_of results) (spine_of (take (i + 1) xs)) (spine_of new) (term_of x) (term_of r) (take_more_spine xs i x within is)
      (ap spine_of pushed ∙ spine_of-append results r) before here

  pub one_more_stays : SubstitutedSpine σ (spine_of (take i xs)) (spine_of (take i xs)) → Substituted σ (term_of x) (term_of x) → SubstitutedSpine σ (spine_of (take (i + 1) xs)) (spine_of (take (i + 1) xs))
  one_more_stays before here = one_more_term (take i xs) (take (i + 1) xs) x (take_read xs i x within is) before here

  -- The first one that changes.
  pub first_change : (results new : List Term) (r : Term) → new ≡ results ++ r ∷ [] → spine_of results ≡ spine_of (take i xs) → SubstitutedSpine σ (spine_of (take i xs)) (spine_of (take i xs)) →
      Substituted σ (term_of x) (term_of r) → SubstitutedSpine σ (spine_of (take (length new) xs)) (spine_of new)
  first_change results new r pushed copied before here =
      let first : length results ≡ i = length_of_spine results (take i xs) copied ∙ length-take-le i xs (omega arith) in
      let count : length new ≡ i + 1 = omega (arith, ap length pushed, length-append results (r ∷ []), first) in
      subst (λ n. SubstitutedSpine σ (spine_of (take n xs)) (spine_of new)) (sym count)
      (one_more_term results new r pushed (subst (SubstitutedSpine σ (spine_of (take i xs))) (sym copied) before) here)
