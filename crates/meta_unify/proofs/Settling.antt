-- Two terms that mention nothing that is assigned, one of which has a metavariable as its head.
use Rattle.std.proofs.Common.{◌≡◌, ◌⊎◌, inl, inr, ℕ, Bool, true, false, List, [], ◌∷◌, ◌++◌, Option, Some, None, refl, sym, ap, ◌∙◌, subst, subst₂}
use Rattle.std.proofs.lemmas.Bool.{both_ways}
use Rattle.std.proofs.lemmas.List.Elements.{All-head, All-tail}
use Rattle.lf_definitions.specs.Syntax.{LfHead, bound, constant, metavariable, LfTerm, lam, at, Spine, SimpleType, base, arrows}
use Rattle.lf_definitions.specs.Shaping.{Scope, under_all, Shaped, shaped_at}
use Rattle.lf_definitions.specs.Occurrence.{OccursIn, rigid_bound, rigid_constant}
use Rattle.lf_definitions.specs.Instantiation.{LfAssigned, assignment_of}
use Rattle.lf_definitions.proofs.Options.{Some-Some}
use Rattle.lf_definitions.proofs.Uniqueness.{unique}
use Rattle.unification.specs.Equations.{LfEquation, of_terms, Reason, refused, InstantiatedEquations, instantiated_terms, one_equation}
use Rattle.unification.specs.Transitions.{Frozen, solving, leaving, step_left, step_right, stops_left, stops_right, Ends, ends_refused}
use Rattle.unification.specs.Solutions.{ShapedEquation}
use Rattle.unification.proofs.ShapedSteps.{left_entry_is_shaped, right_entry_is_shaped}
use Rattle.unification.proofs.Solvings.{solving-Some}
use Rattle.unification.proofs.Remaining.{solved_mentions}
use Rattle.unification.proofs.Spreading.{under_all-metavariable}
use Rattle.meta_goals.specs.Bindings.{LfBinding, assigned_of, binding_for}
use Rattle.std.specs.Prelude.{option_map, IsTrue}
use Rattle.meta_unify.specs.declared.stop.Stop.{Stop}
use Rattle.meta_unify.specs.declared.stop.Cause.{Cause}
use Rattle.meta_unify.specs.Equations.{is_flexible}
use Rattle.meta_unify.specs.Endings.{reason_at, reason_for}
use Rattle.meta_unify.specs.Standing.{Stands, MentionsNoneBound}
use Rattle.meta_unify.specs.Walks.{LeadsTo, WalkPasses, WalkStops, Walked}
use Rattle.meta_unify.proofs.Ends.{step_leads}
use Rattle.meta_unify.proofs.Instances.{unbound, full_stays}
use Rattle.meta_unify.proofs.Steps.{made, goes_on}
use Rattle.meta_unify.proofs.Passing.{same_passes}
use Rattle.meta_unify.proofs.Walking.{stops_here}

-- What is put knows the shapes of its goal's context.
abbrev pub Knows : LfTerm → LfBinding → Type 0
Knows t b = (Γ : Scope) (s c : SimpleType) → Shaped Γ t s → Γ (metavariable b.number) ≡ Some c → c ≡ arrows b.shapes base

not_lam : {Γ : Scope} {h : LfHead} {ts : Spine} {c : LfTerm} {s : SimpleType} → Shaped Γ (at h ts) s → Shaped Γ (lam c) s → ⊥
not_lam (shaped_at d known ps) p = elim p [ ]

module _ (frozen : Frozen) (old : List LfBinding) where
  -- Both sides are as they are in the definition's state.
  module _ (path : List ℕ) (t u : LfTerm) (full : MentionsNoneBound old t) (full_right : MentionsNoneBound old u) (kinds : ℕ → Option SimpleType) (Γ : Scope) (entries : List LfAssigned) (rest : List LfEquation) where
    first_is : {qs : List LfEquation} → Stands Γ old entries → InstantiatedEquations (assignment_of entries) (of_terms path t u ∷ rest) qs →
        (later : List LfEquation) × (qs ≡ of_terms path t u ∷ later) × InstantiatedEquations (assignment_of entries) rest later
    first_is stands (one_equation {results = later} (instantiated_terms p q) ps) = (
      later,
      subst₂ (λ v w. of_terms path v w ∷ later ≡ of_terms path t u ∷ later) (unique (full_stays Γ old entries stands t full) p) (unique (full_stays Γ old entries stands u full_right) q) refl,
      ps,
    )

  module _ (path : List ℕ) (h k : LfHead) (ts us : Spine) (b : LfBinding) (full : MentionsNoneBound old (at h ts)) (full_right : MentionsNoneBound old (at k us)) where
    spines_left : solving frozen (at h ts) (at k us) ≡ Some (assigned_of b) → Knows (at h ts) b → WalkPasses frozen old (old ++ b ∷ []) (of_terms path (at h ts) (at k us) ∷ [])
    spines_left e knows kinds Γ entries rest results begins =
        let t = at h ts in
        let u = at k us in
        let stands = begins.stands in
        let shaped = All-head (ShapedEquation kinds Γ) (of_terms path t u) rest begins.shaped in
        let later_shaped = All-tail (ShapedEquation kinds Γ) (of_terms path t u) rest begins.shaped in
        let first = first_is path t u full full_right kinds Γ entries rest stands begins.instance in
        let is_solved = solving-Some frozen t u (assigned_of b) e in
        let entry = left_entry_is_shaped kinds Γ frozen path (assigned_of b) shaped e in
        let none : (g : ℕ) → OccursIn (metavariable g) t → assignment_of entries g ≡ None = λ g o. unbound Γ old entries stands g (full g o) in
        let none_right : (g : ℕ) → OccursIn (metavariable g) u → assignment_of entries g ≡ None = λ g o. unbound Γ old entries stands g (full_right g o) in
        let shapes : (c : SimpleType) → Γ (metavariable b.number) ≡ Some c → c ≡ arrows b.shapes base =
        λ c known. knows (under_all shaped.0 Γ) shaped.1 c shaped.2 (under_all-metavariable shaped.0 Γ b.number ∙ known) in
        let go = goes_on Γ kinds frozen old entries stands b t u is_solved entry none none_right shapes rest first.0 later_shaped first.2 in
        let more = made Γ kinds frozen old entries stands b t u is_solved entry none none_right shapes in (
          assigned_of b ∷ more.0,
          go.0,
          go.1,
          subst (λ qs. LeadsTo frozen (leaving qs entries) (leaving go.0 (assigned_of b ∷ more.0))) (sym first.1) (step_leads (step_left (assigned_of b) e go.2 more.1)),
        )

    spines_right : solving frozen (at h ts) (at k us) ≡ None → solving frozen (at k us) (at h ts) ≡ Some (assigned_of b) → Knows (at k us) b → WalkPasses frozen old (old ++ b ∷ []) (of_terms path (at h ts) (at k us) ∷ [])
    spines_right nothing e knows kinds Γ entries rest results begins =
        let t = at h ts in
        let u = at k us in
        let stands = begins.stands in
        let shaped = All-head (ShapedEquation kinds Γ) (of_terms path t u) rest begins.shaped in
        let later_shaped = All-tail (ShapedEquation kinds Γ) (of_terms path t u) rest begins.shaped in
        let first = first_is path t u full full_right kinds Γ entries rest stands begins.instance in
        let is_solved = solving-Some frozen u t (assigned_of b) e in
        let entry = right_entry_is_shaped kinds Γ frozen path (assigned_of b) shaped e in
        let none : (g : ℕ) → OccursIn (metavariable g) t → assignment_of entries g ≡ None = λ g o. unbound Γ old entries stands g (full g o) in
        let none_right : (g : ℕ) → OccursIn (metavariable g) u → assignment_of entries g ≡ None = λ g o. unbound Γ old entries stands g (full_right g o) in
        let shapes : (c : SimpleType) → Γ (metavariable b.number) ≡ Some c → c ≡ arrows b.shapes base =
        λ c known. knows (under_all shaped.0 Γ) shaped.1 c shaped.3 (under_all-metavariable shaped.0 Γ b.number ∙ known) in
        let go = goes_on Γ kinds frozen old entries stands b u t is_solved entry none_right none shapes rest first.0 later_shaped first.2 in
        let more = made Γ kinds frozen old entries stands b u t is_solved entry none_right none shapes in (
          assigned_of b ∷ more.0,
          go.0,
          go.1,
          subst (λ qs. LeadsTo frozen (leaving qs entries) (leaving go.0 (assigned_of b ∷ more.0))) (sym first.1) (step_leads (step_right (assigned_of b) nothing e go.2 more.1)),
        )

  -- The other side is no abstraction, since it has the shape of a spine.
  pub left_passes : (path : List ℕ) (t u : LfTerm) (b : LfBinding) → MentionsNoneBound old t → MentionsNoneBound old u → solving frozen t u ≡ Some (assigned_of b) → Knows t b → WalkPasses frozen old (old ++ b ∷ []) (of_terms path t u ∷ [])
  left_passes path (lam c) u b full full_right e knows kinds Γ entries rest results begins = absurd cc
  left_passes path (at h ts) (at k us) b full full_right e knows kinds Γ entries rest results begins = spines_left path h k ts us b full full_right e knows kinds Γ entries rest results begins
  left_passes path (at h ts) (lam c) b full full_right e knows kinds Γ entries rest results begins =
      let shaped = All-head (ShapedEquation kinds Γ) (of_terms path (at h ts) (lam c)) rest begins.shaped in
      absurd (not_lam shaped.2 shaped.3)

  pub right_passes : (path : List ℕ) (t u : LfTerm) (b : LfBinding) → MentionsNoneBound old t → MentionsNoneBound old u → solving frozen t u ≡ None → solving frozen u t ≡ Some (assigned_of b) → Knows u b →
      WalkPasses frozen old (old ++ b ∷ []) (of_terms path t u ∷ [])
  right_passes path t (lam c) b full full_right nothing e knows kinds Γ entries rest results begins = absurd cc
  right_passes path (at h ts) (at k us) b full full_right nothing e knows kinds Γ entries rest results begins = spines_right path h k ts us b full full_right nothing e knows kinds Γ entries rest results begins
  right_passes path (lam c) (at k us) b full full_right nothing e knows kinds Γ entries rest results begins =
      let shaped = All-head (ShapedEquation kinds Γ) (of_terms path (lam c) (at k us)) rest begins.shaped in
      absurd (not_lam shaped.3 shaped.2)

  pub left_stays : (path : List ℕ) (t u : LfTerm) (reason : Reason) → MentionsNoneBound old t → MentionsNoneBound old u → (t ≡ u → ⊥) → solving frozen t u ≡ None → solving frozen u t ≡ None → Some reason ≡ reason_for frozen path t u →
      WalkStops frozen old (of_terms path t u ∷ []) reason
  left_stays path (lam c) u reason full full_right differ none none_right e kinds Γ entries rest results begins = absurd cc
  left_stays path (at (bound n) ts) u reason full full_right differ none none_right e kinds Γ entries rest results begins = absurd cc
  left_stays path (at (constant n) ts) u reason full full_right differ none none_right e kinds Γ entries rest results begins = absurd cc
  left_stays path (at (metavariable g) ts) (lam c) reason full full_right differ none none_right e kinds Γ entries rest results begins =
      let shaped = All-head (ShapedEquation kinds Γ) (of_terms path (at (metavariable g) ts) (lam c)) rest begins.shaped in
      absurd (not_lam shaped.2 shaped.3)
  left_stays path (at (metavariable g) ts) (at k us) reason full full_right differ none none_right e kinds Γ entries rest results begins =
      let first = first_is path (at (metavariable g) ts) (at k us) full full_right kinds Γ entries rest begins.stands begins.instance in
      subst₂ (λ qs r. Ends frozen (leaving qs entries) (refused r)) (sym first.1) (sym (Some-Some e)) (ends_refused (stops_left differ none none_right))

  pub right_stays : (path other : List ℕ) (t u : LfTerm) (reason : Reason) → MentionsNoneBound old t → MentionsNoneBound old u → None ≡ reason_for frozen other t u → solving frozen u t ≡ None → Some reason ≡ reason_for frozen path u t →
      WalkStops frozen old (of_terms path t u ∷ []) reason
  right_stays path other t (lam c) reason full full_right rigid none e kinds Γ entries rest results begins = absurd cc
  right_stays path other t (at (bound n) us) reason full full_right rigid none e kinds Γ entries rest results begins = absurd cc
  right_stays path other t (at (constant n) us) reason full full_right rigid none e kinds Γ entries rest results begins = absurd cc
  right_stays path other (lam c) (at (metavariable g) us) reason full full_right rigid none e kinds Γ entries rest results begins =
      let shaped = All-head (ShapedEquation kinds Γ) (of_terms path (lam c) (at (metavariable g) us)) rest begins.shaped in
      absurd (not_lam shaped.3 shaped.2)
  right_stays path other (at (metavariable m) ts) (at (metavariable g) us) reason full full_right rigid none e kinds Γ entries rest results begins = absurd cc
  right_stays path other (at (bound n) ts) (at (metavariable g) us) reason full full_right rigid none e kinds Γ entries rest results begins =
      let first = first_is path (at (bound n) ts) (at (metavariable g) us) full full_right kinds Γ entries rest begins.stands begins.instance in
      subst₂ (λ qs r. Ends frozen (leaving qs entries) (refused r)) (sym first.1) (sym (Some-Some e)) (ends_refused (stops_right (rigid_bound n) none))
  right_stays path other (at (constant n) ts) (at (metavariable g) us) reason full full_right rigid none e kinds Γ entries rest results begins =
      let first = first_is path (at (constant n) ts) (at (metavariable g) us) full full_right kinds Γ entries rest begins.stands begins.instance in
      subst₂ (λ qs r. Ends frozen (leaving qs entries) (refused r)) (sym first.1) (sym (Some-Some e)) (ends_refused (stops_right (rigid_constant n) none))

  -- As the walk says it.
  pub settle_same : (t u : LfTerm) → t ≡ u → Walked frozen old old (λ path. of_terms path t u ∷ []) None
  settle_same t u same path = subst (λ x. WalkPasses frozen old old (of_terms path t x ∷ [])) same (same_passes frozen old path t)

  pub is_new : (t u : LfTerm) (b : LfBinding) → MentionsNoneBound old t → solving frozen t u ≡ Some (assigned_of b) → binding_for old b.number ≡ None
  is_new t u b full e = full b.number (solved_mentions (solving-Some frozen t u (assigned_of b) e))

  pub settle_left : (new : List LfBinding) (t u : LfTerm) (b : LfBinding) → new ≡ old ++ b ∷ [] → MentionsNoneBound old t → MentionsNoneBound old u → solving frozen t u ≡ Some (assigned_of b) → Knows t b →
      Walked frozen old new (λ path. of_terms path t u ∷ []) None
  settle_left new t u b is full full_right e knows path = subst (λ late. WalkPasses frozen old late (of_terms path t u ∷ [])) (sym is) (left_passes path t u b full full_right e knows)

  pub settle_right : (new : List LfBinding) (t u : LfTerm) (b : LfBinding) → new ≡ old ++ b ∷ [] → MentionsNoneBound old t → MentionsNoneBound old u → solving frozen t u ≡ None → solving frozen u t ≡ Some (assigned_of b) → Knows u b →
      Walked frozen old new (λ path. of_terms path t u ∷ []) None
  settle_right new t u b is full full_right nothing e knows path = subst (λ late. WalkPasses frozen old late (of_terms path t u ∷ [])) (sym is) (right_passes path t u b full full_right nothing e knows)

  pub stop_left : (new : List LfBinding) (t u : LfTerm) (cause : Cause) (stop : Stop) → MentionsNoneBound old t → MentionsNoneBound old u → (t ≡ u → ⊥) → solving frozen t u ≡ None → solving frozen u t ≡ None →
      ((path : List ℕ) → Some (reason_at cause path) ≡ reason_for frozen path t u) → stop.cause ≡ cause → stop.steps ≡ [] → Walked frozen old new (λ path. of_terms path t u ∷ []) (Some stop)
  stop_left new t u cause stop full full_right differ none none_right e is steps =
      stops_here frozen old new (λ path. of_terms path t u ∷ []) stop cause is steps (λ path. left_stays path t u (reason_at cause path) full full_right differ none none_right (e path))

  pub stop_right : (new : List LfBinding) (t u : LfTerm) (cause : Cause) (stop : Stop) → MentionsNoneBound old t → MentionsNoneBound old u → None ≡ reason_for frozen [] t u → solving frozen u t ≡ None →
      ((path : List ℕ) → Some (reason_at cause path) ≡ reason_for frozen path u t) → stop.cause ≡ cause → stop.steps ≡ [] → Walked frozen old new (λ path. of_terms path t u ∷ []) (Some stop)
  stop_right new t u cause stop full full_right rigid none e is steps =
      stops_here frozen old new (λ path. of_terms path t u ∷ []) stop cause is steps (λ path. right_stays path [] t u (reason_at cause path) full full_right rigid none (e path))

-- The reason that was found, where it is known which of both.
pub reason_some : {o : Option Reason} (found : Option Cause) (cause : Cause) (path : List ℕ) → found ≡ Some cause → option_map (λ c. reason_at c path) found ≡ o → Some (reason_at cause path) ≡ o
reason_some found cause path some is = sym (ap (option_map (λ c. reason_at c path)) some) ∙ is

-- A term without a reason has no metavariable as its head, so one of two has a reason where the head of one is a metavariable.
rigid_without_reason : (frozen : Frozen) (path : List ℕ) (t u : LfTerm) → reason_for frozen path t u ≡ None → is_flexible t ≡ false
rigid_without_reason frozen path (lam b) u e = refl
rigid_without_reason frozen path (at (bound n) ts) u e = refl
rigid_without_reason frozen path (at (constant c) ts) u e = refl
rigid_without_reason frozen path (at (metavariable g) ts) u e = absurd cc

pub one_has_reason : (frozen : Frozen) (path : List ℕ) (t u : LfTerm) → (is_flexible t ≡ true) ⊎ (is_flexible u ≡ true) → reason_for frozen path t u ≡ None → reason_for frozen path u t ≡ None → ⊥
one_has_reason frozen path t u (inl flexible) none none_right = both_ways (is_flexible t) (rigid_without_reason frozen path t u none) flexible
one_has_reason frozen path t u (inr flexible) none none_right = both_ways (is_flexible u) (rigid_without_reason frozen path u t none_right) flexible

not_both : {b : Bool} → b ≡ false → IsTrue b → ⊥
not_both e h = cc

pub terms_differ : {A : Type 0} {x y : A} {b : Bool} → b ≡ false → (x ≡ y → IsTrue b) → x ≡ y → ⊥
terms_differ e same q = not_both e (same q)
