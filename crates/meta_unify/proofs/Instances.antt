-- What bindings and entries make of terms and equations.
use Rattle.std.proofs.Common.{◌≡◌, ℕ, List, [], ◌∷◌, map, All, Option, Some, None, refl, sym, ap, ◌∙◌, subst}
use Rattle.std.proofs.lemmas.List.Elements.{All-nil, All-cons, All-head, All-tail}
use Rattle.lf_definitions.specs.Syntax.{LfHead, bound, constant, metavariable, LfTerm, LfAtom, atomic, SimpleType}
use Rattle.lf_definitions.specs.Shaping.{Scope, under_all, Shaped, ShapedType, shaped_family}
use Rattle.lf_definitions.specs.Occurrence.{OccursIn}
use Rattle.lf_definitions.specs.Substitution.{stays}
use Rattle.lf_definitions.specs.Replacements.{Goes}
use Rattle.lf_definitions.specs.Instantiation.{Assignment, assigned, instantiating, Instantiated, LfAssigned, assignment_of}
use Rattle.lf_definitions.proofs.Totality.{total, total_spine}
use Rattle.lf_definitions.proofs.Renaming.{Substituted-stays}
use Rattle.head_laws.specs.AssignmentLaws.{AssignsClosedTerms}
use Rattle.head_laws.specs.Mentions.{ComesFrom, comes_from_head, comes_from_term}
use Rattle.head_laws.proofs.Replacing.{Substituted-agree, mentioned}
use Rattle.unification.specs.Patterns.{has_number}
use Rattle.unification.specs.Equations.{LfEquation, of_atoms, of_terms, InstantiatedEquation, instantiated_atoms, instantiated_terms, InstantiatedEquations, no_equation, one_equation}
use Rattle.unification.specs.Solutions.{ShapedEquation, ShapedEquations, or_itself, IsInstanceOf, ShapedEntry}
use Rattle.unification.proofs.Assigning.{unique_equations}
use Rattle.unifiers.proofs.Entries.{Meets, instance_from, meets_each, entries_closed, entries_go}
use Rattle.unifiers.proofs.Solved.{local_follow, entries_follow}
use Rattle.unifiers.proofs.Spines.{Goes-local}
use Rattle.meta_goals.specs.Bindings.{LfBinding, assigned_of, assigning, binding_for}
use Rattle.meta_unify.specs.Standing.{newest_first, Stands, MentionsNoneBound}
use Rattle.meta_unify.specs.Walks.{WalkBegins}
use Rattle.meta_unify.proofs.Lookups.{All-newest_first, All-in_order, no_entry_for, assigned_goals-left, assigned_goals-none, AllPairs-assigned_goals}

-- What mentions nothing that is assigned stays.
pub unchanged : (σ : Assignment) (t : LfTerm) → ((g : ℕ) → OccursIn (metavariable g) t → σ g ≡ None) → Instantiated σ t t
unchanged σ t none = Substituted-agree (Substituted-stays t) (instantiating σ) each
  where
    each : (h : LfHead) → OccursIn h t → stays h ≡ instantiating σ h
    each (bound n) o = refl
    each (constant c) o = refl
    each (metavariable g) o = sym (ap (assigned g) (none g o))

-- An instance under a resolved assignment mentions nothing that is assigned.
pub instance_is_resolved : (σ : Assignment) → ((g h : ℕ) (u : LfTerm) → σ g ≡ Some u → OccursIn (metavariable h) u → σ h ≡ None) → (t r : LfTerm) → Instantiated σ t r → (h : ℕ) → OccursIn (metavariable h) r → σ h ≡ None
instance_is_resolved σ resolved t r p h o = let m = mentioned p (metavariable h) o in from_head m.0 m.2
  where
    from_image : (k : ℕ) (v : Option LfTerm) → σ k ≡ v → ComesFrom (metavariable h) (assigned k v) → σ h ≡ None
    from_image k None e (comes_from_head _) = e
    from_image k (Some u) e (comes_from_term _ _ q) = resolved k h u e q

    from_head : (k : LfHead) → ComesFrom (metavariable h) (instantiating σ k) → σ h ≡ None
    from_head (bound n) c = elim c [ ]
    from_head (constant n) c = elim c [ ]
    from_head (metavariable k) c = from_image k (σ k) refl c

-- A resolved assignment is an instance of itself.
pub instance_of_itself : (Γ : Scope) (σ : Assignment) → ((g h : ℕ) (u : LfTerm) → σ g ≡ Some u → OccursIn (metavariable h) u → σ h ≡ None) → IsInstanceOf Γ σ σ
instance_of_itself Γ σ resolved g s u known e = subst (Instantiated σ u) (sym (ap (λ o. or_itself o g s) e)) (unchanged σ u (λ h o. resolved g h u e o))

module _ (Γ : Scope) (bindings : List LfBinding) (entries : List LfAssigned) (stands : Stands Γ bindings entries) where
  abbrev pub σ : Assignment
  σ = assignment_of entries

  pub goes : (q : ℕ) × Goes q Γ Γ (instantiating σ)
  goes = entries_go Γ entries stands.entries_shaped

  pub closed : AssignsClosedTerms σ
  closed = entries_closed Γ entries stands.entries_shaped

  pub goes_under : (local : List SimpleType) → Goes goes.0 (under_all local Γ) (under_all local Γ) (instantiating σ)
  goes_under local = Goes-local σ closed goes.0 Γ Γ goes.1 local

  pub bindings_go : (q : ℕ) × Goes q Γ Γ (instantiating (assigning bindings))
  bindings_go = entries_go Γ (map assigned_of bindings) stands.bindings_shaped

  pub bindings_closed : AssignsClosedTerms (assigning bindings)
  bindings_closed = entries_closed Γ (map assigned_of bindings) stands.bindings_shaped

  pub newest_shaped : All (ShapedEntry Γ) (newest_first bindings [])
  newest_shaped = All-newest_first (ShapedEntry Γ) bindings [] stands.bindings_shaped (All-nil (ShapedEntry Γ))

  pub meets_itself : All (Meets Γ σ) entries
  meets_itself = meets_each Γ σ entries (AllPairs-assigned_goals entries stands.differ) (instance_of_itself Γ σ stands.resolved)

  -- The entries are an instance of the bindings.
  pub is_instance : (kinds : ℕ → Option SimpleType) → IsInstanceOf Γ (assigning bindings) σ
  is_instance kinds =
      let back = (entries_follow kinds goes.0 goes.0 Γ Γ σ σ goes.1 closed goes.1 closed (instance_of_itself Γ σ stands.resolved) stands.instantiated newest_shaped).1 meets_itself in
      instance_from Γ σ (map assigned_of bindings) (All-in_order (Meets Γ σ) bindings [] back).0

  -- A goal with no binding has no entry.
  pub unbound : (g : ℕ) → binding_for bindings g ≡ None → σ g ≡ None
  unbound g e = assigned_goals-none entries g (ap (λ ks. has_number ks g) (assigned_goals-left stands.instantiated) ∙ no_entry_for bindings [] g e refl)

  pub full_stays : (t : LfTerm) → MentionsNoneBound bindings t → Instantiated σ t t
  full_stays t is_full = unchanged σ t (λ g o. unbound g (is_full g o))

  -- What entries make of a term, they make of what bindings make of it.
  pub follows : (kinds : ℕ → Option SimpleType) (local : List SimpleType) (t r x : LfTerm) (s : SimpleType) → Shaped (under_all local Γ) t s → Instantiated (assigning bindings) t r → Instantiated σ r x → Instantiated σ t x
  follows kinds local t r x s shaped p =
      (local_follow kinds bindings_go.0 goes.0 Γ Γ (assigning bindings) σ bindings_go.1 bindings_closed goes.1 closed (is_instance kinds) local t r x s shaped p).0

  -- Shaped equations have a result, which is shaped.
  module _ (kinds : ℕ → Option SimpleType) where
    abbrev HasLeft : LfEquation → Type 0
    HasLeft q = (r : LfEquation) × InstantiatedEquation σ q r × ShapedEquation kinds Γ r

    atoms_left : (path : List ℕ) (a b : LfAtom) → ShapedType kinds Γ (atomic a) → ShapedType kinds Γ (atomic b) → HasLeft (of_atoms path a b)
    atoms_left path a b (shaped_family s known ps) (shaped_family c knows qs) =
        let vs = total_spine goes.0 ps Γ (instantiating σ) goes.1 in
        let ws = total_spine goes.0 qs Γ (instantiating σ) goes.1 in (
          of_atoms path (record { atom_family = a.atom_family; atom_args = vs.0 }) (record { atom_family = b.atom_family; atom_args = ws.0 }),
          instantiated_atoms vs.1 ws.1,
          (shaped_family s known vs.2, shaped_family c knows ws.2),
        )

    equation_left : (q : LfEquation) → ShapedEquation kinds Γ q → HasLeft q
    equation_left (of_atoms path a b) shaped = atoms_left path a b shaped.0 shaped.1
    equation_left (of_terms path t u) shaped =
        let Δ = under_all shaped.0 Γ in
        let v = total goes.0 shaped.2 Δ (instantiating σ) (goes_under shaped.0) in
        let w = total goes.0 shaped.3 Δ (instantiating σ) (goes_under shaped.0) in
        (of_terms path v.0 w.0, instantiated_terms v.1 w.1, (shaped.0, shaped.1, v.2, w.2))

    pub results_left : (qs : List LfEquation) → ShapedEquations kinds Γ qs → (rs : List LfEquation) × InstantiatedEquations σ qs rs × ShapedEquations kinds Γ rs
    results_left [] shaped = ([], no_equation, All-nil (ShapedEquation kinds Γ))
    results_left (q ∷ qs) shaped =
        let r = equation_left q (All-head (ShapedEquation kinds Γ) q qs shaped) in
        let rs = results_left qs (All-tail (ShapedEquation kinds Γ) q qs shaped) in
        (r.0 ∷ rs.0, one_equation r.1 rs.1, All-cons (ShapedEquation kinds Γ) r.0 rs.0 r.2 rs.2)

    pub results_are_shaped : (qs rs : List LfEquation) → ShapedEquations kinds Γ qs → InstantiatedEquations σ qs rs → ShapedEquations kinds Γ rs
    results_are_shaped qs rs shaped result =
        let left = results_left qs shaped in
        subst (ShapedEquations kinds Γ) (unique_equations left.1 result) left.2

    pub begin : (qs : List LfEquation) → ShapedEquations kinds Γ qs → (rs : List LfEquation) × WalkBegins kinds Γ bindings qs entries rs
    begin qs shaped = let left = results_left qs shaped in (left.0, record { stands = stands; shaped = shaped; instance = left.1 })
