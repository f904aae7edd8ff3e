-- What renamed equations go to, and what they end with, is what the equations do, renamed.
use Rattle.std.proofs.Common.{◌≡◌, ℕ, zero, suc, Option, Some, None, option_map, List, [], ◌∷◌, ◌++◌, map, refl, sym, ap, ap₂, ◌∙◌, subst}
use Rattle.lf_definitions.specs.Syntax.{LfHead, bound, constant, metavariable, LfTerm, lam, at, lams, Spine, LfAtom}
use Rattle.lf_definitions.specs.Renaming.{rename, rename_spine}
use Rattle.lf_definitions.specs.Occurrence.{IsRigid, rigid_bound, rigid_constant}
use Rattle.lf_definitions.specs.Instantiation.{Assignment, instantiating, Instantiated, LfAssigned, assignment_of, metavariables, IsInjective}
use Rattle.lf_definitions.proofs.Options.{Some-Some}
use Rattle.lf_definitions.proofs.Renaming.{KeepsApart, rename_inj}
use Rattle.head_laws.specs.MetavariableLaws.{AssignsRenamed}
use Rattle.head_laws.proofs.Unrenamed.{unrenamed_term, unrenamed_spine}
use Rattle.head_laws.proofs.Metavariables.{lifted-metavariables, KeepsApart-metavariables, Follows-instantiating}
use Rattle.unification.specs.Equations.{LfEquation, of_atoms, of_terms, argument_equations, Reason, clash, Ending, solved, refused, Unifying, InstantiatedEquations, instantiated_atoms, instantiated_terms, no_equation, one_equation, InstantiatedEntry, InstantiatedEntries, no_entry, one_entry}
use Rattle.unification.specs.Transitions.{Frozen, solving, reason_of, leaving, Step, step_atoms, step_lams, step_same, step_heads, step_left, step_right, Stops, stops_families, stops_heads, stops_lam, stops_at, stops_left, stops_right, Ends, ends_solved, ends_refused, ends_later}
use Rattle.renamed_unification.specs.Laws.{rename_equation, rename_entry, rename_reason, rename_ending}
use Rattle.renamed_unification.proofs.RenamedPatterns.{FreezesRenamed, solving-renamed, reason_of-renamed}
use Rattle.renamed_unification.proofs.RenamedSteps.{lams-metavariables, AssignsRenamed-entries, arguments-renamed, renamed_state}

abbrev atom_with : ℕ → Spine → LfAtom
atom_with f ts = record { atom_family = f; atom_args = ts }

abbrev entry_with : ℕ → ℕ → LfTerm → LfAssigned
entry_with g n b = record { assigned_goal = g; binders_count = n; body = b }

entries_alike : (x y : LfAssigned) → x.assigned_goal ≡ y.assigned_goal → x.binders_count ≡ y.binders_count → x.body ≡ y.body → x ≡ y
entries_alike x y goals counts bodies = ap₂ (λ g n. entry_with g n x.body) goals counts ∙ ap (entry_with y.assigned_goal y.binders_count) bodies

module _ (ρ : ℕ → ℕ) where
  -- a term that is a renamed one
  record LamBack (b v : LfTerm) : Type 0 where
    pub old_body : LfTerm
    pub old_is : v ≡ lam old_body
    pub body_is : b ≡ rename (metavariables ρ) old_body

  lam_back : (b v : LfTerm) → lam b ≡ rename (metavariables ρ) v → LamBack b v
  lam_back b (lam c) e =
      let under : lam b ≡ lam (rename (metavariables ρ) c) = e ∙ ap (λ ξ. lam (rename ξ c)) (lifted-metavariables ρ) in
      record { old_body = c; old_is = refl; body_is = cc }
  lam_back b (at h ts) e = absurd cc

  record AtBack (h : LfHead) (ts : Spine) (v : LfTerm) : Type 0 where
    pub old_head : LfHead
    pub old_args : Spine
    pub old_is : v ≡ at old_head old_args
    pub head_is : h ≡ metavariables ρ old_head
    pub args_are : ts ≡ rename_spine (metavariables ρ) old_args

  at_back : (h : LfHead) (ts : Spine) (v : LfTerm) → at h ts ≡ rename (metavariables ρ) v → AtBack h ts v
  at_back h ts (lam c) e = absurd cc
  at_back h ts (at k us) e = record { old_head = k; old_args = us; old_is = refl; head_is = cc; args_are = cc }

  lams_back : (n : ℕ) (x r : LfTerm) → lams n x ≡ rename (metavariables ρ) r → (b : LfTerm) × (r ≡ lams n b) × (x ≡ rename (metavariables ρ) b)
  lams_back zero x r e = (r, refl, e)
  lams_back (suc n) x r e =
      let outer = lam_back (lams n x) r e in
      let inner = lams_back n x outer.old_body outer.body_is in
      (inner.0, outer.old_is ∙ ap lam inner.1, inner.2)

  rigid_back : (h : LfHead) → IsRigid (metavariables ρ h) → IsRigid h
  rigid_back (bound n) rigid = rigid_bound n
  rigid_back (constant c) rigid = rigid_constant c
  rigid_back (metavariable g) rigid = elim rigid [ ]

  number_back : (g : ℕ) (h : LfHead) → metavariable g ≡ metavariables ρ h → (m : ℕ) × (h ≡ metavariable m) × (g ≡ ρ m)
  number_back g (bound n) e = absurd cc
  number_back g (constant c) e = absurd cc
  number_back g (metavariable m) e = (m, refl, cc)

  -- equations that are renamed ones, by the first
  record AtomsBack (path : List ℕ) (f g : ℕ) (ts us : Spine) (rest qs : List LfEquation) : Type 0 where
    pub left : Spine
    pub right : Spine
    pub old_rest : List LfEquation
    pub old_are : qs ≡ of_atoms path (atom_with f left) (atom_with g right) ∷ old_rest
    pub left_is : ts ≡ rename_spine (metavariables ρ) left
    pub right_is : us ≡ rename_spine (metavariables ρ) right
    pub rest_is : rest ≡ map (rename_equation ρ) old_rest

  atoms_back : (path : List ℕ) (f g : ℕ) (ts us : Spine) (rest qs : List LfEquation) →
      of_atoms path (atom_with f ts) (atom_with g us) ∷ rest ≡ map (rename_equation ρ) qs → AtomsBack path f g ts us rest qs
  atoms_back path f g ts us rest [] e = absurd cc
  atoms_back path f g ts us rest (of_terms p v w ∷ qs) e = absurd cc
  atoms_back path f g ts us rest (of_atoms p a b ∷ qs) e =
      let same_path : p ≡ path = cc in
      let first : atom_with f ts ≡ atom_with a.atom_family (rename_spine (metavariables ρ) a.atom_args) = cc in
      let second : atom_with g us ≡ atom_with b.atom_family (rename_spine (metavariables ρ) b.atom_args) = cc in
      record {
        left = a.atom_args;
        right = b.atom_args;
        old_rest = qs;
        old_are =
            ap (λ x. of_atoms x a b ∷ qs) same_path
            ∙ ap₂ (λ x y. of_atoms path (atom_with x a.atom_args) (atom_with y b.atom_args) ∷ qs) (sym (ap (λ x. x.atom_family) first)) (sym (ap (λ x. x.atom_family) second));
        left_is = ap (λ x. x.atom_args) first;
        right_is = ap (λ x. x.atom_args) second;
        rest_is = cc;
      }

  record TermsBack (path : List ℕ) (t u : LfTerm) (rest qs : List LfEquation) : Type 0 where
    pub left : LfTerm
    pub right : LfTerm
    pub old_rest : List LfEquation
    pub old_are : qs ≡ of_terms path left right ∷ old_rest
    pub left_is : t ≡ rename (metavariables ρ) left
    pub right_is : u ≡ rename (metavariables ρ) right
    pub rest_is : rest ≡ map (rename_equation ρ) old_rest

  terms_back : (path : List ℕ) (t u : LfTerm) (rest qs : List LfEquation) → of_terms path t u ∷ rest ≡ map (rename_equation ρ) qs → TermsBack path t u rest qs
  terms_back path t u rest [] e = absurd cc
  terms_back path t u rest (of_atoms p a b ∷ qs) e = absurd cc
  terms_back path t u rest (of_terms p v w ∷ qs) e =
      let same_path : p ≡ path = cc in
      record { left = v; right = w; old_rest = qs; old_are = ap (λ x. of_terms x v w ∷ qs) same_path; left_is = cc; right_is = cc; rest_is = cc }

  -- instances of renamed equations and of renamed entries
  module _ (σ τ : Assignment) (renamed : AssignsRenamed ρ σ τ) where
    equations_back : (es : List LfEquation) {xs : List LfEquation} → InstantiatedEquations τ (map (rename_equation ρ) es) xs →
        (fs : List LfEquation) × (xs ≡ map (rename_equation ρ) fs) × InstantiatedEquations σ es fs
    equations_back [] no_equation = ([], refl, no_equation)
    equations_back (of_atoms path a b ∷ es) (one_equation (instantiated_atoms ps qs) more) =
        let follows = Follows-instantiating ρ σ τ renamed in
        let first = unrenamed_spine ps (metavariables ρ) (metavariables ρ) (instantiating σ) follows a.atom_args refl in
        let second = unrenamed_spine qs (metavariables ρ) (metavariables ρ) (instantiating σ) follows b.atom_args refl in
        let later = equations_back es more in (
          of_atoms path (atom_with a.atom_family first.0) (atom_with b.atom_family second.0) ∷ later.0,
          ap₂ (λ q qs. q ∷ qs) (ap₂ (λ x y. of_atoms path (atom_with a.atom_family x) (atom_with b.atom_family y)) first.1 second.1) later.1,
          one_equation (instantiated_atoms first.2 second.2) later.2,
        )
    equations_back (of_terms path t u ∷ es) (one_equation (instantiated_terms p q) more) =
        let follows = Follows-instantiating ρ σ τ renamed in
        let first = unrenamed_term p (metavariables ρ) (metavariables ρ) (instantiating σ) follows t refl in
        let second = unrenamed_term q (metavariables ρ) (metavariables ρ) (instantiating σ) follows u refl in
        let later = equations_back es more in (
          of_terms path first.0 second.0 ∷ later.0,
          ap₂ (λ q qs. q ∷ qs) (ap₂ (of_terms path) first.1 second.1) later.1,
          one_equation (instantiated_terms first.2 second.2) later.2,
        )

    entry_back : (e x : LfAssigned) → InstantiatedEntry τ (rename_entry ρ e) x → (f : LfAssigned) × (x ≡ rename_entry ρ f) × InstantiatedEntry σ e f
    entry_back e x p =
        let n = e.binders_count in
        let body : Instantiated τ (rename (metavariables ρ) (lams n e.body)) (lams n x.body) = subst (λ t. Instantiated τ t (lams n x.body)) (sym (lams-metavariables ρ n e.body)) p.of_body in
        let old = unrenamed_term body (metavariables ρ) (metavariables ρ) (instantiating σ) (Follows-instantiating ρ σ τ renamed) (lams n e.body) refl in
        let under = lams_back n x.body old.0 old.1 in (
          entry_with e.assigned_goal n under.0,
          entries_alike x (rename_entry ρ (entry_with e.assigned_goal n under.0)) p.same_goal p.same_count under.2,
          record { same_goal = refl; same_count = refl; of_body = subst (Instantiated σ (lams n e.body)) under.1 old.2 },
        )

    entries_back : (es : List LfAssigned) {xs : List LfAssigned} → InstantiatedEntries τ (map (rename_entry ρ) es) xs →
        (fs : List LfAssigned) × (xs ≡ map (rename_entry ρ) fs) × InstantiatedEntries σ es fs
    entries_back [] no_entry = ([], refl, no_entry)
    entries_back (e ∷ es) (one_entry {f = x} p more) =
        let first = entry_back e x p in
        let later = entries_back es more in
        (first.0 ∷ later.0, ap₂ (λ y ys. y ∷ ys) first.1 later.1, one_entry first.2 later.2)

none_back : (ρ : ℕ → ℕ) (o : Option LfAssigned) → option_map (rename_entry ρ) o ≡ None → o ≡ None
none_back ρ None e = refl
none_back ρ (Some u) e = absurd cc

some_back : (ρ : ℕ → ℕ) (o : Option LfAssigned) (x : LfAssigned) → option_map (rename_entry ρ) o ≡ Some x → (e : LfAssigned) × (o ≡ Some e) × (rename_entry ρ e ≡ x)
some_back ρ None x e = absurd cc
some_back ρ (Some u) x e = (u, refl, Some-Some e)

module _ (ρ : ℕ → ℕ) (injective : IsInjective ρ) (frozen other : Frozen) (freezes : FreezesRenamed ρ frozen other) where
  apart_back : KeepsApart (metavariables ρ)
  apart_back = KeepsApart-metavariables ρ injective

  -- sides of equations that are renamed ones
  unsolved_back : (t u v w : LfTerm) → t ≡ rename (metavariables ρ) v → u ≡ rename (metavariables ρ) w → solving other t u ≡ None → solving frozen v w ≡ None
  unsolved_back t u v w left right none = none_back ρ (solving frozen v w) (sym (solving-renamed ρ injective frozen other freezes v w) ∙ ap₂ (solving other) (sym left) (sym right) ∙ none)

  solved_back : (t u v w : LfTerm) (x : LfAssigned) → t ≡ rename (metavariables ρ) v → u ≡ rename (metavariables ρ) w → solving other t u ≡ Some x →
      (e : LfAssigned) × (solving frozen v w ≡ Some e) × (rename_entry ρ e ≡ x)
  solved_back t u v w x left right is = some_back ρ (solving frozen v w) x (sym (solving-renamed ρ injective frozen other freezes v w) ∙ ap₂ (solving other) (sym left) (sym right) ∙ is)

  abbrev StepBack : List LfEquation → List LfAssigned → Unifying → Type 0
  StepBack qs entries x = (next : Unifying) × (x ≡ renamed_state ρ next) × Step frozen (leaving qs entries) next

  -- an entry that was found for the old sides, with what it leaves
  abbrev AreLeft : List LfEquation → List LfAssigned → List LfEquation → List LfAssigned → LfAssigned → Type 0
  AreLeft rest entries results others e = InstantiatedEquations (assignment_of (e ∷ [])) rest results × InstantiatedEntries (assignment_of (e ∷ [])) entries others

  record LeftBack (rest : List LfEquation) (entries : List LfAssigned) (results : List LfEquation) (others : List LfAssigned) (x e : LfAssigned) : Type 0 where
    pub old_results : List LfEquation
    pub old_others : List LfAssigned
    pub state_is : leaving results (x ∷ others) ≡ renamed_state ρ (leaving old_results (e ∷ old_others))
    pub are_left : AreLeft rest entries old_results old_others e

  left_back : (rest new_rest : List LfEquation) (entries new_entries : List LfAssigned) (results : List LfEquation) (others : List LfAssigned) (x e : LfAssigned) →
      new_rest ≡ map (rename_equation ρ) rest → new_entries ≡ map (rename_entry ρ) entries → rename_entry ρ e ≡ x → AreLeft new_rest new_entries results others x → LeftBack rest entries results others x e
  left_back rest new_rest entries new_entries results others x e rest_is entries_are is p =
      let by_entry = AssignsRenamed-entries ρ injective (e ∷ []) in
      let σ = assignment_of (e ∷ []) in
      let τ = assignment_of (rename_entry ρ e ∷ []) in
      let q : AreLeft (map (rename_equation ρ) rest) (map (rename_entry ρ) entries) results others (rename_entry ρ e) =
      subst (AreLeft (map (rename_equation ρ) rest) (map (rename_entry ρ) entries) results others) (sym is)
      (subst (λ qs. AreLeft qs (map (rename_entry ρ) entries) results others x) rest_is (subst (λ es. AreLeft new_rest es results others x) entries_are p)) in
      let first = equations_back ρ σ τ by_entry rest q.0 in
      let second = entries_back ρ σ τ by_entry entries q.1 in
      record { old_results = first.0; old_others = second.0; state_is = ap₂ leaving first.1 (ap₂ (λ y ys. y ∷ ys) (sym is) second.1); are_left = (first.2, second.2) }

  assigned_left : (path : List ℕ) (h k : LfHead) (ts us : Spine) (rest : List LfEquation) (entries : List LfAssigned) (results : List LfEquation) (others : List LfAssigned) (x e : LfAssigned) →
      solving frozen (at h ts) (at k us) ≡ Some e → LeftBack rest entries results others x e → StepBack (of_terms path (at h ts) (at k us) ∷ rest) entries (leaving results (x ∷ others))
  assigned_left path h k ts us rest entries results others x e is after = (leaving after.old_results (e ∷ after.old_others), after.state_is, step_left e is after.are_left.0 after.are_left.1)

  assigned_right : (path : List ℕ) (h k : LfHead) (ts us : Spine) (rest : List LfEquation) (entries : List LfAssigned) (results : List LfEquation) (others : List LfAssigned) (x e : LfAssigned) →
      solving frozen (at h ts) (at k us) ≡ None → solving frozen (at k us) (at h ts) ≡ Some e → LeftBack rest entries results others x e →
      StepBack (of_terms path (at h ts) (at k us) ∷ rest) entries (leaving results (x ∷ others))
  assigned_right path h k ts us rest entries results others x e none is after = (leaving after.old_results (e ∷ after.old_others), after.state_is, step_right e none is after.are_left.0 after.are_left.1)

  Step-unrenamed : {state x : Unifying} → Step other state x → (qs : List LfEquation) (entries : List LfAssigned) →
      state.equations ≡ map (rename_equation ρ) qs → state.assigned ≡ map (rename_entry ρ) entries → StepBack qs entries x
  Step-unrenamed {x = x} (step_atoms {path = path} {f = f} {ts = ts} {us = us} {rest = rest}) qs entries e assigned =
      let i = atoms_back ρ path f f ts us rest qs e in
      subst (λ ps. StepBack ps entries x) (sym i.old_are) (
        leaving (argument_equations path 0 i.left i.right ++ i.old_rest) entries,
        ap₂ leaving
            (ap₂ (λ ss vs. argument_equations path 0 ss vs ++ rest) i.left_is i.right_is
            ∙ ap (λ ps. argument_equations path 0 (rename_spine (metavariables ρ) i.left) (rename_spine (metavariables ρ) i.right) ++ ps) i.rest_is
            ∙ sym (arguments-renamed ρ path 0 i.left i.right i.old_rest))
            assigned,
        step_atoms,
      )
  Step-unrenamed {x = x} (step_lams {path = path} {b = b} {c = c} {rest = rest}) qs entries e assigned =
      let i = terms_back ρ path (lam b) (lam c) rest qs e in
      let left = lam_back ρ b i.left i.left_is in
      let right = lam_back ρ c i.right i.right_is in
      subst (λ ps. StepBack ps entries x) (sym (i.old_are ∙ ap₂ (λ v w. of_terms path v w ∷ i.old_rest) left.old_is right.old_is)) (
        leaving (of_terms (path ++ 0 ∷ []) left.old_body right.old_body ∷ i.old_rest) entries,
        ap₂ leaving (ap₂ (λ q ps. q ∷ ps) (ap₂ (of_terms (path ++ 0 ∷ [])) left.body_is right.body_is) i.rest_is) assigned,
        step_lams,
      )
  Step-unrenamed {x = x} (step_same {path = path} {h = h} {ts = ts} {rest = rest}) qs entries e assigned =
      let i = terms_back ρ path (at h ts) (at h ts) rest qs e in
      let left = at_back ρ h ts i.left i.left_is in
      let same : i.right ≡ i.left = rename_inj i.right i.left (metavariables ρ) apart_back (sym i.right_is ∙ i.left_is) in
      subst (λ ps. StepBack ps entries x) (sym (i.old_are ∙ ap₂ (λ v w. of_terms path v w ∷ i.old_rest) left.old_is (same ∙ left.old_is)))
      (leaving i.old_rest entries, ap₂ leaving i.rest_is assigned, step_same)
  Step-unrenamed {x = x} (step_heads {path = path} {h = h} {ts = ts} {us = us} {rest = rest} rigid differ) qs entries e assigned =
      let i = terms_back ρ path (at h ts) (at h us) rest qs e in
      let left = at_back ρ h ts i.left i.left_is in
      let right = at_back ρ h us i.right i.right_is in
      let same : right.old_head ≡ left.old_head = apart_back right.old_head left.old_head (sym right.head_is ∙ left.head_is) in
      subst (λ ps. StepBack ps entries x) (sym (i.old_are ∙ ap₂ (λ v w. of_terms path v w ∷ i.old_rest) left.old_is (right.old_is ∙ ap (λ k. at k right.old_args) same))) (
        leaving (argument_equations path 0 left.old_args right.old_args ++ i.old_rest) entries,
        ap₂ leaving
            (ap₂ (λ ss vs. argument_equations path 0 ss vs ++ rest) left.args_are right.args_are
            ∙ ap (λ ps. argument_equations path 0 (rename_spine (metavariables ρ) left.old_args) (rename_spine (metavariables ρ) right.old_args) ++ ps) i.rest_is
            ∙ sym (arguments-renamed ρ path 0 left.old_args right.old_args i.old_rest))
            assigned,
        step_heads (rigid_back ρ left.old_head (subst IsRigid left.head_is rigid)) (λ f. differ (left.args_are ∙ ap (rename_spine (metavariables ρ)) f ∙ sym right.args_are)),
      )
  Step-unrenamed {x = x} (step_left {path = path} {h = h} {k = k} {ts = ts} {us = us} {rest = rest} {results = results} {entries = new_entries} {others = others} new is equations instances) qs entries e assigned =
      let i = terms_back ρ path (at h ts) (at k us) rest qs e in
      let left = at_back ρ h ts i.left i.left_is in
      let right = at_back ρ k us i.right i.right_is in
      let found = solved_back (at h ts) (at k us) (at left.old_head left.old_args) (at right.old_head right.old_args) new (i.left_is ∙ ap (rename (metavariables ρ)) left.old_is) (i.right_is ∙ ap (rename (metavariables ρ)) right.old_is) is in
      let after = left_back i.old_rest rest entries new_entries results others new found.0 i.rest_is assigned found.2 (equations, instances) in
      subst (λ ps. StepBack ps entries x) (sym (i.old_are ∙ ap₂ (λ v w. of_terms path v w ∷ i.old_rest) left.old_is right.old_is))
      (assigned_left path left.old_head right.old_head left.old_args right.old_args i.old_rest entries results others new found.0 found.1 after)
  Step-unrenamed {x = x} (step_right {path = path} {h = h} {k = k} {ts = ts} {us = us} {rest = rest} {results = results} {entries = new_entries} {others = others} new none is equations instances) qs entries e assigned =
      let i = terms_back ρ path (at h ts) (at k us) rest qs e in
      let left = at_back ρ h ts i.left i.left_is in
      let right = at_back ρ k us i.right i.right_is in
      let left_is = i.left_is ∙ ap (rename (metavariables ρ)) left.old_is in
      let right_is = i.right_is ∙ ap (rename (metavariables ρ)) right.old_is in
      let unsolved = unsolved_back (at h ts) (at k us) (at left.old_head left.old_args) (at right.old_head right.old_args) left_is right_is none in
      let found = solved_back (at k us) (at h ts) (at right.old_head right.old_args) (at left.old_head left.old_args) new right_is left_is is in
      let after = left_back i.old_rest rest entries new_entries results others new found.0 i.rest_is assigned found.2 (equations, instances) in
      subst (λ ps. StepBack ps entries x) (sym (i.old_are ∙ ap₂ (λ v w. of_terms path v w ∷ i.old_rest) left.old_is right.old_is))
      (assigned_right path left.old_head right.old_head left.old_args right.old_args i.old_rest entries results others new found.0 unsolved found.1 after)

  abbrev StopsBack : List LfEquation → List LfAssigned → Reason → Type 0
  StopsBack qs entries reason = (old : Reason) × (reason ≡ rename_reason ρ old) × Stops frozen (leaving qs entries) old

  -- the reason of a metavariable's side
  reason_back : (path : List ℕ) (g : ℕ) (ts : Spine) (u : LfTerm) (m : ℕ) (vs : Spine) (w : LfTerm) → g ≡ ρ m → ts ≡ rename_spine (metavariables ρ) vs → u ≡ rename (metavariables ρ) w →
      reason_of other path g ts u ≡ rename_reason ρ (reason_of frozen path m vs w)
  reason_back path g ts u m vs w same args term =
      ap₂ (λ n ss. reason_of other path n ss u) same args ∙ ap (reason_of other path (ρ m) (rename_spine (metavariables ρ) vs)) term ∙ reason_of-renamed ρ injective frozen other freezes path m vs w

  Stops-unrenamed : {state : Unifying} {reason : Reason} → Stops other state reason → (qs : List LfEquation) (entries : List LfAssigned) → state.equations ≡ map (rename_equation ρ) qs → StopsBack qs entries reason
  Stops-unrenamed {reason = reason} (stops_families {path = path} {f = f} {g = g} {ts = ts} {us = us} {rest = rest} differ) qs entries e =
      let i = atoms_back ρ path f g ts us rest qs e in
      subst (λ ps. StopsBack ps entries reason) (sym i.old_are) (clash path, refl, stops_families differ)
  Stops-unrenamed {reason = reason} (stops_heads {path = path} {h = h} {k = k} {ts = ts} {us = us} {rest = rest} rigid other_rigid differ) qs entries e =
      let i = terms_back ρ path (at h ts) (at k us) rest qs e in
      let left = at_back ρ h ts i.left i.left_is in
      let right = at_back ρ k us i.right i.right_is in
      subst (λ ps. StopsBack ps entries reason) (sym (i.old_are ∙ ap₂ (λ v w. of_terms path v w ∷ i.old_rest) left.old_is right.old_is)) (
        clash path,
        refl,
        stops_heads (rigid_back ρ left.old_head (subst IsRigid left.head_is rigid)) (rigid_back ρ right.old_head (subst IsRigid right.head_is other_rigid))
            (λ f. differ (left.head_is ∙ ap (metavariables ρ) f ∙ sym right.head_is)),
      )
  Stops-unrenamed {reason = reason} (stops_lam {path = path} {b = b} {k = k} {us = us} {rest = rest}) qs entries e =
      let i = terms_back ρ path (lam b) (at k us) rest qs e in
      let left = lam_back ρ b i.left i.left_is in
      let right = at_back ρ k us i.right i.right_is in
      subst (λ ps. StopsBack ps entries reason) (sym (i.old_are ∙ ap₂ (λ v w. of_terms path v w ∷ i.old_rest) left.old_is right.old_is)) (clash path, refl, stops_lam)
  Stops-unrenamed {reason = reason} (stops_at {path = path} {h = h} {ts = ts} {c = c} {rest = rest}) qs entries e =
      let i = terms_back ρ path (at h ts) (lam c) rest qs e in
      let left = at_back ρ h ts i.left i.left_is in
      let right = lam_back ρ c i.right i.right_is in
      subst (λ ps. StopsBack ps entries reason) (sym (i.old_are ∙ ap₂ (λ v w. of_terms path v w ∷ i.old_rest) left.old_is right.old_is)) (clash path, refl, stops_at)
  Stops-unrenamed {reason = reason} (stops_left {path = path} {g = g} {k = k} {ts = ts} {us = us} {rest = rest} differ none other_none) qs entries e =
      let i = terms_back ρ path (at (metavariable g) ts) (at k us) rest qs e in
      let left = at_back ρ (metavariable g) ts i.left i.left_is in
      let right = at_back ρ k us i.right i.right_is in
      let number = number_back ρ g left.old_head left.head_is in
      let left_old = left.old_is ∙ ap (λ j. at j left.old_args) number.1 in
      let left_is = i.left_is ∙ ap (rename (metavariables ρ)) left_old in
      let right_is = i.right_is ∙ ap (rename (metavariables ρ)) right.old_is in
      let v = at (metavariable number.0) left.old_args in
      let w = at right.old_head right.old_args in
      subst (λ ps. StopsBack ps entries reason) (sym (i.old_are ∙ ap₂ (λ x y. of_terms path x y ∷ i.old_rest) left_old right.old_is)) (
        reason_of frozen path number.0 left.old_args w,
        reason_back path g ts (at k us) number.0 left.old_args w number.2 left.args_are right_is,
        stops_left (λ f. differ (left_is ∙ ap (rename (metavariables ρ)) f ∙ sym right_is)) (unsolved_back (at (metavariable g) ts) (at k us) v w left_is right_is none)
            (unsolved_back (at k us) (at (metavariable g) ts) w v right_is left_is other_none),
      )
  Stops-unrenamed {reason = reason} (stops_right {path = path} {h = h} {g = g} {ts = ts} {us = us} {rest = rest} rigid none) qs entries e =
      let i = terms_back ρ path (at h ts) (at (metavariable g) us) rest qs e in
      let left = at_back ρ h ts i.left i.left_is in
      let right = at_back ρ (metavariable g) us i.right i.right_is in
      let number = number_back ρ g right.old_head right.head_is in
      let right_old = right.old_is ∙ ap (λ j. at j right.old_args) number.1 in
      let left_is = i.left_is ∙ ap (rename (metavariables ρ)) left.old_is in
      let right_is = i.right_is ∙ ap (rename (metavariables ρ)) right_old in
      let v = at left.old_head left.old_args in
      let w = at (metavariable number.0) right.old_args in
      subst (λ ps. StopsBack ps entries reason) (sym (i.old_are ∙ ap₂ (λ x y. of_terms path x y ∷ i.old_rest) left.old_is right_old)) (
        reason_of frozen path number.0 right.old_args v,
        reason_back path g us (at h ts) number.0 right.old_args v number.2 right.args_are left_is,
        stops_right (rigid_back ρ left.old_head (subst IsRigid left.head_is rigid)) (unsolved_back (at (metavariable g) us) (at h ts) w v right_is left_is none),
      )

  -- Ends are renamed ends.
  abbrev EndsBack : List LfEquation → List LfAssigned → Ending → Type 0
  EndsBack qs entries last = (ending : Ending) × Ends frozen (leaving qs entries) ending × (last ≡ rename_ending ρ ending)

  pub Ends-unrenamed : {state : Unifying} {last : Ending} → Ends other state last → (qs : List LfEquation) (entries : List LfAssigned) →
      state.equations ≡ map (rename_equation ρ) qs → state.assigned ≡ map (rename_entry ρ) entries → EndsBack qs entries last
  Ends-unrenamed ends_solved [] entries e assigned = (solved entries, ends_solved, ap solved assigned)
  Ends-unrenamed ends_solved (q ∷ qs) entries e assigned = absurd cc
  Ends-unrenamed (ends_refused stops) qs entries e assigned =
      let old = Stops-unrenamed stops qs entries e in (refused old.0, ends_refused old.2, ap refused old.1)
  Ends-unrenamed (ends_later step later) qs entries e assigned =
      let old = Step-unrenamed step qs entries e assigned in
      let ending = Ends-unrenamed later old.0.equations old.0.assigned (ap (λ s. s.equations) old.1) (ap (λ s. s.assigned) old.1) in
      (ending.0, ends_later old.2 ending.1, ending.2)
