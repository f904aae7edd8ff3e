-- One entry as an assignment: it goes from a scope to this scope, what is left of equations and entries under it is one and shaped.
use Rattle.std.proofs.Common.{◌≡◌, ℕ, zero, suc, Bool, true, false, List, [], ◌∷◌, length, All, Option, Some, None, refl, sym, ap, ap₂, ◌∙◌, subst, arith}
use Rattle.std.specs.Prelude.{if◌then◌else◌, nat_eq}
use Rattle.std.proofs.lemmas.Bool.{eqb-true}
use Rattle.std.proofs.lemmas.List.Elements.{All-nil, All-cons, All-head, All-tail}
use Rattle.lf_definitions.specs.Syntax.{bound, constant, metavariable, LfTerm, lam, lams, atomic, SimpleType, LfAtom, shape_size}
use Rattle.lf_definitions.specs.Shaping.{Scope, under_all, Shaped, ShapedType, shaped_family}
use Rattle.lf_definitions.specs.ShapedGoals.{without_variables}
use Rattle.lf_definitions.specs.Occurrence.{OccursIn}
use Rattle.lf_definitions.specs.Substitution.{becomes, Replacement, Substituted, substituted_lam}
use Rattle.lf_definitions.specs.Replacements.{Fits, fits_stays, fits_becomes, Goes}
use Rattle.lf_definitions.specs.Instantiation.{Assignment, assigned, instantiating, LfAssigned, assignment_of}
use Rattle.lf_definitions.proofs.Options.{Some-Some, Some_inj}
use Rattle.lf_definitions.proofs.Uniqueness.{unique, unique_spine}
use Rattle.lf_definitions.proofs.Renaming.{same_head, rename-same_head, Shaped-rename}
use Rattle.lf_definitions.proofs.Totality.{total, total_spine}
use Rattle.lf_definitions.proofs.Telescopes.{Goes-up_by}
use Rattle.lf_definitions.proofs.ShapedGoals.{ScopeGrows-without_variables}
use Rattle.head_laws.specs.AssignmentLaws.{AssignsClosedTerms}
use Rattle.head_laws.proofs.Known.{IsKnown, known_term}
use Rattle.head_laws.proofs.Assignments.{up_by-closed}
use Rattle.unification.specs.Equations.{LfEquation, of_atoms, of_terms, InstantiatedEquation, instantiated_atoms, instantiated_terms, InstantiatedEquations, no_equation, one_equation, InstantiatedEntry, InstantiatedEntries, no_entry, one_entry}
use Rattle.unification.specs.Solutions.{ShapedEquation, ShapedEquations, ShapedEntry}

-- what an entry alone assigns
abbrev pub one_assigned : LfAssigned → Assignment
one_assigned e = assignment_of (e ∷ [])

Goes-one : (Δ : Scope) (e : LfAssigned) (s : SimpleType) → Δ (metavariable e.assigned_goal) ≡ Some s → Shaped Δ (lams e.binders_count e.body) s → Goes (suc (shape_size s)) Δ Δ (instantiating (one_assigned e))
Goes-one Δ e s known shaped (bound n) c f = fits_stays f
Goes-one Δ e s known shaped (constant k) c f = fits_stays f
Goes-one Δ e s known shaped (metavariable g) c f = each (nat_eq e.assigned_goal g) refl
  where
    each : (b : Bool) → nat_eq e.assigned_goal g ≡ b → Fits Δ (suc (shape_size s)) (assigned g (if b then Some (lams e.binders_count e.body) else None)) c
    each true same =
        let shapes : s ≡ c = Some_inj (ap (λ k. Δ (metavariable k)) (sym (eqb-true e.assigned_goal g same)) ∙ known) f in
        subst (Fits Δ (suc (shape_size s)) (becomes (lams e.binders_count e.body))) shapes (fits_becomes shaped (omega arith))
    each false differ = fits_stays f

pub one_assigned_is_closed : (Γ : Scope) (e : LfAssigned) → ShapedEntry Γ e → AssignsClosedTerms (one_assigned e)
one_assigned_is_closed Γ e entry g n u f o = each (nat_eq e.assigned_goal g) f
  where
    each : (b : Bool) → (if b then Some (lams e.binders_count e.body) else None) ≡ Some u → ⊥
    each true q =
        let known : IsKnown (without_variables Γ) (bound n) = known_term entry.2 (bound n) (subst (OccursIn (bound n)) (sym (Some-Some q)) o) in
        let none : ◌≡◌ {A = Option SimpleType} None (Some known.0) = known.1 in
        cc
    each false q = cc

-- It goes from the scope to itself, under local binders too.
abbrev pub entry_bound : (Γ : Scope) (e : LfAssigned) → ShapedEntry Γ e → ℕ
entry_bound Γ e entry = suc (shape_size entry.0)

pub Goes-entry : (Γ : Scope) (e : LfAssigned) (entry : ShapedEntry Γ e) (local : List SimpleType) → Goes (entry_bound Γ e entry) (under_all local Γ) (under_all local Γ) (instantiating (one_assigned e))
Goes-entry Γ e entry local =
    let p = entry_bound Γ e entry in
    let u = lams e.binders_count e.body in
    let shaped : Shaped Γ u entry.0 = subst (λ x. Shaped Γ x entry.0) (rename-same_head u) (Shaped-rename entry.2 same_head Γ (ScopeGrows-without_variables Γ)) in
    subst (Goes p (under_all local Γ) (under_all local Γ)) (up_by-closed (length local) (one_assigned e) (one_assigned_is_closed Γ e entry))
    (Goes-up_by p local Γ Γ (instantiating (one_assigned e)) (Goes-one Γ e entry.0 entry.1 shaped))

-- What is left of an equation is one, and shaped.
pub unique_equation : {σ : Assignment} {q r s : LfEquation} → InstantiatedEquation σ q r → InstantiatedEquation σ q s → r ≡ s
unique_equation (instantiated_atoms {path = path} {f = f} {g = g} ps qs) (instantiated_atoms vs ws) =
    ap₂ (λ xs ys. of_atoms path (record { atom_family = f; atom_args = xs }) (record { atom_family = g; atom_args = ys })) (unique_spine ps vs) (unique_spine qs ws)
unique_equation (instantiated_terms {path = path} p q) (instantiated_terms v w) = ap₂ (of_terms path) (unique p v) (unique q w)

pub unique_equations : {σ : Assignment} {qs rs ss : List LfEquation} → InstantiatedEquations σ qs rs → InstantiatedEquations σ qs ss → rs ≡ ss
unique_equations no_equation no_equation = refl
unique_equations (one_equation p ps) (one_equation q qs) = ap₂ (λ x xs. x ∷ xs) (unique_equation p q) (unique_equations ps qs)

module _ (kinds : ℕ → Option SimpleType) (Γ : Scope) (e : LfAssigned) (entry : ShapedEntry Γ e) where
  abbrev IsEquationLeft : LfEquation → Type 0
  IsEquationLeft q = (r : LfEquation) × InstantiatedEquation (one_assigned e) q r × ShapedEquation kinds Γ r

  atoms_left : (path : List ℕ) (a b : LfAtom) → ShapedType kinds Γ (atomic a) → ShapedType kinds Γ (atomic b) → IsEquationLeft (of_atoms path a b)
  atoms_left path a b (shaped_family s known ps) (shaped_family c knows qs) =
      let vs = total_spine (entry_bound Γ e entry) ps Γ (instantiating (one_assigned e)) (Goes-entry Γ e entry []) in
      let ws = total_spine (entry_bound Γ e entry) qs Γ (instantiating (one_assigned e)) (Goes-entry Γ e entry []) in (
        of_atoms path (record { atom_family = a.atom_family; atom_args = vs.0 }) (record { atom_family = b.atom_family; atom_args = ws.0 }),
        instantiated_atoms vs.1 ws.1,
        (shaped_family s known vs.2, shaped_family c knows ws.2),
      )

  equation_left : (q : LfEquation) → ShapedEquation kinds Γ q → IsEquationLeft q
  equation_left (of_atoms path a b) shaped = atoms_left path a b shaped.0 shaped.1
  equation_left (of_terms path t u) shaped =
      let Δ = under_all shaped.0 Γ in
      let v = total (entry_bound Γ e entry) shaped.2 Δ (instantiating (one_assigned e)) (Goes-entry Γ e entry shaped.0) in
      let w = total (entry_bound Γ e entry) shaped.3 Δ (instantiating (one_assigned e)) (Goes-entry Γ e entry shaped.0) in
      (of_terms path v.0 w.0, instantiated_terms v.1 w.1, (shaped.0, shaped.1, v.2, w.2))

  pub equations_left : (qs : List LfEquation) → ShapedEquations kinds Γ qs → (rs : List LfEquation) × InstantiatedEquations (one_assigned e) qs rs × ShapedEquations kinds Γ rs
  equations_left [] shaped = ([], no_equation, All-nil (ShapedEquation kinds Γ))
  equations_left (q ∷ qs) shaped =
      let r = equation_left q (All-head (ShapedEquation kinds Γ) q qs shaped) in
      let rs = equations_left qs (All-tail (ShapedEquation kinds Γ) q qs shaped) in
      (r.0 ∷ rs.0, one_equation r.1 rs.1, All-cons (ShapedEquation kinds Γ) r.0 rs.0 r.2 rs.2)

  -- so each result is shaped
  pub equations_left_are_shaped : (qs rs : List LfEquation) → ShapedEquations kinds Γ qs → InstantiatedEquations (one_assigned e) qs rs → ShapedEquations kinds Γ rs
  equations_left_are_shaped qs rs shaped result =
      let left = equations_left qs shaped in
      subst (ShapedEquations kinds Γ) (unique_equations left.1 result) left.2

-- The same of entries.
lams_inj : (n : ℕ) (b c : LfTerm) → lams n b ≡ lams n c → b ≡ c
lams_inj zero b c e = e
lams_inj (suc n) b c e = lams_inj n b c cc

lams_result : (n : ℕ) (b : LfTerm) {σ : Replacement} {r : LfTerm} → Substituted σ (lams n b) r → (c : LfTerm) × (r ≡ lams n c)
lams_result zero b {r = r} p = (r, refl)
lams_result (suc n) b (substituted_lam p) = let c = lams_result n b p in (c.0, ap lam c.1)

made_entry : ℕ → ℕ → LfTerm → LfAssigned
made_entry g n b = record { assigned_goal = g; binders_count = n; body = b }

pub unique_entry : {σ : Assignment} {e f g : LfAssigned} → InstantiatedEntry σ e f → InstantiatedEntry σ e g → f ≡ g
unfolding made_entry
unique_entry {e = e} {f = f} {g = g} p q =
    let goals : f.assigned_goal ≡ g.assigned_goal = p.same_goal ∙ sym q.same_goal in
    let counts : f.binders_count ≡ g.binders_count = p.same_count ∙ sym q.same_count in
    let bodies : f.body ≡ g.body = lams_inj e.binders_count f.body g.body (unique p.of_body q.of_body) in
    ap (λ k. made_entry k f.binders_count f.body) goals ∙ ap₂ (made_entry g.assigned_goal) counts bodies

pub unique_entries : {σ : Assignment} {es fs gs : List LfAssigned} → InstantiatedEntries σ es fs → InstantiatedEntries σ es gs → fs ≡ gs
unique_entries no_entry no_entry = refl
unique_entries (one_entry p ps) (one_entry q qs) = ap₂ (λ x xs. x ∷ xs) (unique_entry p q) (unique_entries ps qs)

module _ (Γ : Scope) (e : LfAssigned) (entry : ShapedEntry Γ e) where
  abbrev IsEntryLeft : LfAssigned → Type 0
  IsEntryLeft f = (g : LfAssigned) × InstantiatedEntry (one_assigned e) f g × ShapedEntry Γ g

  entry_left : (f : LfAssigned) → ShapedEntry Γ f → IsEntryLeft f
  entry_left f shaped =
      let p = entry_bound Γ e entry in
      let Δ = without_variables Γ in
      let r = total p shaped.2 Δ (instantiating (one_assigned e)) (Goes-one Δ e entry.0 entry.1 entry.2) in
      let c = lams_result f.binders_count f.body r.1 in (
        record { assigned_goal = f.assigned_goal; binders_count = f.binders_count; body = c.0 },
        record { same_goal = refl; same_count = refl; of_body = subst (Substituted (instantiating (one_assigned e)) (lams f.binders_count f.body)) c.1 r.1 },
        (shaped.0, shaped.1, subst (λ x. Shaped Δ x shaped.0) c.1 r.2),
      )

  pub entries_left : (fs : List LfAssigned) → All (ShapedEntry Γ) fs → (gs : List LfAssigned) × InstantiatedEntries (one_assigned e) fs gs × All (ShapedEntry Γ) gs
  entries_left [] shaped = ([], no_entry, All-nil (ShapedEntry Γ))
  entries_left (f ∷ fs) shaped =
      let g = entry_left f (All-head (ShapedEntry Γ) f fs shaped) in
      let gs = entries_left fs (All-tail (ShapedEntry Γ) f fs shaped) in
      (g.0 ∷ gs.0, one_entry g.1 gs.1, All-cons (ShapedEntry Γ) g.0 gs.0 g.2 gs.2)

  pub entries_left_are_shaped : (fs gs : List LfAssigned) → All (ShapedEntry Γ) fs → InstantiatedEntries (one_assigned e) fs gs → All (ShapedEntry Γ) gs
  entries_left_are_shaped fs gs shaped result =
      let left = entries_left fs shaped in
      subst (All (ShapedEntry Γ)) (unique_entries left.1 result) left.2
