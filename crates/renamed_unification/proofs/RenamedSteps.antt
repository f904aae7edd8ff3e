-- What renamed equations end with, step by step.
use Rattle.std.proofs.Common.{◌≡◌, ℕ, suc, Bool, true, false, Some, None, option_map, List, [], ◌∷◌, ◌++◌, map, refl, sym, ap, ap₂, ◌∙◌, subst}
use Rattle.std.specs.Prelude.{nat_eq, if◌then◌else◌}
use Rattle.lf_definitions.specs.Syntax.{LfHead, metavariable, LfTerm, lam, at, lams, Spine, no_args, arg}
use Rattle.lf_definitions.specs.Renaming.{rename, rename_spine}
use Rattle.lf_definitions.specs.Occurrence.{IsRigid, rigid_bound, rigid_constant}
use Rattle.lf_definitions.specs.Instantiation.{Assignment, instantiating, Instantiated, LfAssigned, assignment_of, metavariables, IsInjective}
use Rattle.lf_definitions.proofs.Renaming.{KeepsApart, rename_inj, rename_spine_inj, Follows, Substituted-rename, SubstitutedSpine-rename_spine}
use Rattle.lf_definitions.proofs.Expansion.{rename-lams}
use Rattle.head_laws.specs.MetavariableLaws.{AssignsRenamed}
use Rattle.head_laws.proofs.Metavariables.{lifted-metavariables, lifted_by-metavariables, KeepsApart-metavariables, Follows-instantiating}
use Rattle.head_laws.proofs.Numbers.{nat_eq-map}
use Rattle.unification.specs.Equations.{LfEquation, of_atoms, of_terms, argument_equations, Reason, Ending, Unifying, InstantiatedEquation, instantiated_atoms, instantiated_terms, InstantiatedEquations, no_equation, one_equation, InstantiatedEntry, InstantiatedEntries, no_entry, one_entry}
use Rattle.unification.specs.Transitions.{Frozen, solving, leaving, Step, step_atoms, step_lams, step_same, step_heads, step_left, step_right, Stops, stops_families, stops_heads, stops_lam, stops_at, stops_left, stops_right, Ends, ends_solved, ends_refused, ends_later}
use Rattle.renamed_unification.specs.Laws.{rename_equation, rename_entry, rename_reason, rename_ending}
use Rattle.renamed_unification.proofs.RenamedPatterns.{FreezesRenamed, solving-renamed, reason_of-renamed}

-- a body under binders
pub lams-metavariables : (ρ : ℕ → ℕ) (n : ℕ) (b : LfTerm) → rename (metavariables ρ) (lams n b) ≡ lams n (rename (metavariables ρ) b)
lams-metavariables ρ n b = rename-lams n (metavariables ρ) b ∙ ap (λ ξ. lams n (rename ξ b)) (lifted_by-metavariables n ρ)

-- Renamed entries assign what the entries do, renamed.
pub AssignsRenamed-entries : (ρ : ℕ → ℕ) → IsInjective ρ → (entries : List LfAssigned) → AssignsRenamed ρ (assignment_of entries) (assignment_of (map (rename_entry ρ) entries))
AssignsRenamed-entries ρ injective [] g = refl
AssignsRenamed-entries ρ injective (e ∷ rest) g =
    ap₂ (λ b u. if b then Some u else assignment_of (map (rename_entry ρ) rest) (ρ g)) (nat_eq-map ρ injective e.assigned_goal g) (sym (lams-metavariables ρ e.binders_count e.body))
    ∙ each (nat_eq e.assigned_goal g) (AssignsRenamed-entries ρ injective rest g)
  where
    each : (b : Bool) → assignment_of (map (rename_entry ρ) rest) (ρ g) ≡ option_map (rename (metavariables ρ)) (assignment_of rest g) →
        (if b then Some (rename (metavariables ρ) (lams e.binders_count e.body)) else assignment_of (map (rename_entry ρ) rest) (ρ g))
        ≡ option_map (rename (metavariables ρ)) (if b then Some (lams e.binders_count e.body) else assignment_of rest g)
    each true later = refl
    each false later = later

module _ (ρ : ℕ → ℕ) (σ τ : Assignment) (renamed : AssignsRenamed ρ σ τ) where
  follows : Follows (metavariables ρ) (metavariables ρ) (instantiating σ) (instantiating τ)
  follows = Follows-instantiating ρ σ τ renamed

  InstantiatedEquation-renamed : {e f : LfEquation} → InstantiatedEquation σ e f → InstantiatedEquation τ (rename_equation ρ e) (rename_equation ρ f)
  InstantiatedEquation-renamed (instantiated_atoms ps qs) =
      instantiated_atoms (SubstitutedSpine-rename_spine ps (metavariables ρ) (metavariables ρ) (instantiating τ) follows) (SubstitutedSpine-rename_spine qs (metavariables ρ) (metavariables ρ) (instantiating τ) follows)
  InstantiatedEquation-renamed (instantiated_terms p q) =
      instantiated_terms (Substituted-rename p (metavariables ρ) (metavariables ρ) (instantiating τ) follows) (Substituted-rename q (metavariables ρ) (metavariables ρ) (instantiating τ) follows)

  InstantiatedEquations-renamed : {es fs : List LfEquation} → InstantiatedEquations σ es fs → InstantiatedEquations τ (map (rename_equation ρ) es) (map (rename_equation ρ) fs)
  InstantiatedEquations-renamed no_equation = no_equation
  InstantiatedEquations-renamed (one_equation p ps) = one_equation (InstantiatedEquation-renamed p) (InstantiatedEquations-renamed ps)

  InstantiatedEntry-renamed : (e f : LfAssigned) → InstantiatedEntry σ e f → InstantiatedEntry τ (rename_entry ρ e) (rename_entry ρ f)
  InstantiatedEntry-renamed e f p = record {
    same_goal = ap ρ p.same_goal;
    same_count = p.same_count;
    of_body =
        subst (λ u. Instantiated τ u (lams e.binders_count (rename (metavariables ρ) f.body))) (lams-metavariables ρ e.binders_count e.body)
        (subst (λ u. Instantiated τ (rename (metavariables ρ) (lams e.binders_count e.body)) u) (lams-metavariables ρ e.binders_count f.body)
        (Substituted-rename p.of_body (metavariables ρ) (metavariables ρ) (instantiating τ) follows));
  }

  InstantiatedEntries-renamed : {es fs : List LfAssigned} → InstantiatedEntries σ es fs → InstantiatedEntries τ (map (rename_entry ρ) es) (map (rename_entry ρ) fs)
  InstantiatedEntries-renamed no_entry = no_entry
  InstantiatedEntries-renamed (one_entry {e = e} {f = f} p ps) = one_entry (InstantiatedEntry-renamed e f p) (InstantiatedEntries-renamed ps)

-- the equations of arguments
pub arguments-renamed : (ρ : ℕ → ℕ) (path : List ℕ) (child : ℕ) (ts us : Spine) (rest : List LfEquation) →
    map (rename_equation ρ) (argument_equations path child ts us ++ rest)
    ≡ argument_equations path child (rename_spine (metavariables ρ) ts) (rename_spine (metavariables ρ) us) ++ map (rename_equation ρ) rest
arguments-renamed ρ path child no_args us rest = refl
arguments-renamed ρ path child (arg t ts) no_args rest = refl
arguments-renamed ρ path child (arg t ts) (arg u us) rest =
    ap (λ es. of_terms (path ++ child ∷ []) (rename (metavariables ρ) t) (rename (metavariables ρ) u) ∷ es) (arguments-renamed ρ path (suc child) ts us rest)

IsRigid-metavariables : (ρ : ℕ → ℕ) {h : LfHead} → IsRigid h → IsRigid (metavariables ρ h)
IsRigid-metavariables ρ (rigid_bound n) = rigid_bound n
IsRigid-metavariables ρ (rigid_constant c) = rigid_constant c

abbrev pub renamed_state : (ℕ → ℕ) → Unifying → Unifying
renamed_state ρ state = leaving (map (rename_equation ρ) state.equations) (map (rename_entry ρ) state.assigned)

module _ (ρ : ℕ → ℕ) (injective : IsInjective ρ) (frozen other : Frozen) (freezes : FreezesRenamed ρ frozen other) where
  apart : KeepsApart (metavariables ρ)
  apart = KeepsApart-metavariables ρ injective

  unsolved_renamed : (t u : LfTerm) → solving frozen t u ≡ None → solving other (rename (metavariables ρ) t) (rename (metavariables ρ) u) ≡ None
  unsolved_renamed t u e = solving-renamed ρ injective frozen other freezes t u ∙ ap (option_map (rename_entry ρ)) e

  solved_renamed : (t u : LfTerm) (e : LfAssigned) → solving frozen t u ≡ Some e → solving other (rename (metavariables ρ) t) (rename (metavariables ρ) u) ≡ Some (rename_entry ρ e)
  solved_renamed t u e is = solving-renamed ρ injective frozen other freezes t u ∙ ap (option_map (rename_entry ρ)) is

  by_entry : (e : LfAssigned) → AssignsRenamed ρ (assignment_of (e ∷ [])) (assignment_of (rename_entry ρ e ∷ []))
  by_entry e = AssignsRenamed-entries ρ injective (e ∷ [])

  Step-renamed : {state next : Unifying} → Step frozen state next → Step other (renamed_state ρ state) (renamed_state ρ next)
  Step-renamed (step_atoms {path = path} {f = f} {ts = ts} {us = us} {rest = rest} {entries = entries}) =
      subst (λ es. Step other (leaving (rename_equation ρ (of_atoms path (record { atom_family = f; atom_args = ts }) (record { atom_family = f; atom_args = us })) ∷ map (rename_equation ρ) rest) (map (rename_entry ρ) entries)) (leaving es (map (rename_entry ρ) entries)))
      (sym (arguments-renamed ρ path 0 ts us rest))
      (step_atoms {ts = rename_spine (metavariables ρ) ts} {us = rename_spine (metavariables ρ) us})
  Step-renamed (step_lams {path = path} {b = b} {c = c} {rest = rest} {entries = entries}) =
      subst (λ ξ. Step other (leaving (of_terms path (lam (rename ξ b)) (lam (rename ξ c)) ∷ map (rename_equation ρ) rest) (map (rename_entry ρ) entries))
      (leaving (of_terms (path ++ 0 ∷ []) (rename (metavariables ρ) b) (rename (metavariables ρ) c) ∷ map (rename_equation ρ) rest) (map (rename_entry ρ) entries)))
      (sym (lifted-metavariables ρ)) step_lams
  Step-renamed step_same = step_same
  Step-renamed (step_heads {path = path} {h = h} {ts = ts} {us = us} {rest = rest} {entries = entries} rigid differ) =
      subst (λ es. Step other (leaving (rename_equation ρ (of_terms path (at h ts) (at h us)) ∷ map (rename_equation ρ) rest) (map (rename_entry ρ) entries)) (leaving es (map (rename_entry ρ) entries)))
      (sym (arguments-renamed ρ path 0 ts us rest))
      (step_heads (IsRigid-metavariables ρ rigid) (λ e. differ (rename_spine_inj ts us (metavariables ρ) apart e)))
  Step-renamed (step_left {h = h} {k = k} {ts = ts} {us = us} e is equations entries) =
      step_left (rename_entry ρ e) (solved_renamed (at h ts) (at k us) e is)
      (InstantiatedEquations-renamed ρ (assignment_of (e ∷ [])) (assignment_of (rename_entry ρ e ∷ [])) (by_entry e) equations)
      (InstantiatedEntries-renamed ρ (assignment_of (e ∷ [])) (assignment_of (rename_entry ρ e ∷ [])) (by_entry e) entries)
  Step-renamed (step_right {h = h} {k = k} {ts = ts} {us = us} e none is equations entries) =
      step_right (rename_entry ρ e) (unsolved_renamed (at h ts) (at k us) none) (solved_renamed (at k us) (at h ts) e is)
      (InstantiatedEquations-renamed ρ (assignment_of (e ∷ [])) (assignment_of (rename_entry ρ e ∷ [])) (by_entry e) equations)
      (InstantiatedEntries-renamed ρ (assignment_of (e ∷ [])) (assignment_of (rename_entry ρ e ∷ [])) (by_entry e) entries)

  Stops-renamed : {state : Unifying} {reason : Reason} → Stops frozen state reason → Stops other (renamed_state ρ state) (rename_reason ρ reason)
  Stops-renamed (stops_families differ) = stops_families differ
  Stops-renamed (stops_heads {h = h} {k = k} rigid other_rigid differ) =
      stops_heads (IsRigid-metavariables ρ rigid) (IsRigid-metavariables ρ other_rigid) (λ e. differ (apart h k e))
  Stops-renamed stops_lam = stops_lam
  Stops-renamed stops_at = stops_at
  Stops-renamed (stops_left {path = path} {g = g} {k = k} {ts = ts} {us = us} differ none other_none) =
      subst (Stops other _) (reason_of-renamed ρ injective frozen other freezes path g ts (at k us))
      (stops_left (λ e. differ (rename_inj (at (metavariable g) ts) (at k us) (metavariables ρ) apart e)) (unsolved_renamed (at (metavariable g) ts) (at k us) none) (unsolved_renamed (at k us) (at (metavariable g) ts) other_none))
  Stops-renamed (stops_right {path = path} {h = h} {g = g} {ts = ts} {us = us} rigid none) =
      subst (Stops other _) (reason_of-renamed ρ injective frozen other freezes path g us (at h ts))
      (stops_right (IsRigid-metavariables ρ rigid) (unsolved_renamed (at (metavariable g) us) (at h ts) none))

  pub Ends-renamed : {state : Unifying} {ending : Ending} → Ends frozen state ending → Ends other (renamed_state ρ state) (rename_ending ρ ending)
  Ends-renamed ends_solved = ends_solved
  Ends-renamed (ends_refused stops) = ends_refused (Stops-renamed stops)
  Ends-renamed (ends_later step ends) = ends_later (Step-renamed step) (Ends-renamed ends)
