-- Unification of patterns without pruning (Miller 1991), as a transition system on equations that are left and what was assigned.
use Rattle.std.specs.Prelude.{◌≡◌, ◌≢◌, ℕ, List, [], ◌∷◌, ◌++◌, length, Bool, false, not, ◌&&◌, Option, Some, None, if◌then◌else◌}
use Rattle.lf_definitions.specs.Syntax.{LfHead, bound, constant, metavariable, LfTerm, lam, at, Spine}
use Rattle.lf_definitions.specs.Renaming.{rename}
use Rattle.lf_definitions.specs.Occurrence.{IsRigid}
use Rattle.lf_definitions.specs.Instantiation.{LfAssigned, assignment_of}
use Rattle.head_laws.specs.Mentions.{same_head, occurs_in}
use Rattle.unification.specs.Patterns.{pattern_of, is_over, escapes_from, occurs_plainly, placed}
use Rattle.unification.specs.Equations.{LfEquation, of_atoms, of_terms, argument_equations, Reason, clash, occurs, escapes, prune, not_pattern, Ending, solved, refused, Unifying, InstantiatedEquations, InstantiatedEntries}

-- which metavariables are frozen
abbrev pub Frozen : Type 0
Frozen = ℕ → Bool

-- A metavariable that isn't frozen, applied to different variables, is solvable for a term in which it does not occur and whose variables are all among these: it
-- becomes the term, with each of the variables renamed to the entry of the context at whose place it stands.
abbrev pub entry_for : Frozen → ℕ → Option (List ℕ) → LfTerm → Option LfAssigned
entry_for frozen g None t = None
entry_for frozen g (Some ns) t = if not (frozen g) && (not (occurs_in (metavariable g) t) && is_over ns t) then Some (record { assigned_goal = g; binders_count = length ns; body = rename (placed ns) t }) else None

-- what a term is solvable for another by
abbrev pub solving : Frozen → LfTerm → LfTerm → Option LfAssigned
solving frozen (lam b) t = None
solving frozen (at (bound n) ts) t = None
solving frozen (at (constant c) ts) t = None
solving frozen (at (metavariable g) ts) t = entry_for frozen g (pattern_of ts) t

abbrev pub has_head : LfHead → LfTerm → Bool
has_head h (lam b) = false
has_head h (at k ts) = same_head h k

-- The reason of a metavariable that is applied to these arguments against a term, at a path: the first that holds.
abbrev pub reason_among : Frozen → List ℕ → ℕ → Option (List ℕ) → LfTerm → Reason
reason_among frozen path g None t = not_pattern path
reason_among frozen path g (Some ns) t =
    if frozen g then not_pattern path
    else (if has_head (metavariable g) t then prune path
    else (if occurs_plainly g t then occurs g
    else (if escapes_from ns t then escapes path
    else (if is_over ns t then not_pattern path else prune path))))

abbrev pub reason_of : Frozen → List ℕ → ℕ → Spine → LfTerm → Reason
reason_of frozen path g ts t = reason_among frozen path g (pattern_of ts) t

abbrev pub leaving : List LfEquation → List LfAssigned → Unifying
leaving equations assigned = record { equations = equations; assigned = assigned }

-- The leftmost equation is treated.
pub data Step (frozen : Frozen) : Unifying → Unifying → Type 0 where
  -- Atoms of one family: the equations of their arguments stand in their place.
  step_atoms : {path : List ℕ} {f : ℕ} {ts us : Spine} {rest : List LfEquation} {entries : List LfAssigned} →
      Step frozen (leaving (of_atoms path (record { atom_family = f; atom_args = ts }) (record { atom_family = f; atom_args = us }) ∷ rest) entries)
      (leaving (argument_equations path 0 ts us ++ rest) entries)
  -- Two abstractions are stripped.
  step_lams : {path : List ℕ} {b c : LfTerm} {rest : List LfEquation} {entries : List LfAssigned} →
      Step frozen (leaving (of_terms path (lam b) (lam c) ∷ rest) entries) (leaving (of_terms (path ++ 0 ∷ []) b c ∷ rest) entries)
  -- An equation of the same syntax is dropped.
  step_same : {path : List ℕ} {h : LfHead} {ts : Spine} {rest : List LfEquation} {entries : List LfAssigned} →
      Step frozen (leaving (of_terms path (at h ts) (at h ts) ∷ rest) entries) (leaving rest entries)
  -- Of equal heads that are variables or constants the arguments' equations stand in their place.
  step_heads : {path : List ℕ} {h : LfHead} {ts us : Spine} {rest : List LfEquation} {entries : List LfAssigned} → IsRigid h → ts ≢ us →
      Step frozen (leaving (of_terms path (at h ts) (at h us) ∷ rest) entries) (leaving (argument_equations path 0 ts us ++ rest) entries)
  -- The left side is solvable for the right: its metavariable is assigned, in all that is left and in what was assigned before.
  step_left : {path : List ℕ} {h k : LfHead} {ts us : Spine} {rest results : List LfEquation} {entries others : List LfAssigned} (e : LfAssigned) →
      solving frozen (at h ts) (at k us) ≡ Some e →
      InstantiatedEquations (assignment_of (e ∷ [])) rest results → InstantiatedEntries (assignment_of (e ∷ [])) entries others →
      Step frozen (leaving (of_terms path (at h ts) (at k us) ∷ rest) entries) (leaving results (e ∷ others))
  -- Otherwise the right side is solvable for the left.
  step_right : {path : List ℕ} {h k : LfHead} {ts us : Spine} {rest results : List LfEquation} {entries others : List LfAssigned} (e : LfAssigned) →
      solving frozen (at h ts) (at k us) ≡ None → solving frozen (at k us) (at h ts) ≡ Some e →
      InstantiatedEquations (assignment_of (e ∷ [])) rest results → InstantiatedEntries (assignment_of (e ∷ [])) entries others →
      Step frozen (leaving (of_terms path (at h ts) (at k us) ∷ rest) entries) (leaving results (e ∷ others))

-- The leftmost equation is the reason why there is no further step.
pub data Stops (frozen : Frozen) : Unifying → Reason → Type 0 where
  -- Atoms of two families.
  stops_families : {path : List ℕ} {f g : ℕ} {ts us : Spine} {rest : List LfEquation} {entries : List LfAssigned} → f ≢ g →
      Stops frozen (leaving (of_atoms path (record { atom_family = f; atom_args = ts }) (record { atom_family = g; atom_args = us }) ∷ rest) entries) (clash path)
  -- Different heads that are variables or constants.
  stops_heads : {path : List ℕ} {h k : LfHead} {ts us : Spine} {rest : List LfEquation} {entries : List LfAssigned} → IsRigid h → IsRigid k → h ≢ k →
      Stops frozen (leaving (of_terms path (at h ts) (at k us) ∷ rest) entries) (clash path)
  -- An abstraction against a spine; this doesn't come where both sides are shaped.
  stops_lam : {path : List ℕ} {b : LfTerm} {k : LfHead} {us : Spine} {rest : List LfEquation} {entries : List LfAssigned} →
      Stops frozen (leaving (of_terms path (lam b) (at k us) ∷ rest) entries) (clash path)
  stops_at : {path : List ℕ} {h : LfHead} {ts : Spine} {c : LfTerm} {rest : List LfEquation} {entries : List LfAssigned} →
      Stops frozen (leaving (of_terms path (at h ts) (lam c) ∷ rest) entries) (clash path)
  -- Neither side is solvable for the other: the reason of the left side, where a metavariable is its head.
  stops_left : {path : List ℕ} {g : ℕ} {k : LfHead} {ts us : Spine} {rest : List LfEquation} {entries : List LfAssigned} → at (metavariable g) ts ≢ at k us →
      solving frozen (at (metavariable g) ts) (at k us) ≡ None → solving frozen (at k us) (at (metavariable g) ts) ≡ None →
      Stops frozen (leaving (of_terms path (at (metavariable g) ts) (at k us) ∷ rest) entries) (reason_of frozen path g ts (at k us))
  -- Otherwise that of the right side.
  stops_right : {path : List ℕ} {h : LfHead} {g : ℕ} {ts us : Spine} {rest : List LfEquation} {entries : List LfAssigned} → IsRigid h →
      solving frozen (at (metavariable g) us) (at h ts) ≡ None →
      Stops frozen (leaving (of_terms path (at h ts) (at (metavariable g) us) ∷ rest) entries) (reason_of frozen path g us (at h ts))

-- Steps go on to an end: no equation is left, or there is a reason.
pub data Ends (frozen : Frozen) : Unifying → Ending → Type 0 where
  ends_solved : {entries : List LfAssigned} → Ends frozen (leaving [] entries) (solved entries)
  ends_refused : {state : Unifying} {reason : Reason} → Stops frozen state reason → Ends frozen state (refused reason)
  ends_later : {state other : Unifying} {ending : Ending} → Step frozen state other → Ends frozen other ending → Ends frozen state ending

-- what the unification of equations ends with
abbrev pub Unifies : Frozen → List LfEquation → Ending → Type 0
Unifies frozen equations ending = Ends frozen (leaving equations []) ending
