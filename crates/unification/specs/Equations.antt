-- Equations between atoms and between terms, and what ends their unification.
use Rattle.std.specs.Prelude.{◌≡◌, ℕ, suc, List, [], ◌∷◌, ◌++◌}
use Rattle.lf_definitions.specs.Syntax.{LfTerm, lams, Spine, no_args, arg, LfAtom}
use Rattle.lf_definitions.specs.Instantiation.{Assignment, Instantiated, InstantiatedSpine, LfAssigned}

-- An equation has two sides, and a path: the number of the equation that was given, and then the children that lead to its place in the atoms.
pub data LfEquation : Type 0 where
  of_atoms : List ℕ → LfAtom → LfAtom → LfEquation
  of_terms : List ℕ → LfTerm → LfTerm → LfEquation

-- equations between atoms, numbered from `n` on
abbrev pub numbered_from : ℕ → List (LfAtom × LfAtom) → List LfEquation
numbered_from n [] = []
numbered_from n (pair ∷ rest) = of_atoms (n ∷ []) pair.0 pair.1 ∷ numbered_from (suc n) rest

-- Two spines give one equation for each argument, of which the first is this child.
abbrev pub argument_equations : List ℕ → ℕ → Spine → Spine → List LfEquation
argument_equations path child no_args us = []
argument_equations path child (arg t ts) no_args = []
argument_equations path child (arg t ts) (arg u us) = of_terms (path ++ child ∷ []) t u ∷ argument_equations path (suc child) ts us

-- Why equations are not unified: at a path, or for a metavariable.
pub data Reason : Type 0 where
  clash : List ℕ → Reason
  occurs : ℕ → Reason
  escapes : List ℕ → Reason
  prune : List ℕ → Reason
  not_pattern : List ℕ → Reason

pub data Ending : Type 0 where
  solved : List LfAssigned → Ending
  refused : Reason → Ending

-- What is left of equations, and what was assigned so far.
pub record Unifying : Type 0 where
  pub equations : List LfEquation
  pub assigned : List LfAssigned

-- an equation under an assignment
pub data InstantiatedEquation (σ : Assignment) : LfEquation → LfEquation → Type 0 where
  instantiated_atoms : {path : List ℕ} {f g : ℕ} {ts us vs ws : Spine} → InstantiatedSpine σ ts vs → InstantiatedSpine σ us ws →
      InstantiatedEquation σ (of_atoms path (record { atom_family = f; atom_args = ts }) (record { atom_family = g; atom_args = us }))
      (of_atoms path (record { atom_family = f; atom_args = vs }) (record { atom_family = g; atom_args = ws }))
  instantiated_terms : {path : List ℕ} {t u v w : LfTerm} → Instantiated σ t v → Instantiated σ u w → InstantiatedEquation σ (of_terms path t u) (of_terms path v w)

pub data InstantiatedEquations (σ : Assignment) : List LfEquation → List LfEquation → Type 0 where
  no_equation : InstantiatedEquations σ [] []
  one_equation : {e f : LfEquation} {rest results : List LfEquation} → InstantiatedEquation σ e f → InstantiatedEquations σ rest results → InstantiatedEquations σ (e ∷ rest) (f ∷ results)

-- An entry keeps its goal; what it puts for it is instantiated.
pub record InstantiatedEntry (σ : Assignment) (e f : LfAssigned) : Type 0 where
  pub same_goal : f.assigned_goal ≡ e.assigned_goal
  pub same_count : f.binders_count ≡ e.binders_count
  pub of_body : Instantiated σ (lams e.binders_count e.body) (lams e.binders_count f.body)

pub data InstantiatedEntries (σ : Assignment) : List LfAssigned → List LfAssigned → Type 0 where
  no_entry : InstantiatedEntries σ [] []
  one_entry : {e f : LfAssigned} {rest results : List LfAssigned} → InstantiatedEntry σ e f → InstantiatedEntries σ rest results → InstantiatedEntries σ (e ∷ rest) (f ∷ results)
