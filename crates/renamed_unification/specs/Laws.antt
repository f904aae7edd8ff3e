-- Unification goes along with renamings of metavariables, and looks at what occurs alone.
use Rattle.std.specs.Prelude.{◌≡◌, ℕ, List, map}
use Rattle.lf_definitions.specs.Syntax.{LfAtom}
use Rattle.lf_definitions.specs.Renaming.{rename, rename_spine}
use Rattle.lf_definitions.specs.Instantiation.{LfAssigned, metavariables, IsInjective}
use Rattle.unification.specs.Equations.{LfEquation, of_atoms, of_terms, Reason, clash, occurs, escapes, prune, not_pattern, Ending, solved, refused}
use Rattle.unification.specs.Transitions.{Frozen, Unifies}
use Rattle.unification.specs.Solutions.{MentionedBy}

abbrev pub rename_atom : (ℕ → ℕ) → LfAtom → LfAtom
rename_atom ρ a = record { atom_family = a.atom_family; atom_args = rename_spine (metavariables ρ) a.atom_args }

abbrev pub rename_equation : (ℕ → ℕ) → LfEquation → LfEquation
rename_equation ρ (of_atoms path a b) = of_atoms path (rename_atom ρ a) (rename_atom ρ b)
rename_equation ρ (of_terms path t u) = of_terms path (rename (metavariables ρ) t) (rename (metavariables ρ) u)

abbrev pub rename_entry : (ℕ → ℕ) → LfAssigned → LfAssigned
rename_entry ρ e = record { assigned_goal = ρ e.assigned_goal; binders_count = e.binders_count; body = rename (metavariables ρ) e.body }

-- Paths stay.
abbrev pub rename_reason : (ℕ → ℕ) → Reason → Reason
rename_reason ρ (clash path) = clash path
rename_reason ρ (occurs g) = occurs (ρ g)
rename_reason ρ (escapes path) = escapes path
rename_reason ρ (prune path) = prune path
rename_reason ρ (not_pattern path) = not_pattern path

abbrev pub rename_ending : (ℕ → ℕ) → Ending → Ending
rename_ending ρ (solved entries) = solved (map (rename_entry ρ) entries)
rename_ending ρ (refused reason) = refused (rename_reason ρ reason)

-- Renamed equations end as the equations do, renamed, where the same metavariables are frozen.
abbrev pub UnificationIsRenamed : Type 0
UnificationIsRenamed =
    (ρ : ℕ → ℕ) → IsInjective ρ → (frozen other : Frozen) → ((g : ℕ) → other (ρ g) ≡ frozen g) →
    (equations : List LfEquation) (ending : Ending) → Unifies frozen equations ending → Unifies other (map (rename_equation ρ) equations) (rename_ending ρ ending)

-- They end with nothing else: the equations have an end of which theirs is the renamed one, and have no other. So it comes for the same reason, at the same path.
abbrev pub RenamedEquationsEndAlike : Type 0
RenamedEquationsEndAlike =
    (ρ : ℕ → ℕ) → IsInjective ρ → (frozen other : Frozen) → ((g : ℕ) → other (ρ g) ≡ frozen g) →
    (equations : List LfEquation) (last : Ending) → Unifies other (map (rename_equation ρ) equations) last →
    ((ending : Ending) × Unifies frozen equations ending × (last ≡ rename_ending ρ ending))
    × ((ending : Ending) → Unifies frozen equations ending → last ≡ rename_ending ρ ending)

-- The end depends on the equations, and on which of the metavariables that they mention are frozen.
abbrev pub UnificationLooksAtWhatOccurs : Type 0
UnificationLooksAtWhatOccurs =
    (frozen other : Frozen) (equations : List LfEquation) → ((g : ℕ) → MentionedBy equations g → other g ≡ frozen g) →
    (ending : Ending) → Unifies frozen equations ending → Unifies other equations ending
