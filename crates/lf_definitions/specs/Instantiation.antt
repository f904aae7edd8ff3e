-- Assignments of metavariables, as replacements, and renamings of metavariables.
use Rattle.std.specs.Prelude.{◌≡◌, ℕ, List, [], ◌∷◌, Option, Some, None, length, if◌then◌else◌, nat_eq}
use Rattle.lf_definitions.specs.Syntax.{bound, constant, metavariable, LfTerm, Spine, lams, LfType, atomic, Context}
use Rattle.lf_definitions.specs.Renaming.{Renaming, rename_spine, rename_context}
use Rattle.lf_definitions.specs.Substitution.{Image, stays, becomes, Replacement, up_by, Substituted, SubstitutedSpine, SubstitutedType, SubstitutedContext}
use Rattle.lf_definitions.specs.Typing.{LfGoal}

-- What is put for each assigned metavariable: a body under one abstraction for each entry of its goal's context.
abbrev pub Assignment : Type 0
Assignment = ℕ → Option LfTerm

abbrev pub assigned : ℕ → Option LfTerm → Image
assigned g None = stays (metavariable g)
assigned g (Some u) = becomes u

-- Every other head stays.
abbrev pub instantiating : Assignment → Replacement
instantiating σ (bound n) = stays (bound n)
instantiating σ (constant c) = stays (constant c)
instantiating σ (metavariable g) = assigned g (σ g)

abbrev pub Instantiated : Assignment → LfTerm → LfTerm → Type 0
Instantiated σ = Substituted (instantiating σ)

abbrev pub InstantiatedSpine : Assignment → Spine → Spine → Type 0
InstantiatedSpine σ = SubstitutedSpine (instantiating σ)

abbrev pub InstantiatedType : Assignment → LfType → LfType → Type 0
InstantiatedType σ = SubstitutedType (instantiating σ)

abbrev pub InstantiatedContext : Assignment → Context → Context → Type 0
InstantiatedContext σ = SubstitutedContext (instantiating σ)

-- A goal keeps its number; its context and, under that, its target are instantiated.
pub record InstantiatedGoal (σ : Assignment) (g h : LfGoal) : Type 0 where
  pub same_id : h.id ≡ g.id
  pub of_context : InstantiatedContext σ g.context h.context
  pub of_target : SubstitutedType (up_by (length g.context) (instantiating σ)) (atomic g.target) (atomic h.target)

-- An entry of an assignment that is kept as a list: a goal's number, how many entries its context has, and a body in that context.
pub record LfAssigned : Type 0 where
  pub assigned_goal : ℕ
  pub binders_count : ℕ
  pub body : LfTerm

-- the first entry of each number
abbrev pub assignment_of : List LfAssigned → Assignment
assignment_of [] g = None
assignment_of (e ∷ rest) g = if nat_eq e.assigned_goal g then Some (lams e.binders_count e.body) else assignment_of rest g

-- a renaming of metavariables alone
abbrev pub metavariables : (ℕ → ℕ) → Renaming
metavariables ρ (bound n) = bound n
metavariables ρ (constant c) = constant c
metavariables ρ (metavariable g) = metavariable (ρ g)

-- It renames a goal's own number, too. Binders make no difference to it.
abbrev pub rename_goal : (ℕ → ℕ) → LfGoal → LfGoal
rename_goal ρ g = record {
  id = ρ g.id;
  context = rename_context (metavariables ρ) g.context;
  target = record { atom_family = g.target.atom_family; atom_args = rename_spine (metavariables ρ) g.target.atom_args };
}

-- It gives different numbers to different ones.
abbrev pub IsInjective : (ℕ → ℕ) → Type 0
IsInjective ρ = (g h : ℕ) → ρ g ≡ ρ h → g ≡ h
