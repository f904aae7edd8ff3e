-- Shaped problems, the assignments that solve them, and instances of an answer.
use Rattle.std.specs.Prelude.{◌≡◌, ◌≢◌, ◌⊎◌, ℕ, List, ◌∷◌, All, AllPairs, IsTrue, Option, Some, None}
use Rattle.lf_definitions.specs.Syntax.{LfHead, metavariable, LfTerm, Spine, lams, atomic, SimpleType}
use Rattle.lf_definitions.specs.Shaping.{Scope, under_all, Shaped, ShapedType}
use Rattle.lf_definitions.specs.ShapedGoals.{without_variables}
use Rattle.lf_definitions.specs.Expansion.{eta}
use Rattle.lf_definitions.specs.Replacements.{Goes}
use Rattle.lf_definitions.specs.Occurrence.{OccursIn, OccursInSpine}
use Rattle.lf_definitions.specs.Instantiation.{Assignment, instantiating, Instantiated, InstantiatedSpine, LfAssigned, assignment_of}
use Rattle.head_laws.specs.AssignmentLaws.{AssignsClosedTerms}
use Rattle.unification.specs.Equations.{LfEquation, of_atoms, of_terms, Reason, clash, occurs}
use Rattle.unification.specs.Transitions.{Frozen}

-- Atoms are shaped in a scope where each is; terms are where both are at one shape, with variables of local binders.
abbrev pub ShapedEquation : (ℕ → Option SimpleType) → Scope → LfEquation → Type 0
ShapedEquation kinds Γ (of_atoms path a b) = ShapedType kinds Γ (atomic a) × ShapedType kinds Γ (atomic b)
ShapedEquation kinds Γ (of_terms path t u) = (local : List SimpleType) × (s : SimpleType) × Shaped (under_all local Γ) t s × Shaped (under_all local Γ) u s

abbrev pub ShapedEquations : (ℕ → Option SimpleType) → Scope → List LfEquation → Type 0
ShapedEquations kinds Γ equations = All (ShapedEquation kinds Γ) equations

-- An assignment solves an equation where it makes one syntax of both sides.
abbrev pub Solves : Assignment → LfEquation → Type 0
Solves θ (of_atoms path a b) = (a.atom_family ≡ b.atom_family) × (rs : Spine) × InstantiatedSpine θ a.atom_args rs × InstantiatedSpine θ b.atom_args rs
Solves θ (of_terms path t u) = (r : LfTerm) × Instantiated θ t r × Instantiated θ u r

abbrev pub SolvesAll : Assignment → List LfEquation → Type 0
SolvesAll θ equations = All (Solves θ) equations

-- Which assignments are asked about: those that go from the scope of the equations to some other, put terms that speak of no variable, and put nothing for what is frozen.
pub record MaySolve (p : ℕ) (Γ Δ : Scope) (frozen : Frozen) (θ : Assignment) : Type 0 where
  pub goes : Goes p Γ Δ (instantiating θ)
  pub closed : AssignsClosedTerms θ
  pub spares_frozen : (g : ℕ) → IsTrue (frozen g) → θ g ≡ None

abbrev pub or_itself : Option LfTerm → ℕ → SimpleType → LfTerm
or_itself None g s = eta (metavariable g) s
or_itself (Some u) g s = u

-- What an assignment makes of a metavariable of a shape: the term that it puts, or the metavariable itself, eta-long.
abbrev pub value_of : Assignment → ℕ → SimpleType → LfTerm
value_of θ g s = or_itself (θ g) g s

-- An assignment is an instance of an answer where it makes of each metavariable what it makes of the term that the answer puts for it.
abbrev pub IsInstanceOf : Scope → Assignment → Assignment → Type 0
IsInstanceOf Γ σ θ = (g : ℕ) (s : SimpleType) (u : LfTerm) → Γ (metavariable g) ≡ Some s → σ g ≡ Some u → Instantiated θ u (value_of θ g s)

-- a head occurs in an equation
abbrev pub OccursInEquation : LfHead → LfEquation → Type 0
OccursInEquation h (of_atoms path a b) = OccursInSpine h a.atom_args ⊎ OccursInSpine h b.atom_args
OccursInEquation h (of_terms path t u) = OccursIn h t ⊎ OccursIn h u

pub data OccursInEquations : LfHead → List LfEquation → Type 0 where
  in_first : {h : LfHead} {e : LfEquation} {rest : List LfEquation} → OccursInEquation h e → OccursInEquations h (e ∷ rest)
  in_rest : {h : LfHead} {e : LfEquation} {rest : List LfEquation} → OccursInEquations h rest → OccursInEquations h (e ∷ rest)

abbrev pub MentionedBy : List LfEquation → ℕ → Type 0
MentionedBy equations g = OccursInEquations (metavariable g) equations

-- What an entry puts has the shape of its metavariable and speaks of no variable.
abbrev pub ShapedEntry : Scope → LfAssigned → Type 0
ShapedEntry Γ e = (s : SimpleType) × (Γ (metavariable e.assigned_goal) ≡ Some s) × Shaped (without_variables Γ) (lams e.binders_count e.body) s

-- What is known of the entries of an answer.
pub record IsResolvedAnswer (Γ : Scope) (frozen : Frozen) (equations : List LfEquation) (entries : List LfAssigned) : Type 0 where
  -- No metavariable has two.
  pub each_once : AllPairs (λ e f. e.assigned_goal ≢ f.assigned_goal) entries
  -- They are for metavariables of the equations that aren't frozen.
  pub of_unfrozen : All (λ e. IsTrue (frozen e.assigned_goal) → ⊥) entries
  pub of_mentioned : All (λ e. MentionedBy equations e.assigned_goal) entries
  pub shaped : All (ShapedEntry Γ) entries
  -- They mention metavariables of the equations, and none that has an entry.
  pub mentions : All (λ e. (g : ℕ) → OccursIn (metavariable g) e.body → MentionedBy equations g) entries
  pub resolved : All (λ e. (g : ℕ) → OccursIn (metavariable g) e.body → assignment_of entries g ≡ None) entries

-- The reasons that say that there is no solution.
pub data SaysNone : Reason → Type 0 where
  none_by_clash : (path : List ℕ) → SaysNone (clash path)
  none_by_occurs : (g : ℕ) → SaysNone (occurs g)
