-- Bindings that are kept as they were made, and the resolved entries for which they stand.
use Rattle.std.specs.Prelude.{◌≡◌, ℕ, List, [], ◌∷◌, map, All, true, Option, Some, None}
use Rattle.lf_definitions.specs.Syntax.{metavariable, LfTerm, Spine, LfAtom, atomic, SimpleType, base, arrows}
use Rattle.lf_definitions.specs.Shaping.{Scope, under_all, Shaped, ShapedSpine, ShapedType}
use Rattle.lf_definitions.specs.Occurrence.{OccursIn}
use Rattle.lf_definitions.specs.Instantiation.{Instantiated, LfAssigned, assignment_of}
use Rattle.unification.specs.Patterns.{are_different}
use Rattle.unification.specs.Equations.{InstantiatedEntries}
use Rattle.unification.specs.Solutions.{ShapedEntry}
use Rattle.meta_goals.specs.Bindings.{LfBinding, assigned_of, binding_for}

-- as entries, the newest first
abbrev pub newest_first : List LfBinding → List LfAssigned → List LfAssigned
newest_first [] older = older
newest_first (b ∷ rest) older = newest_first rest (assigned_of b ∷ older)

abbrev pub assigned_goals : List LfAssigned → List ℕ
assigned_goals [] = []
assigned_goals (e ∷ rest) = e.assigned_goal ∷ assigned_goals rest

-- A binding has the shapes of its goal's context.
abbrev pub KnowsContext : Scope → LfBinding → Type 0
KnowsContext Γ b = (s : SimpleType) → Γ (metavariable b.number) ≡ Some s → s ≡ arrows b.shapes base

abbrev pub MentionsNot : ℕ → LfTerm → Type 0
MentionsNot g t = OccursIn (metavariable g) t → ⊥

-- No body mentions a goal that was bound with it or before it: the bindings are triangular (Baader and Snyder 2001).
abbrev pub IsTriangular : List LfBinding → Type 0
IsTriangular [] = Unit
IsTriangular (b ∷ rest) = All (λ c. MentionsNot b.number c.bound_body) (b ∷ rest) × IsTriangular rest

-- The bodies of bindings may mention goals that were bound later; instantiated by all entries, they are the bodies of these.
pub record Stands (Γ : Scope) (bindings : List LfBinding) (entries : List LfAssigned) : Type 0 where
  pub instantiated : InstantiatedEntries (assignment_of entries) (newest_first bindings []) entries
  pub bindings_shaped : All (ShapedEntry Γ) (map assigned_of bindings)
  pub entries_shaped : All (ShapedEntry Γ) entries
  pub differ : are_different (assigned_goals entries) ≡ true
  pub resolved : (g h : ℕ) (u : LfTerm) → assignment_of entries g ≡ Some u → OccursIn (metavariable h) u → assignment_of entries h ≡ None
  pub contexts : All (KnowsContext Γ) bindings
  pub triangular : IsTriangular bindings

-- Bindings stand for entries in some scope in which terms have a shape, under local binders.
pub record IsWorkable (bindings : List LfBinding) (t u : LfTerm) : Type 0 where
  pub outer : Scope
  pub entries : List LfAssigned
  pub stands : Stands outer bindings entries
  pub local : List SimpleType
  pub shape : SimpleType
  pub left_shaped : Shaped (under_all local outer) t shape
  pub right_shaped : Shaped (under_all local outer) u shape

-- The same for arguments.
pub record AreWorkable (bindings : List LfBinding) (ts us : Spine) : Type 0 where
  pub outer : Scope
  pub entries : List LfAssigned
  pub stands : Stands outer bindings entries
  pub local : List SimpleType
  pub shape : SimpleType
  pub left_shaped : ShapedSpine (under_all local outer) ts shape
  pub right_shaped : ShapedSpine (under_all local outer) us shape

-- The same for two atoms.
pub record AtomsAreWorkable (bindings : List LfBinding) (pair : LfAtom × LfAtom) : Type 0 where
  pub kinds : ℕ → Option SimpleType
  pub outer : Scope
  pub entries : List LfAssigned
  pub stands : Stands outer bindings entries
  pub left_shaped : ShapedType kinds outer (atomic pair.0)
  pub right_shaped : ShapedType kinds outer (atomic pair.1)

-- No goal that is bound is mentioned.
abbrev pub MentionsNoneBound : List LfBinding → LfTerm → Type 0
MentionsNoneBound bindings t = (g : ℕ) → OccursIn (metavariable g) t → binding_for bindings g ≡ None

-- The second term is the first one's instance, whatever entries the bindings stand for.
abbrev pub Fills : List LfBinding → LfTerm → LfTerm → Type 0
Fills bindings t r =
    (Γ : Scope) (entries : List LfAssigned) (local : List SimpleType) (s : SimpleType) → Stands Γ bindings entries → Shaped (under_all local Γ) t s → Instantiated (assignment_of entries) t r
