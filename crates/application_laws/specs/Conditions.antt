-- What rules are asked for, and what is known of what they offer.
use Rattle.std.specs.Prelude.{◌≡◌, ◌⊎◌, ℕ, ◌+◌, ◌<◌, ◌≤◌, Bool, true, List, [], ◌∷◌, ◌++◌, if◌then◌else◌, length, slice_get, Some, None, All, Contains}
use Rattle.lf_definitions.specs.Syntax.{metavariable, LfTerm, at, base, LfType, atomic, binders_of}
use Rattle.lf_definitions.specs.Shaping.{Shaped}
use Rattle.lf_definitions.specs.ShapedGoals.{scope_in, ShapedTypeIn, ShapedGoals}
use Rattle.lf_definitions.specs.Occurrence.{OccursIn, OccursInType, OccursInGoal}
use Rattle.lf_definitions.specs.Typing.{LfGoal, type_at}
use Rattle.lf_definitions.specs.Signatures.{LfSignature, constant_types}
use Rattle.lf_definitions.specs.GoalLists.{LfGoals, all_goals, ids, first_goal, AreDistinct}
use Rattle.lf_definitions.specs.Instantiation.{assignment_of}
use Rattle.unification.specs.Equations.{numbered_from}
use Rattle.unification.specs.Solutions.{MentionedBy}
use Rattle.opening_laws.specs.Conditions.{MayBeOpened}
use Rattle.lf_functions.specs.EndingLaws.{ShapedAtomsIn}
use Rattle.applications.specs.OpenedTypes.{opening_of}
use Rattle.applications.specs.Methods.{Method, applies, constructs, splits, goes_forward, takes_apart, assumes, uses_hypotheses, LfCandidate}
use Rattle.applications.specs.Candidates.{is_atomic, premises_from}
use Rattle.applications.specs.Applications.{LfApplication}

-- A type has an argument of this number, and this argument has no binders.
abbrev pub HasAtomAt : LfType → ℕ → Type 0
HasAtomAt type k = (a : LfType) × (type_at (binders_of type) k ≡ Some a) × (is_atomic a ≡ true)

-- Neither a major argument nor a premise, where these are to be hypotheses, has binders.
abbrev pub TakesAtoms : LfSignature → Method → Type 0
TakesAtoms sig (applies c) = Unit {0}
TakesAtoms sig (constructs constants) = Unit {0}
TakesAtoms sig (splits c major) = (type : LfType) → type_at (constant_types sig) c ≡ Some type → HasAtomAt type major
TakesAtoms sig (goes_forward c) = (type : LfType) → type_at (constant_types sig) c ≡ Some type → All (HasAtomAt type) (premises_from 0 type)
TakesAtoms sig (takes_apart c) = (type : LfType) → type_at (constant_types sig) c ≡ Some type → All (HasAtomAt type) (premises_from 0 type)
TakesAtoms sig assumes = Unit {0}
TakesAtoms sig uses_hypotheses = Unit {0}

-- A metavariable that the goal mentions, or a number from `first` to before `last`.
abbrev pub IsMentionedOrFresh : LfGoal → ℕ → ℕ → ℕ → Type 0
IsMentionedOrFresh g first last m = OccursInGoal (metavariable m) g ⊎ ((first ≤ m) × (m < last))

-- What is known of what a rule offers for a goal among shaped goals, with fresh numbers from `n` on.
pub record MayBeUsed (sig : LfSignature) (goals : List LfGoal) (n : ℕ) (g : LfGoal) (c : LfCandidate) : Type 0 where
  -- What the head's type is opened to is the one opening, of a type that may be opened so.
  pub kept : List ℕ
  pub fixed : List (ℕ × ℕ)
  pub type : LfType
  pub may_be_opened : MayBeOpened sig goals g.context kept fixed n type
  pub is_opening : c.opened ≡ opening_of g.context kept fixed n type
  -- Among the goals and the fresh ones, which are shaped, the head with its terms, the conclusion and the equations are shaped.
  pub goals_are_shaped : ShapedGoals sig (goals ++ c.opened.fresh)
  pub term_is_shaped : Shaped (scope_in sig (goals ++ c.opened.fresh) g.context) (at c.head c.opened.terms) base
  pub end_is_shaped : ShapedTypeIn sig (goals ++ c.opened.fresh) g.context (atomic c.opened.end)
  pub equations_are_shaped : ShapedAtomsIn sig (goals ++ c.opened.fresh) g.context c.equations
  -- The fresh goals have the numbers `n`, `n + 1` and so on, and each has a mark.
  pub have_marks : length c.are_proofs ≡ length c.opened.fresh
  pub fresh_are_numbered : (k : ℕ) (h : LfGoal) → slice_get c.opened.fresh k ≡ Some h → h.id ≡ n + k
  -- Nothing mentions a metavariable but those that the goal mentions, and fresh ones; a fresh goal mentions only earlier ones.
  pub fresh_mention : (k : ℕ) (h : LfGoal) → slice_get c.opened.fresh k ≡ Some h → (m : ℕ) → OccursInGoal (metavariable m) h → IsMentionedOrFresh g n (n + k) m
  pub term_mentions : (m : ℕ) → OccursIn (metavariable m) (at c.head c.opened.terms) → IsMentionedOrFresh g n (n + length c.opened.fresh) m
  pub end_mentions : (m : ℕ) → OccursInType (metavariable m) (atomic c.opened.end) → IsMentionedOrFresh g n (n + length c.opened.fresh) m
  pub equations_mention : (m : ℕ) → MentionedBy (numbered_from 0 c.equations) m → IsMentionedOrFresh g n (n + length c.opened.fresh) m

-- the goals that an application adds
abbrev pub new_goals : LfApplication → List LfGoal
new_goals a = a.proofs ++ a.witnesses

-- A goal of before that is not assigned, or a new one.
abbrev pub IsLeftOrNew : List LfGoal → LfApplication → ℕ → Type 0
IsLeftOrNew goals a m = (Contains (ids goals) m × (assignment_of a.assigned m ≡ None)) ⊎ Contains (ids (new_goals a)) m

-- What an application to a goal speaks of, among goals with numbers below `n`.
pub record HasItsSupport (goals : List LfGoal) (n : ℕ) (g : LfGoal) (a : LfApplication) : Type 0 where
  -- The goal is assigned. Each key is one of the goals, and is this one, or one that it mentions.
  pub assigns_goal : (u : LfTerm) × (assignment_of a.assigned g.id ≡ Some u)
  pub keys_are_mentioned : (k : ℕ) (u : LfTerm) → assignment_of a.assigned k ≡ Some u → Contains (ids goals) k × ((k ≡ g.id) ⊎ OccursInGoal (metavariable k) g)
  -- The bodies mention only goals that are left and new ones.
  pub bodies_mention : (k : ℕ) (u : LfTerm) → assignment_of a.assigned k ≡ Some u → (m : ℕ) → OccursIn (metavariable m) u → IsLeftOrNew goals a m
  -- So do the new goals, but for the goal's own number where it mentions itself.
  pub new_goals_mention : All (λ h. (m : ℕ) → OccursInGoal (metavariable m) h → IsLeftOrNew goals a m ⊎ ((m ≡ g.id) × OccursInGoal (metavariable m) g)) (new_goals a)
  -- The new goals have new numbers, which differ.
  pub new_numbers : All (λ h. n ≤ h.id) (new_goals a)
  pub new_numbers_differ : AreDistinct (new_goals a)

-- The goals whose numbers pass a test, in their order.
abbrev pub inside : (ℕ → Bool) → List LfGoal → List LfGoal
inside within [] = []
inside within (h ∷ rest) = if within h.id then h ∷ inside within rest else inside within rest

-- No goal inside mentions one outside.
abbrev pub MentionInside : (ℕ → Bool) → List LfGoal → Type 0
MentionInside within goals = All (λ h. within h.id ≡ true → (m : ℕ) → OccursInGoal (metavariable m) h → within m ≡ true) goals

-- the same of both parts of a list
abbrev pub goals_inside : (ℕ → Bool) → LfGoals → LfGoals
goals_inside within list = record { proofs = inside within list.proofs; witnesses = inside within list.witnesses }

-- The goals are shaped, with numbers below `n`; those inside mention none outside, and the first goal is one of them.
pub record BeginsInside (sig : LfSignature) (n : ℕ) (within : ℕ → Bool) (list : LfGoals) : Type 0 where
  pub goals_are_shaped : ShapedGoals sig (all_goals list)
  pub numbers_are_below : All (λ h. h.id < n) (all_goals list)
  pub mention_inside : MentionInside within (all_goals list)
  pub first_is_inside : (g : LfGoal) × (first_goal list ≡ Some g) × (within g.id ≡ true)
