-- When a type may be opened.
use Rattle.std.specs.Prelude.{◌≡◌, ◌≢◌, ℕ, zero, suc, ◌<◌, Bool, true, false, not, List, [], length, Option, Some, None, All, AllPairs}
use Rattle.lf_definitions.specs.Syntax.{LfHead, Spine, no_args, arg, LfType, pi, family, Context, shape_of, binders_of}
use Rattle.lf_definitions.specs.Renaming.{extended}
use Rattle.lf_definitions.specs.Occurrence.{OccursInType}
use Rattle.lf_definitions.specs.Substitution.{Replacement, push, SubstitutedType}
use Rattle.lf_definitions.specs.Typing.{Typing, LfGoal, type_at}
use Rattle.lf_definitions.specs.Signatures.{LfSignature}
use Rattle.lf_definitions.specs.ShapedGoals.{ShapedTypeIn, ShapedContextIn}
use Rattle.lf_definitions.specs.GoalLists.{AreDistinct}
use Rattle.opening_laws.specs.Openings.{context_variable, is_kept, fixed_to}

-- whether a head is the variable of a dropped one of a context's first entries
abbrev pub is_dropped : List ℕ → ℕ → LfHead → Bool
is_dropped kept zero = λ h. false
is_dropped kept (suc place) = extended (not (is_kept kept place)) (is_dropped kept place)

-- whether an argument that is fixed to this place is fixed to a dropped one
abbrev pub is_fixed_to_dropped : List ℕ → Option ℕ → Bool
is_fixed_to_dropped kept None = false
is_fixed_to_dropped kept (Some place) = not (is_kept kept place)

-- whether a head, after so many arguments, stands for a dropped entry: it is this entry's variable, or an argument that is fixed to it
abbrev pub is_barred : List ℕ → ℕ → List (ℕ × ℕ) → ℕ → LfHead → Bool
is_barred kept count fixed zero = is_dropped kept count
is_barred kept count fixed (suc i) = extended (is_fixed_to_dropped kept (fixed_to fixed i)) (is_barred kept count fixed i)

-- No head of which `barred` is true occurs in a type.
abbrev pub MentionsNone : (LfHead → Bool) → LfType → Type 0
MentionsNone barred a = (h : LfHead) → OccursInType h a → barred h ≡ false

-- A pair is the number of an argument and a place of the context, which are of one shape.
abbrev pub FixesArgument : Context → LfType → ℕ × ℕ → Type 0
FixesArgument ctx type pair = (a b : LfType) × (type_at (binders_of type) pair.0 ≡ Some a) × (type_at ctx pair.1 ≡ Some b) × (shape_of a ≡ shape_of b)

-- When a type may be opened in a context, with these places kept and these arguments fixed, among goals with numbers below `first`.
pub record MayBeOpened (sig : LfSignature) (goals : List LfGoal) (ctx : Context) (kept : List ℕ) (fixed : List (ℕ × ℕ)) (first : ℕ) (type : LfType) : Type 0 where
  -- The numbers of the goals differ, and are below `first`.
  pub goals_differ : AreDistinct goals
  pub goals_are_below : All (λ g. g.id < first) goals
  -- The context is shaped, and so is the type.
  pub context_is_shaped : ShapedContextIn sig goals [] ctx
  pub type_is_shaped : ShapedTypeIn sig goals ctx type
  -- The kept places are places of the context in rising order, and the types there mention no dropped entry.
  pub kept_rise : AllPairs (λ m n. m < n) kept
  pub kept_are_places : All (λ place. place < length ctx) kept
  pub kept_mention_kept : (place : ℕ) (a : LfType) → is_kept kept place ≡ true → type_at ctx place ≡ Some a → MentionsNone (is_dropped kept place) a
  -- Each argument that is fixed has the shape of its hypothesis, and none is fixed twice.
  pub fixed_once : AllPairs (λ x y. x.0 ≢ y.0) fixed
  pub fixed_fit : All (FixesArgument ctx type) fixed
  -- The types of the others mention no dropped entry, also not by an argument that is fixed to one.
  pub others_mention_kept : (i : ℕ) (a : LfType) → type_at (binders_of type) i ≡ Some a → fixed_to fixed i ≡ None → MentionsNone (is_barred kept (length ctx) fixed i) a

-- Each of the arguments from the i-th on that is fixed asks for the type that its hypothesis has: `σ` puts the terms of the arguments before, and the others are given.
abbrev pub FixedAreTyped : Typing → ℕ → List (ℕ × ℕ) → Replacement → ℕ → LfType → Spine → Type 0
FixedAreTyped Γ count fixed σ i (family f args) ts = Unit {0}
FixedAreTyped Γ count fixed σ i (pi a b) no_args = Unit {0}
FixedAreTyped Γ count fixed σ i (pi a b) (arg t ts) =
    ((place : ℕ) → fixed_to fixed i ≡ Some place → (c : LfType) × SubstitutedType σ a c × (Γ (context_variable count place) ≡ Some c))
    × FixedAreTyped Γ count fixed (push t σ) (suc i) b ts
