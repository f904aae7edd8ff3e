-- Lists of goals: proof goals and then witness goals.
use Rattle.std.specs.Prelude.{◌≢◌, ℕ, suc, List, [], ◌∷◌, ◌++◌, map, All, AllPairs, Contains, Option, Some, None}
use Rattle.std.specs.Prelude.{max}
use Rattle.lf_definitions.specs.Syntax.{metavariable, LfType, atomic, binders_of, conclusion_atom}
use Rattle.lf_definitions.specs.Typing.{LfGoal, Formed, FormedContext}
use Rattle.lf_definitions.specs.Signatures.{LfSignature, kinds_in, typing_in}
use Rattle.lf_definitions.specs.Occurrence.{OccursInGoal}

pub record LfGoals : Type 0 where
  pub proofs : List LfGoal
  pub witnesses : List LfGoal

abbrev pub all_goals : LfGoals → List LfGoal
all_goals list = list.proofs ++ list.witnesses

-- their numbers
abbrev pub ids : List LfGoal → List ℕ
ids goals = map (λ g. g.id) goals

-- One more than the greatest number, and 0 where there is none.
abbrev pub above : List ℕ → ℕ
above [] = 0
above (n ∷ rest) = max (suc n) (above rest)

-- the first number that is above those of all goals
abbrev pub next_id : LfGoals → ℕ
next_id list = above (ids (all_goals list))

abbrev pub first_of : List LfGoal → Option LfGoal
first_of [] = None
first_of (g ∷ rest) = Some g

-- The first goal is the first proof goal, or the first witness where there is no proof goal.
abbrev pub first_goal : LfGoals → Option LfGoal
first_goal list = first_of (all_goals list)

-- The numbers differ.
abbrev pub AreDistinct : List LfGoal → Type 0
AreDistinct goals = AllPairs (λ g h. g.id ≢ h.id) goals

-- Each metavariable that a goal mentions is one of the goals.
abbrev pub AreClosed : List LfGoal → Type 0
AreClosed goals = All (λ g. (n : ℕ) → OccursInGoal (metavariable n) g → Contains (ids goals) n) goals

-- Among goals, a goal is well formed where its context is, and its target in that context.
abbrev pub FormedGoal : LfSignature → List LfGoal → LfGoal → Type 0
FormedGoal sig goals g =
    FormedContext (kinds_in sig) (typing_in sig goals []) g.context
    × Formed (kinds_in sig) (typing_in sig goals g.context) (atomic g.target)

-- A list of goals is well formed where their numbers differ and each is well formed among them.
abbrev pub FormedGoals : LfSignature → List LfGoal → Type 0
FormedGoals sig goals = AreDistinct goals × All (FormedGoal sig goals) goals

-- The opening list of a type: the one proof goal 0, with the type's binders as its context and the atom that it ends in as its target.
abbrev pub opening : LfType → LfGoals
opening a = record { proofs = record { id = 0; context = binders_of a; target = conclusion_atom a } ∷ []; witnesses = [] }
