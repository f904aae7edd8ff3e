-- Goals that are linked through others, and lists of goals that fall apart.
use Rattle.std.specs.Prelude.{◌≡◌, ℕ, Bool, true, not, List, Contains}
use Rattle.lf_definitions.specs.Typing.{LfGoal}
use Rattle.application_laws.specs.Conditions.{MentionInside}
use Rattle.clusters.specs.Clusters.{are_linked}

-- Two of some goals are linked, directly or through others of them.
pub data AreConnected (goals : List LfGoal) : LfGoal → LfGoal → Type 0 where
  same_goal : (g : LfGoal) → AreConnected goals g g
  by_link : (g h k : LfGoal) → Contains goals h → are_linked g h ≡ true → AreConnected goals h k → AreConnected goals g k

-- the numbers that a test excludes
abbrev pub outside_of : (ℕ → Bool) → ℕ → Bool
outside_of within m = not (within m)

-- No goal inside mentions one outside, and no goal outside mentions one inside.
abbrev pub Splits : (ℕ → Bool) → List LfGoal → Type 0
Splits within goals = MentionInside within goals × MentionInside (outside_of within) goals
