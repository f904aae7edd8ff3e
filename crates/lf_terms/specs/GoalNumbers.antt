-- Goals by their numbers.
use Rattle.std.specs.Prelude.{ℕ, ◌<◌, List, AllPairs, Option, find, nat_eq}
use Rattle.lf_definitions.specs.Typing.{LfGoal}

-- each number is less than those of all later goals
abbrev pub NumbersRise : List LfGoal → Type 0
NumbersRise goals = AllPairs (λ g h. g.id < h.id) goals

abbrev pub goal_numbered : List LfGoal → ℕ → Option LfGoal
goal_numbered goals n = find (λ g. nat_eq g.id n) goals
