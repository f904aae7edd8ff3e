-- Goals with their places as numbers, and the way back.
use Rattle.std.specs.Prelude.{ℕ, zero, suc, ◌+◌, List, [], ◌∷◌, map, if◌then◌else◌, nat_eq}
use Rattle.lf_definitions.specs.Typing.{LfGoal}
use Rattle.lf_definitions.specs.GoalLists.{ids}
use Rattle.lf_definitions.specs.Instantiation.{rename_goal}

-- The first place of a number in a list, from 0, and the list's length where it has no such number.
abbrev pub place_of_number : List ℕ → ℕ → ℕ
place_of_number [] n = zero
place_of_number (m ∷ rest) n = if nat_eq m n then zero else suc (place_of_number rest n)

-- Each goal gets its place as its number, and so does each metavariable that is one of the goals.
abbrev pub canon : List LfGoal → List LfGoal
canon goals = map (rename_goal (place_of_number (ids goals))) goals

-- The number at a place of a list; past its end the numbers from `n` on.
abbrev pub up_to : List ℕ → ℕ → ℕ → ℕ
up_to [] n i = n + i
up_to (m ∷ rest) n zero = m
up_to (m ∷ rest) n (suc i) = up_to rest n i
