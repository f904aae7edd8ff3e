-- Goals that are dealt out by the roots of their places.
use Rattle.std.specs.Prelude.{ℕ, ◌<◌, List, [], ◌∷◌, length, map, filter, slice_index, slice_index_or, if◌then◌else◌, nat_eq}
use Rattle.lf_definitions.specs.Typing.{LfGoal}
use Rattle.lf_definitions.specs.GoalLists.{LfGoals, all_goals, ids, AreDistinct}
use Rattle.applications.specs.Candidates.{counting_from}

-- the goals with a root
abbrev pub with_root : ℕ → List ℕ → List LfGoal → List LfGoal
with_root r [] goals = []
with_root r (k ∷ roots) [] = []
with_root r (k ∷ roots) (g ∷ goals) = if nat_eq k r then g ∷ with_root r roots goals else with_root r roots goals

-- the goals with each root
abbrev pub dealt : ℕ → List ℕ → List LfGoal → List (List LfGoal)
dealt count roots goals = map (λ r. with_root r roots goals) (counting_from 0 count)

-- the places that are their own roots
abbrev pub own_roots : List ℕ → List ℕ → List ℕ
own_roots roots places = filter (λ r. nat_eq (slice_index roots r) r) places

-- the goals that a place has got
abbrev pub part_at : List (List LfGoal) → List (List LfGoal) → ℕ → LfGoals
part_at proofs witnesses r = record { proofs = slice_index_or proofs r []; witnesses = slice_index_or witnesses r [] }

-- the numbers of the goals of a part
abbrev pub numbers_of : LfGoals → List ℕ
numbers_of part = ids (all_goals part)

-- No part has two goals of one number.
abbrev pub PartsAreDistinct : List (List LfGoal) → List (List LfGoal) → Type 0
PartsAreDistinct proofs witnesses = (r : ℕ) → r < length proofs → AreDistinct (all_goals (part_at proofs witnesses r))
