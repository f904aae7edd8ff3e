-- The laws of lists of goals: their numbers, and goals with other numbers.
use Rattle.std.specs.Prelude.{◌≡◌, ◌≢◌, ℕ, ◌+◌, ◌-◌, ◌<◌, ◌≤◌, List, map, length, slice_get, Some, All, AllPairs, Contains}
use Rattle.lf_definitions.specs.Signatures.{LfSignature}
use Rattle.lf_definitions.specs.Typing.{LfGoal}
use Rattle.lf_definitions.specs.GoalLists.{ids, above, AreDistinct, AreClosed, FormedGoals}
use Rattle.lf_definitions.specs.Instantiation.{rename_goal, IsInjective}
use Rattle.head_laws.specs.Renumbering.{canon, up_to}

-- `above` is greater than each number of the list.
abbrev pub AboveIsGreater : Type 0
AboveIsGreater = (ns : List ℕ) (n : ℕ) → Contains ns n → n < above ns

-- Where goals are well formed, each metavariable that one mentions is one of them.
abbrev pub GoalsMentionNoOthers : Type 0
GoalsMentionNoOthers = (sig : LfSignature) (goals : List LfGoal) → FormedGoals sig goals → AreClosed goals

-- `up_to` gives the number at a place, and numbers from `n` on past the end.
abbrev pub UpToIsByPlace : Type 0
UpToIsByPlace =
    (ns : List ℕ) (n i : ℕ) →
    (i < length ns → slice_get ns i ≡ Some (up_to ns n i))
    × (length ns ≤ i → up_to ns n i ≡ n + (i - length ns))

-- It is injective where the numbers of the list differ and are below `n`.
abbrev pub UpToIsInjective : Type 0
UpToIsInjective =
    ((ns : List ℕ) (n : ℕ) → AllPairs (λ m k. m ≢ k) ns → All (λ m. m < n) ns → IsInjective (up_to ns n))
    × ((goals : List LfGoal) (n : ℕ) → AreDistinct goals → above (ids goals) ≤ n → IsInjective (up_to (ids goals) n))

-- Among goals whose numbers differ, the numbers of `canon` are the places.
abbrev pub CanonNumbersByPlace : Type 0
CanonNumbersByPlace = (goals : List LfGoal) → AreDistinct goals → (i : ℕ) → i < length goals → slice_get (ids (canon goals)) i ≡ Some i

-- The old numbers, put for the places, give the goals back.
abbrev pub CanonIsUndone : Type 0
CanonIsUndone = (goals : List LfGoal) (n : ℕ) → AreClosed goals → map (rename_goal (up_to (ids goals) n)) (canon goals) ≡ goals

-- Goals and the same with other numbers have one `canon`.
abbrev pub CanonForgetsNumbers : Type 0
CanonForgetsNumbers = (ρ : ℕ → ℕ) → IsInjective ρ → (goals : List LfGoal) → canon (map (rename_goal ρ) goals) ≡ canon goals

-- Under other numbers, by a renaming that is injective, numbers still differ, and goals are still closed; so it is under the places.
abbrev pub RenumberedGoalsStayClosed : Type 0
RenumberedGoalsStayClosed =
    ((ρ : ℕ → ℕ) (goals : List LfGoal) → AreClosed goals → AreClosed (map (rename_goal ρ) goals))
    × ((ρ : ℕ → ℕ) → IsInjective ρ → (goals : List LfGoal) → AreDistinct goals → AreDistinct (map (rename_goal ρ) goals))
    × ((goals : List LfGoal) → AreClosed goals → AreClosed (canon goals))
    × ((goals : List LfGoal) → AreDistinct goals → AreDistinct (canon goals))
