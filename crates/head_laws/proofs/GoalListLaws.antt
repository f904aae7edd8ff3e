-- The laws of lists of goals, as they are stated.
use Rattle.lf_definitions.specs.GoalLists.{ids}
use Rattle.head_laws.specs.Renumbering.{place_of_number}
use Rattle.head_laws.specs.GoalListLaws.{AboveIsGreater, GoalsMentionNoOthers, UpToIsByPlace, UpToIsInjective, CanonNumbersByPlace, CanonIsUndone, CanonForgetsNumbers, RenumberedGoalsStayClosed}
use Rattle.head_laws.proofs.Numbers.{above-Contains, All-below_above, up_to-inside, up_to-outside, up_to-injective}
use Rattle.head_laws.proofs.GoalNumbers.{AreClosed-FormedGoals, canon-undone, canon-rename_goal, distinct_ids, canon-numbers, AreClosed-rename_goal, AreDistinct-rename_goal, AreDistinct-canon}

pub above_is_greater : AboveIsGreater
above_is_greater = above-Contains

pub goals_mention_no_others : GoalsMentionNoOthers
goals_mention_no_others = AreClosed-FormedGoals

pub up_to_is_by_place : UpToIsByPlace
up_to_is_by_place ns n i = (up_to-inside ns n i, up_to-outside ns n i)

pub up_to_is_injective : UpToIsInjective
up_to_is_injective = (up_to-injective, λ goals n distinct le. up_to-injective (ids goals) n (distinct_ids goals distinct) (All-below_above (ids goals) n le))

pub canon_numbers_by_place : CanonNumbersByPlace
canon_numbers_by_place = canon-numbers

pub canon_is_undone : CanonIsUndone
canon_is_undone = canon-undone

pub canon_forgets_numbers : CanonForgetsNumbers
canon_forgets_numbers = canon-rename_goal

pub renumbered_goals_stay_closed : RenumberedGoalsStayClosed
renumbered_goals_stay_closed = (AreClosed-rename_goal, AreDistinct-rename_goal, (λ goals. AreClosed-rename_goal (place_of_number (ids goals)) goals), AreDistinct-canon)
