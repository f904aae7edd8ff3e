-- The laws of goals among which metavariables are renamed, as they are stated.
use Rattle.head_laws.specs.RenamedGoalLaws.{SignaturesMentionNoMetavariable, RenamedGoalsHaveTypesRenamed, RenamedGoalsAreFormed}
use Rattle.head_laws.proofs.RenamedGoals.{KindsStay-kinds_in, rename_type-constant, HasTypesRenamed-typing_in, FormedGoals-rename_goal, FormedGoals-unrenamed, FormedGoals-canon}

pub signatures_mention_no_metavariable : SignaturesMentionNoMetavariable
signatures_mention_no_metavariable sig shaped ρ = (KindsStay-kinds_in sig shaped ρ, rename_type-constant sig shaped ρ)

pub renamed_goals_have_types_renamed : RenamedGoalsHaveTypesRenamed
renamed_goals_have_types_renamed = HasTypesRenamed-typing_in

pub renamed_goals_are_formed : RenamedGoalsAreFormed
renamed_goals_are_formed sig shaped goals = (
  (λ ρ injective. (FormedGoals-rename_goal sig shaped ρ injective goals, FormedGoals-unrenamed sig shaped ρ injective goals)),
  FormedGoals-canon sig shaped goals,
)
