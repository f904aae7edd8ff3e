-- The laws, as they are stated.
use Rattle.std.proofs.Common.{◌≡◌, ◌≢◌, List, [], ◌++◌, sym, ap₂, subst}
use Rattle.std.proofs.lemmas.List.{map-append}
use Rattle.std.proofs.lemmas.List.Elements.{All-append}
use Rattle.lf_definitions.specs.Typing.{LfGoal}
use Rattle.lf_definitions.specs.ShapedGoals.{kind_shapes_in, scope_in, ShapedGoal, ShapedGoals}
use Rattle.lf_definitions.specs.GoalLists.{LfGoals, all_goals, ids}
use Rattle.lf_definitions.specs.Instantiation.{Assignment, rename_goal}
use Rattle.head_laws.specs.Renumbering.{place_of_number, canon, up_to}
use Rattle.head_laws.proofs.GoalNumbers.{canon-undone}
use Rattle.goal_lists.specs.Assigning.{Leaves, LeavesGoals}
use Rattle.goal_lists.specs.Numbering.{renumbered}
use Rattle.goal_lists.specs.Laws.{GoalsLeaveOneList, UnassignedGoalsAreLeft, GoalsThatAreLeftAreShaped, NewGoalsMayStandBeside, WhatIsLeftIsRenamed, RenumberingIsRenaming, ShapedGoalsMentionNoOthers, RenamedGoalsAreShaped}
use Rattle.goal_lists.proofs.Leaving.{All-parts, AllPairs-append, Leaves-append, unique_left, total_left, shaped_left, AreDistinct-left, number_was_there, number_that_stays, new_numbers_apart}
use Rattle.goal_lists.proofs.RenamedLists.{Leaves-renamed, Leaves-unrenamed, AreClosed-ShapedGoals, ShapedGoals-renamed, ShapedGoals-unrenamed, ShapedGoals-canon, parts_back}

abbrev goals_of : List LfGoal → List LfGoal → LfGoals
goals_of proofs witnesses = record { proofs = proofs; witnesses = witnesses }

pub goals_leave_one_list : GoalsLeaveOneList
goals_leave_one_list sig goals others σ shaped goes =
    let parts = All-parts (ShapedGoal sig (all_goals goals)) goals.proofs goals.witnesses shaped.1 in
    let Γ = scope_in sig (all_goals goals) [] in
    let Δ = scope_in sig others [] in
    let proofs = total_left goes.0 (kind_shapes_in sig) Γ Δ σ goes.1 goals.proofs parts.0 in
    let witnesses = total_left goes.0 (kind_shapes_in sig) Γ Δ σ goes.1 goals.witnesses parts.1 in (
      goals_of proofs.0 witnesses.0,
      record { of_proofs = proofs.1; of_witnesses = witnesses.1 },
      (λ other leaves. ap₂ goals_of (unique_left proofs.1 leaves.of_proofs) (unique_left witnesses.1 leaves.of_witnesses)),
    )

pub unassigned_goals_are_left : UnassignedGoalsAreLeft
unassigned_goals_are_left goals left σ leaves n = (number_was_there leaves n, λ p. number_that_stays leaves n p.0 p.1)

all_left : (σ : Assignment) (goals left : LfGoals) → LeavesGoals σ goals left → Leaves σ (all_goals goals) (all_goals left)
all_left σ goals left leaves = Leaves-append leaves.of_proofs leaves.of_witnesses

pub goals_that_are_left_are_shaped : GoalsThatAreLeftAreShaped
goals_that_are_left_are_shaped sig goals left σ shaped goes leaves =
    let whole = all_left σ goals left leaves in (
      AreDistinct-left whole shaped.0,
      shaped_left goes.0 (kind_shapes_in sig) (scope_in sig (all_goals goals) []) (scope_in sig (all_goals left) []) σ goes.1 whole shaped.1,
    )

pub new_goals_may_stand_beside : NewGoalsMayStandBeside
new_goals_may_stand_beside sig goals left more σ shaped goes leaves distinct new shaped_more =
    let whole = all_left σ goals left leaves in
    let all = all_goals left ++ more in (
      AllPairs-append (λ g h. g.id ≢ h.id) (all_goals left) more (AreDistinct-left whole shaped.0) distinct (new_numbers_apart (all_goals left) more new),
      All-append (ShapedGoal sig all) (all_goals left) more
          (shaped_left goes.0 (kind_shapes_in sig) (scope_in sig (all_goals goals) []) (scope_in sig all []) σ goes.1 whole shaped.1) shaped_more,
    )

pub what_is_left_is_renamed : WhatIsLeftIsRenamed
what_is_left_is_renamed ρ injective σ τ renamed goals left = (Leaves-renamed ρ injective σ τ renamed, Leaves-unrenamed ρ injective σ τ renamed goals left)

pub renumbering_is_renaming : RenumberingIsRenaming
renumbering_is_renaming goals =
    let all = all_goals goals in
    let place = rename_goal (place_of_number (ids all)) in
    let is_canon : all_goals (renumbered goals) ≡ canon all = sym (map-append place goals.proofs goals.witnesses) in (
      is_canon,
      (λ n closed. parts_back (rename_goal (up_to (ids all) n)) place goals.proofs goals.witnesses (canon-undone all n closed)),
      (λ sig shaped. subst (ShapedGoals sig) (sym is_canon) (ShapedGoals-canon sig all shaped)),
    )

pub shaped_goals_mention_no_others : ShapedGoalsMentionNoOthers
shaped_goals_mention_no_others = AreClosed-ShapedGoals

pub renamed_goals_are_shaped : RenamedGoalsAreShaped
renamed_goals_are_shaped sig ρ injective goals = (ShapedGoals-renamed sig ρ injective goals, ShapedGoals-unrenamed sig ρ injective goals)
