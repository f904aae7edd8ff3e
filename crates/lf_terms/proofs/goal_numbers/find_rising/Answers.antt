use Rattle.std.proofs.Common.{◌≢◌, ◌<◌, length, get_or, rules, arith}
use Rattle.std.proofs.lemmas.List.Sorted.{IsPartitionPoint-from_clause}
use Rattle.std.proofs.Math.Dec.{ltb}
use Rattle.lf_terms.specs.declared.goal.Goal.{Goal}
use Rattle.lf_terms.proofs.GoalNumbers.{parted, found_at, differs_at, not_found}
use Rattle.lf_terms.proofs.goal_numbers.find_rising.Goals as goal
use Rattle.lf_terms.proofs.goal_numbers.find_rising.Goals.{then-place-goals+else-goal-id-2, else-place-goals}

pub returns-then-goal-id : goal.returns-then-goal-id
returns-then-goal-id c = found_at c.args.goals.now c.args.id c.args.id c.index-goals-own.result c.requires c.if-own-goals.true c.index-goals-own.is c.if-goal-id.true

pub returns-then-goal-id-2 : goal.returns-then-goal-id-2
returns-then-goal-id-2 c =
    found_at c.args.goals.now c.partition_point-place.result c.args.id c.index-goals-place.result c.requires c.if-place-goals.true c.index-goals-place.is c.if-goal-id-2.true

pub returns : goal.returns
returns c =
    let goals = c.args.goals.now in
    let place = c.partition_point-place.result in
    let n = c.args.id in
    let point = IsPartitionPoint-from_clause (λ g. ltb g.id n) goals place c.partition_point-place.ensures.partitioned (parted goals n c.requires) (λ a r q k. search rules) in
    let differs : (d : Goal) → place < length goals → (get_or goals place d).id ≢ n = elim c.if-place-goals.branch [
      | then-place-goals+else-goal-id-2 w ↦ differs_at goals place n w.index-goals-place.result w.index-goals-place.is w.if-goal-id-2.false
      | else-place-goals w ↦ λ d within e. absurd (omega (arith, within, w.if-place-goals.false))
    ] in
    not_found goals place n c.requires point differs
