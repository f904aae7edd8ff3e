use Rattle.std.proofs.Common.{◌≢◌, AllPairs, ◌++◌, sym, ap, ◌∙◌, subst}
use Rattle.lf_definitions.specs.GoalLists.{ids}
use Rattle.meta_goals.specs.GoalsOf.{goals_of}
use Rattle.meta_goals.proofs.Renumbered.{numbers_apart, first_numbers_apart, all_numbers}
use Rattle.goal_clusters.proofs.mentions.numbers_of.Goals as goal

pub add_numbers-requires : goal.add_numbers-requires
add_numbers-requires c =
    let goals = goals_of c.args.goals.now in
    subst (λ l. AllPairs (λ m n. m ≢ n) (l ++ ids goals.proofs)) (sym c.new-numbers.ensures.empty) (first_numbers_apart goals c.requires)

pub add_numbers-requires-2 : goal.add_numbers-requires-2
add_numbers-requires-2 c =
    let goals = goals_of c.args.goals.now in
    subst (λ l. AllPairs (λ m n. m ≢ n) (l ++ ids goals.witnesses)) (sym (c.in_ok-add_numbers.ensures ∙ ap (λ l. l ++ ids goals.proofs) c.new-numbers.ensures.empty)) (numbers_apart goals c.requires)

pub returns : goal.returns
returns c =
    all_numbers (goals_of c.args.goals.now) c.new-numbers.result.keys c.add_numbers.new.numbers.keys c.add_numbers-2.new.numbers.keys c.new-numbers.ensures.empty c.in_ok-add_numbers.ensures
    c.in_ok-add_numbers-2.ensures
