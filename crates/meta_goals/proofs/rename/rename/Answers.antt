use Rattle.std.proofs.Common.{◌≢◌, AllPairs, ◌++◌, sym, ap, ◌∙◌, subst}
use Rattle.lf_definitions.specs.GoalLists.{ids}
use Rattle.meta_goals.specs.GoalsOf.{goals_of}
use Rattle.meta_goals.proofs.Renumbered.{numbers_apart, first_numbers_apart, all_numbers, all_pairs, goals_renumbered}
use Rattle.meta_goals.proofs.rename.rename.Goals as goal

pub number-requires : goal.number-requires
number-requires c =
    let goals = goals_of c.args.goals.now in
    subst (λ l. AllPairs (λ m n. m ≢ n) (l ++ ids goals.proofs)) (sym c.new-places.ensures) (first_numbers_apart goals c.requires)

pub number-requires-2 : goal.number-requires-2
number-requires-2 c =
    let goals = goals_of c.args.goals.now in
    subst (λ l. AllPairs (λ m n. m ≢ n) (l ++ ids goals.witnesses)) (sym (c.in_ok-number.ensures.places ∙ ap (λ l. l ++ ids goals.proofs) c.new-places.ensures)) (numbers_apart goals c.requires)

pub returns-clause-goals : goal.returns-clause-goals
returns-clause-goals c =
    let goals = goals_of c.args.goals.now in
    goals_renumbered goals c.number-2.new.places c.in_ok-proofs.proofs c.in_ok-witnesses.witnesses
    (all_numbers goals c.new-places.result c.number.new.places c.number-2.new.places c.new-places.ensures c.in_ok-number.ensures.places c.in_ok-number-2.ensures.places)
    c.in_ok-proofs.ensures c.in_ok-witnesses.ensures

pub returns-clause-pairs : goal.returns-clause-pairs
returns-clause-pairs c =
    all_pairs (goals_of c.args.goals.now) c.new-places.result c.number.new.places c.new-pairs.result c.number.new.pairs c.number-2.new.pairs c.new-places.ensures c.new-pairs.ensures
    c.in_ok-number.ensures.places c.in_ok-number.ensures.pairs c.in_ok-number-2.ensures.pairs
