use Rattle.std.proofs.Common.{nat_eq, ap, ◌∙◌, option_map, rules, tests}
use Rattle.std.proofs.lemmas.Iterator.{YieldsList-from_slice}
use Rattle.std.proofs.lemmas.Iterator.Search.{find_from_yields_List}
use Rattle.lf_terms.specs.Targets.{goal_of}
use Rattle.lf_terms.proofs.GoalNumbers.{goal_numbered-map, goals_of_found}
use Rattle.lf_terms.proofs.goal_numbers.find_anywhere.Goals as goal

pub returns : goal.returns
returns c =
    let found = find_from_yields_List (λ g. nat_eq g.id c.args.id) _ _ c.find.result c.find.ensures.ran (YieldsList-from_slice c.args.goals.now cc) (λ x b q k. search (rules, tests)) in
    goals_of_found c.find.result ∙ ap (option_map goal_of) found ∙ goal_numbered-map c.args.goals.now c.args.id
