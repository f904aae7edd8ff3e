use Rattle.std.proofs.Common.{◌++◌, sym, ap, ◌∙◌}
use Rattle.std.proofs.lemmas.List.{map-append}
use Rattle.lf_definitions.specs.Typing.{LfGoal}
use Rattle.lf_definitions.specs.GoalLists.{ids}
use Rattle.build_forward.proofs.refusal.all_numbers.Goals as goal

pub returns : goal.returns
returns c =
    let goals = c.args.goals.now in
    c.in_ok-add_numbers-2.ensures ∙ ap (λ l. l ++ ids goals.witnesses) (c.in_ok-add_numbers.ensures ∙ ap (λ l. l ++ ids goals.proofs) c.new-numbers.ensures)
    ∙ sym (map-append (λ (g : LfGoal). g.id) goals.proofs goals.witnesses)
