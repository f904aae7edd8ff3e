use Rattle.std.proofs.Common.{get_or, sym, ap, ap₂, ◌∙◌, take_all}
use Rattle.std.specs.Prelude.{is_some, ◌&&◌}
use Rattle.std.specs.List.{list_all}
use Rattle.std.proofs.lemmas.List.Folds.{list_all_more, list_all_at, list_all-map}
use Rattle.lf_definitions.specs.Typing.{LfGoal}
use Rattle.lf_terms.specs.declared.goal.Goal.{Goal}
use Rattle.lf_terms.specs.Targets.{goal_of}
use Rattle.meta_goals.specs.Bindings.{assigning}
use Rattle.meta_goals.specs.Entries.{binding_of}
use Rattle.meta_goals.proofs.LeftGoals.{is_assigned, is_unassigned}
use Rattle.build_shared.proofs.adding.are_assigned.Goals as goal

pub returns-in-None : goal.returns-in-None
returns-in-None c =
    let test = λ (x : Goal). is_some (assigning c.args.entries.now x.id) in
    let items = c.as_slice-items.result.now in
    let x = c.index-items-i.result in
    sym (list_all_at test items c.loop-i.i x c.loop-i-test.true (ap is_some (is_unassigned c.args.entries.now (get_or items c.loop-i.i x).id (sym c.in-None.ensures))))
    ∙ sym (list_all-map (λ (g : LfGoal). is_some (assigning c.args.entries.now g.id)) goal_of items) ∙ ap (list_all (λ (g : LfGoal). is_some (assigning c.args.entries.now g.id))) c.as_slice-items.ensures

pub loop-i-preserved : goal.loop-i-preserved
loop-i-preserved c =
    let test = λ (x : Goal). is_some (assigning c.args.entries.now x.id) in
    let items = c.as_slice-items.result.now in
    let x = c.index-items-i.result in
    list_all_more test items c.loop-i.i x c.loop-i-test.true
    ∙ ap₂ (λ a b. a && b) c.loop-i.invariant (ap is_some (is_assigned c.args.entries.now (get_or items c.loop-i.i x).id (binding_of ((get_or items c.loop-i.i x).id, c.in-Some.field-0.now)) (sym c.in-Some.ensures)))

pub returns : goal.returns
returns c =
    let test = λ (x : Goal). is_some (assigning c.args.entries.now x.id) in
    let items = c.as_slice-items.result.now in
    sym c.loop-i.invariant ∙ ap (list_all test) (take_all c.loop-i.i items c.loop-i-test.false) ∙ sym (list_all-map (λ (g : LfGoal). is_some (assigning c.args.entries.now g.id)) goal_of items)
    ∙ ap (list_all (λ (g : LfGoal). is_some (assigning c.args.entries.now g.id))) c.as_slice-items.ensures
