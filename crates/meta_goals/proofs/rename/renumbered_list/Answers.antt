use Rattle.std.proofs.Common.{ap, ◌∙◌, take_all, map}
use Rattle.lf_definitions.specs.Instantiation.{rename_goal}
use Rattle.head_laws.specs.Renumbering.{place_of_number}
use Rattle.lf_terms.specs.Targets.{goal_of}
use Rattle.meta_goals.proofs.Renumbered.{one_more_goal_renamed}
use Rattle.meta_goals.proofs.rename.renumbered_list.Goals as goal

pub loop-i-preserved : goal.loop-i-preserved
loop-i-preserved c =
    one_more_goal_renamed (place_of_number c.args.places.now) c.as_slice-items.result.now c.loop-i.results.items c.push.new.self.items c.loop-i.i c.index-items-i.result c.in_ok-renumbered_goal.field-0
    c.loop-i-test.true c.index-items-i.is c.in_ok-push.ensures.items c.loop-i.invariant c.in_ok-renumbered_goal.ensures

pub returns : goal.returns
returns c =
    let ρ = place_of_number c.args.places.now in
    c.from_vec.ensures ∙ c.loop-i.invariant ∙ ap (λ l. map (rename_goal ρ) (map goal_of l)) (take_all c.loop-i.i c.as_slice-items.result.now c.loop-i-test.false) ∙ ap (map (rename_goal ρ)) c.as_slice-items.ensures
