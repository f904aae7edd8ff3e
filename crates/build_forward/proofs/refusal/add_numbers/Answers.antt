use Rattle.std.proofs.Common.{◌≤◌, ◌++◌, length, map, drop, ap, ◌∙◌, arith}
use Rattle.std.proofs.lemmas.List.{at_drop_all}
use Rattle.lf_definitions.specs.GoalLists.{ids}
use Rattle.lf_terms.specs.Targets.{goal_of}
use Rattle.build_forward.proofs.PremisePlaces.{all_pushed}
use Rattle.build_forward.proofs.refusal.add_numbers.Goals as goal

pub returns : goal.returns
returns c =
    let items = c.as_slice-items.result.now in
    let past : length items ≤ c.loop-i.i = omega (arith, c.loop-i-test.false) in
    all_pushed c.loop-i.numbers (ids (map goal_of (drop c.loop-i.i items))) _ (at_drop_all (λ gs. ids (map goal_of gs)) items c.loop-i.i past) c.loop-i.invariant
    ∙ ap (λ gs. c.args.numbers.now ++ ids gs) c.as_slice-items.ensures
