use Rattle.std.proofs.Common.{[], refl, sym, subst}
use Rattle.lf_definitions.specs.GoalLists.{all_goals}
use Rattle.meta_goals.specs.GoalsOf.{goals_of}
use Rattle.build_shared.specs.RuleUses.{AddsWhatCounts}
use Rattle.build_shared.proofs.AddedCandidates.{none_know_shapes}
use Rattle.build_cases.proofs.EachHypothesis.{read_may_split, one_more, all_tried}
use Rattle.build_cases.proofs.trying.split_each.Goals as goal

pub loop-i-init : goal.loop-i-init
loop-i-init c =
    let none = c.new-found.ensures.items in
    record {
      found = subst (AddsWhatCounts c.args.split.now.usage.now [] []) (sym none) refl;
      shapes = none_know_shapes (all_goals (goals_of c.args.split.now.usage.now.goals.now)) _ none;
    }

pub split_one-requires-clause-may_split : goal.split_one-requires-clause-may_split
split_one-requires-clause-may_split c =
    read_may_split c.args.split.now c.args.split.now.hyps.now c.loop-i.i c.index-hyps-i.result c.requires c.requires.hypotheses_are c.loop-i-test.true c.index-hyps-i.is

pub loop-i-preserved : goal.loop-i-preserved
loop-i-preserved c =
    record {
      found = one_more c.args.split.now c.args.split.now.hyps.now c.loop-i.i c.index-hyps-i.result c.loop-i.found.items _ c.loop-i-test.true c.index-hyps-i.is c.loop-i.invariant.found c.in_ok-split_one.ensures.found;
      shapes = c.in_ok-split_one.ensures.shapes c.loop-i.invariant.shapes;
    }

pub returns-clause-found : goal.returns-clause-found
returns-clause-found c = all_tried c.args.split.now c.args.split.now.hyps.now c.loop-i.i c.loop-i.found.items c.loop-i-test.false c.requires.hypotheses_are c.loop-i.invariant.found
