use Rattle.std.proofs.Common.{◌++◌, map, sym, ap, ◌∙◌, take_all}
use Rattle.std.proofs.lemmas.List.{append-nil}
use Rattle.lf_terms.specs.Targets.{goal_of}
use Rattle.build_shared.proofs.FreshParts.{goals_more}
use Rattle.build_shared.proofs.remaining.add_goals.Goals as goal

pub loop-i-init : goal.loop-i-init
loop-i-init c = sym (append-nil c.args.list.now)

pub loop-i-preserved : goal.loop-i-preserved
loop-i-preserved c =
    goals_more c.as_slice-items.result.now c.loop-i.i c.index-items-i.result c.args.list.now c.loop-i.list c.push.new.self (goal_of c.in_ok-copy.field-0) c.loop-i-test.true c.index-items-i.is c.loop-i.invariant c.in_ok-push.ensures.ok c.in_ok-copy.ensures

pub returns : goal.returns
returns c = c.loop-i.invariant ∙ ap (λ l. c.args.list.now ++ map goal_of l) (take_all c.loop-i.i c.as_slice-items.result.now c.loop-i-test.false) ∙ ap (λ l. c.args.list.now ++ l) c.as_slice-items.ensures
