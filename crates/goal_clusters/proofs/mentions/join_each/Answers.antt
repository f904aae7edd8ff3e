use Rattle.std.proofs.Common.{get_or}
use Rattle.std.proofs.lemmas.List.{get_or_default}
use Rattle.goal_clusters.proofs.Joining.{one_more_number}
use Rattle.goal_clusters.proofs.mentions.join_each.Goals as goal

pub loop-number-preserved : goal.loop-number-preserved
loop-number-preserved c =
    let ms = c.args.mentioned.now in
    let i = c.loop-number.number-index in
    one_more_number c.args.numbers.now.keys c.args.place ms i (get_or ms i 0) c.args.links.now.items c.loop-number.links.items c.join_number.new.links.items
    c.loop-number-test.true (get_or_default ms i 0 (get_or ms i 0) c.loop-number-test.true) c.loop-number.invariant c.join_number.ensures
