use Rattle.std.proofs.Common.{◌++◌, option_to_list, ap, ◌∙◌}
use Rattle.std.proofs.lemmas.Result.{on_ok_weaker}
use Rattle.rule_index.proofs.Trees.{adds_all, adds_constant}
use Rattle.rule_index.proofs.node.Node.add_branches.Goals as goal

pub returns-in-Anything : goal.returns-in-Anything
returns-in-Anything c =
    let node = c.args.self.now in
    let old = c.args.next.now.items in
    let between = c.push_some.new.numbers.items in
    let new = c.add_constants.new.next.items in
    on_ok_weaker c.add_constants.result (adds_all node old between new c.in_ok-push_some.ensures c.args.demand) c.add_constants.ensures

pub returns-in-Constant : goal.returns-in-Constant
returns-in-Constant c =
    let node = c.args.self.now in
    let old = c.args.next.now.items in
    let between = c.push_some.new.numbers.items in
    let new = c.push_some-in-Constant.new.numbers.items in
    on_ok_weaker c.push_some-in-Constant.result
    (λ e. adds_constant node old between new c.in_ok-push_some.ensures c.args.demand c.in-Constant.constant c.in-Constant.is (e ∙ ap (λ o. between ++ option_to_list o) c.branch-self.ensures))
    c.push_some-in-Constant.ensures
