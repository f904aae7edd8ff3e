use Rattle.std.proofs.Common.{◌≡◌, Some, length, refl, slice_get, arith}
use Rattle.std.proofs.lemmas.Option.{slice_get_read}
use Rattle.std.proofs.lemmas.Result.{on_ok_weaker}
use Rattle.rule_index.proofs.Nodes.{new_is, nodes_set, closed_set, same_branches}
use Rattle.rule_index.proofs.node.put.Goals as goal

pub returns-clause-grows : goal.returns-clause-grows
returns-clause-grows c =
    let nodes = c.args.nodes.now.items in
    let node_is : slice_get nodes c.args.number ≡ Some c.index_mut.result.now = slice_get_read nodes (length nodes) c.args.number c.index_mut.result.now refl c.requires.within c.index_mut.ensures.value in
    nodes_set nodes c.args.number c.index_mut.result.now c.add_place.new.self node_is c.add_place.ensures.grows

pub returns-clause-closed : goal.returns-clause-closed
returns-clause-closed c =
    let nodes = c.args.nodes.now.items in
    let node = c.index_mut.result.now in
    let new = c.add_place.new.self in
    let node_is : slice_get nodes c.args.number ≡ Some node = slice_get_read nodes (length nodes) c.args.number node refl c.requires.within c.index_mut.ensures.value in
    closed_set nodes c.args.number node new node_is 0 (omega arith) (same_branches node new c.add_place.ensures.open c.add_place.ensures.constants) c.requires.closed

pub returns-clause-ok : goal.returns-clause-ok
returns-clause-ok c =
    let nodes = c.args.nodes.now.items in
    let new = c.add_place.new.self in
    let node_is : slice_get nodes c.args.number ≡ Some c.index_mut.result.now = slice_get_read nodes (length nodes) c.args.number c.index_mut.result.now refl c.requires.within c.index_mut.ensures.value in
    on_ok_weaker c.add_place.result
    (λ has. record { node = new; node_is = new_is nodes c.args.number c.index_mut.result.now new node_is; has = has }) c.add_place.ensures.ok
