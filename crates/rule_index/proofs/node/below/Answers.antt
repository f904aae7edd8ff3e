use Rattle.std.proofs.Common.{◌≡◌, ◌∷◌, [], ◌++◌, List, ℕ, None, Some, slice_get, slice_index_or, slice_set, refl, sym, ◌∙◌, length, ◌<◌, ◌+◌, ap, subst, arith, length-append}
use Rattle.std.proofs.lemmas.Option.{slice_get_read}
use Rattle.rule_index.specs.declared.node.Node.{Node}
use Rattle.rule_index.specs.Trees.{NodeGrows, NodesGrow, BringsWithin, BranchesAreNodes}
use Rattle.rule_index.proofs.Nodes.{new_is, nodes_set, nodes_append, nodes_then, closed_set, closed_more}
use Rattle.rule_index.proofs.node.below.Goals as goal

pub returns-in_Some-child-clause-ok : goal.returns-in_Some-child-clause-ok
returns-in_Some-child-clause-ok c = record {
  node = c.index.result.now;
  node_is = slice_get_read c.args.nodes.now.items (length c.args.nodes.now.items) c.args.number c.index.result.now refl c.requires.within c.index.ensures;
  branch_is = sym c.branch-child.ensures ∙ c.in_Some-child.is;
}

-- A node grows in a list to which one was added.
module _ (nodes more : List Node) (added node new : Node) (i : ℕ) (more_is : more ≡ nodes ++ added ∷ []) (within : i < length nodes) (read : node ≡ slice_index_or more i node) where
  long : length more ≡ length nodes + 1
  long = ap length more_is ∙ length-append nodes (added ∷ [])

  node_is : slice_get more i ≡ Some node
  node_is = slice_get_read more (length more) i node refl (omega (arith, long, within)) read

  grows : NodeGrows node new → NodesGrow nodes (slice_set more i new)
  grows grow = nodes_then nodes more (slice_set more i new) (nodes_append nodes (added ∷ []) more more_is) (nodes_set more i node new node_is grow)

  closed : (child : ℕ) → child ≡ length nodes → added.open_branch ≡ None → added.constants.entries ≡ [] → BringsWithin node new (child + 1) → BranchesAreNodes nodes → BranchesAreNodes (slice_set more i new)
  closed child child_is none empty brings before = closed_set more i node new node_is (child + 1) (omega (arith, long, child_is)) brings (closed_more nodes more added more_is none empty before)

pub returns-in_err-add_branch-clause-grows : goal.returns-in_err-add_branch-clause-grows
returns-in_err-add_branch-clause-grows c =
    grows c.args.nodes.now.items c.push.new.self.items c.new.result c.index_mut.result.now c.add_branch.new.self c.args.number c.in_ok-push.ensures.items c.requires.within c.index_mut.ensures.value c.add_branch.ensures.grows

pub returns-clause-grows : goal.returns-clause-grows
returns-clause-grows c =
    grows c.args.nodes.now.items c.push.new.self.items c.new.result c.index_mut.result.now c.add_branch.new.self c.args.number c.in_ok-push.ensures.items c.requires.within c.index_mut.ensures.value c.add_branch.ensures.grows

pub returns-in_err-add_branch-clause-closed : goal.returns-in_err-add_branch-clause-closed
returns-in_err-add_branch-clause-closed c =
    closed c.args.nodes.now.items c.push.new.self.items c.new.result c.index_mut.result.now c.add_branch.new.self c.args.number c.in_ok-push.ensures.items c.requires.within c.index_mut.ensures.value c.len-child.result
    (c.len-child.ensures ∙ c.args.nodes.now.ok.0) c.new.ensures.open c.new.ensures.constants c.add_branch.ensures.brings c.requires.closed

pub returns-clause-closed : goal.returns-clause-closed
returns-clause-closed c =
    closed c.args.nodes.now.items c.push.new.self.items c.new.result c.index_mut.result.now c.add_branch.new.self c.args.number c.in_ok-push.ensures.items c.requires.within c.index_mut.ensures.value c.len-child.result
    (c.len-child.ensures ∙ c.args.nodes.now.ok.0) c.new.ensures.open c.new.ensures.constants c.add_branch.ensures.brings c.requires.closed

pub returns-clause-ok : goal.returns-clause-ok
returns-clause-ok c =
    let is = node_is c.args.nodes.now.items c.push.new.self.items c.new.result c.index_mut.result.now c.add_branch.new.self c.args.number c.in_ok-push.ensures.items c.requires.within c.index_mut.ensures.value in
    record {
      node = c.add_branch.new.self;
      node_is = new_is c.push.new.self.items c.args.number c.index_mut.result.now c.add_branch.new.self is;
      branch_is = c.in_ok-add_branch.ensures.ok;
    }

nodes_unchanged : (nodes more : List Node) → more ≡ nodes → BranchesAreNodes nodes → BranchesAreNodes more
nodes_unchanged nodes more same before = let P : List Node → Type 0 = BranchesAreNodes in subst P (sym same) before

pub returns-in_err-push-clause-closed : goal.returns-in_err-push-clause-closed
returns-in_err-push-clause-closed c = nodes_unchanged c.args.nodes.now.items c.push.new.self.items c.in_err-push.ensures.items c.requires.closed
