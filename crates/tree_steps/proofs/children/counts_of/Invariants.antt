use Rattle.std.proofs.Common.{◌≡◌, take}
use Rattle.tree_steps.specs.Children.{widths}
use Rattle.tree_steps.proofs.children.counts_of.Given as goal

abbrev pub invariant-loop-branch : goal.invariant-loop-branch
invariant-loop-branch g l = l.counts ≡ widths (take l.branch-index l.branch-items)
