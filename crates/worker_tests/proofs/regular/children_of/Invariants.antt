use Rattle.std.proofs.Common.{◌≡◌, replicate}
use Rattle.worker_tests.proofs.regular.children_of.Given as goal

abbrev pub invariant-loop-place : goal.invariant-loop-place
invariant-loop-place l = l.nodes.items ≡ replicate l.place l.child
