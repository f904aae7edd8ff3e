use Rattle.std.proofs.Common.{◌≡◌, map, replicate}
use Rattle.tree_steps.specs.Seen.{branch_seen}
use Rattle.worker_tests.proofs.regular.fan_of.Given as goal

abbrev pub invariant-loop-place : goal.invariant-loop-place
invariant-loop-place l = map (branch_seen (λ n. n)) l.all.items ≡ replicate l.place (100, replicate l.children l.child)
