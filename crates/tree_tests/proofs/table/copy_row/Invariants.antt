use Rattle.std.proofs.Common.{◌≡◌, map, take}
use Rattle.tree_steps.specs.Seen.{branch_seen}
use Rattle.tree_tests.specs.Tables.{capped}
use Rattle.tree_tests.proofs.table.copy_row.Given as goal

abbrev pub invariant-loop-branch : goal.invariant-loop-branch
invariant-loop-branch l = map (branch_seen (λ n. n)) l.alternatives.items ≡ map capped (take l.branch-index l.branch-items)
