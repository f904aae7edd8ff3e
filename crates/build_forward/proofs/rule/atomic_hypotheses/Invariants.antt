use Rattle.std.proofs.Common.{◌≡◌, ◌++◌, map, drop}
use Rattle.applications.specs.Candidates.{hypotheses_of, are_atomic}
use Rattle.build_shared.specs.Seen.{seen_hypothesis}
use Rattle.build_forward.proofs.rule.atomic_hypotheses.Given as goal

abbrev pub invariant-loop-i : goal.invariant-loop-i
invariant-loop-i l = map seen_hypothesis l.found.items ++ are_atomic (map seen_hypothesis (drop l.i l.all.items)) ≡ are_atomic (hypotheses_of l.usage.goal.now.ctx)
