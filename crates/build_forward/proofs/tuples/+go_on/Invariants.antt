use Rattle.std.proofs.Common.{◌+◌, ◌*◌, map}
use Rattle.build_shared.specs.RuleUses.{KeepsShapes}
use Rattle.build_shared.specs.Seen.{seen_hypothesis}
use Rattle.build_forward.proofs.OfferedTuples.{IsLeftFrom}
use Rattle.build_forward.proofs.tuples.+go_on.Given as goal

abbrev pub decreases-go_on : goal.decreases-go_on
decreases-go_on l = 2 * l.left

abbrev pub decreases-go_on_with : goal.decreases-go_on_with
decreases-go_on_with l = 2 * l.left + 1

abbrev pub invariant-go_on-loop-i : goal.invariant-go_on-loop-i
invariant-go_on-loop-i l =
    record {
      left : IsLeftFrom l.sieve.onward.now l.left (map seen_hypothesis l.chosen) l.fn.found.items l.i l.found.items;
      shapes : KeepsShapes l.sieve.onward.now.usage.now l.fn.found.items l.found.items;
    }
