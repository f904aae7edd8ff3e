use Rattle.std.proofs.Common.{drop}
use Rattle.build_shared.specs.RuleUses.{KeepsShapes}
use Rattle.build_shared.proofs.AddedCandidates.{IsLeft}
use Rattle.build_apply.proofs.Offers.{constructed_from}
use Rattle.build_apply.proofs.constants.add_constants.Given as goal

abbrev pub invariant-loop-i : goal.invariant-loop-i
invariant-loop-i l =
    record {
      left : IsLeft l.usage (constructed_from l.usage l.i (drop l.i l.items)) (constructed_from l.usage 0 l.constants) l.fn.found.items l.found.items;
      shapes : KeepsShapes l.usage l.fn.found.items l.found.items;
    }
