use Rattle.lf_terms.specs.Targets.{goal_of}
use Rattle.applications.specs.Candidates.{hypotheses_of, by_hypothesis}
use Rattle.build_shared.specs.RuleUses.{KeepsShapes}
use Rattle.build_shared.proofs.AddedCandidates.{IsLeft}
use Rattle.build_apply.proofs.Offers.{offered, offered_from}
use Rattle.build_apply.proofs.hypotheses.add_hypotheses.Given as goal

abbrev pub invariant-loop-i : goal.invariant-loop-i
invariant-loop-i l =
    let f = by_hypothesis l.usage.rule (goal_of l.usage.goal.now) l.usage.first in
    record {
      left : IsLeft l.usage (offered_from f l.atomic l.i l.items) (offered f l.atomic (hypotheses_of l.usage.goal.now.ctx)) l.fn.found.items l.found.items;
      shapes : KeepsShapes l.usage l.fn.found.items l.found.items;
    }
