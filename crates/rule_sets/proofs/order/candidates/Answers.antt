use Rattle.std.proofs.Common.{sym, subst, List, ◌+◌, Vec, Global}
use Rattle.rule_sets.specs.declared.order.Candidate.{Candidate}
use Rattle.rule_sets.specs.Candidates.{AreCandidates}
use Rattle.rule_sets.proofs.Tested.{failed}
use Rattle.rule_sets.proofs.Candidates.{no_candidates, candidate_skipped, candidate_more}
use Rattle.rule_sets.proofs.order.candidates.Goals as goal
use Rattle.rule_sets.proofs.order.candidates.Goals.{then-has+in_ok-push, else-has}

pub loop-number-init : goal.loop-number-init
loop-number-init c =
    let P : List Candidate → Type 0 = AreCandidates c.args.book.now c.args.chosen.now 0 in
    subst P (sym c.new-candidates.ensures.items) (no_candidates c.args.book.now c.args.chosen.now)

pub loop-number-preserved : goal.loop-number-preserved
loop-number-preserved c =
    let P : Vec Candidate Global → Type 0 = λ v. AreCandidates c.args.book.now c.args.chosen.now (c.loop-number.number + 1) v.items in
    elim c.if-has.branch [
      | then-has+in_ok-push w ↦ subst P (sym w.candidates-is)
          (candidate_more c.args.book.now c.args.chosen.now c.loop-number.number c.loop-number.candidates.items c.rule-rule.result.now c.rule-rule.ensures c.loop-number.invariant _
          (c.has.ensures.0 w.if-has.true) w.in_ok-push.ensures.items)
      | else-has w ↦ subst P (sym w.candidates-is)
          (candidate_skipped c.args.book.now c.args.chosen.now c.loop-number.number c.loop-number.candidates.items c.rule-rule.result.now c.rule-rule.ensures c.loop-number.invariant
          (failed _ _ c.has.ensures w.if-has.false))
    ]
