use Rattle.rule_sets.specs.Refusals.{taken, full, percent, no_constant, bad_major, premises}
use Rattle.rule_sets.proofs.Tested.{failed}
use Rattle.rule_sets.proofs.faults.first_fault.Goals as goal

pub returns-then-is_taken : goal.returns-then-is_taken
returns-then-is_taken c = taken (c.is_taken.ensures.0 c.if-is_taken.true)

pub returns-then-is_full : goal.returns-then-is_full
returns-then-is_full c = full (failed _ _ c.is_taken.ensures c.if-is_taken.false) (c.is_full.ensures.0 c.if-is_full.true)

pub returns-then-is_no_percent : goal.returns-then-is_no_percent
returns-then-is_no_percent c = percent (failed _ _ c.is_taken.ensures c.if-is_taken.false) (failed _ _ c.is_full.ensures c.if-is_full.false) (c.is_no_percent.ensures.0 c.if-is_no_percent.true)

pub returns-then-has_no_subject : goal.returns-then-has_no_subject
returns-then-has_no_subject c = no_constant (failed _ _ c.is_taken.ensures c.if-is_taken.false) (failed _ _ c.is_full.ensures c.if-is_full.false) (failed _ _ c.is_no_percent.ensures c.if-is_no_percent.false) (c.has_no_subject.ensures.0 c.if-has_no_subject.true)

pub returns-then-is_bad_major : goal.returns-then-is_bad_major
returns-then-is_bad_major c = bad_major (failed _ _ c.is_taken.ensures c.if-is_taken.false) (failed _ _ c.is_full.ensures c.if-is_full.false) (failed _ _ c.is_no_percent.ensures c.if-is_no_percent.false) (failed _ _ c.has_no_subject.ensures c.if-has_no_subject.false) (c.is_bad_major.ensures.0 c.if-is_bad_major.true)

pub returns-then-branch : goal.returns-then-branch
returns-then-branch c = premises (failed _ _ c.is_taken.ensures c.if-is_taken.false) (failed _ _ c.is_full.ensures c.if-is_full.false) (failed _ _ c.is_no_percent.ensures c.if-is_no_percent.false) (failed _ _ c.has_no_subject.ensures c.if-has_no_subject.false) (failed _ _ c.is_bad_major.ensures c.if-is_bad_major.false) (c.in_ok-has_bad_premises.ensures.0 c.if-branch.true)
