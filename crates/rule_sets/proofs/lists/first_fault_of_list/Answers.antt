use Rattle.std.proofs.Common.{◌∙◌, subst, List, ℕ, take_all}
use Rattle.rule_sets.specs.Refusals.{AreConstructors}
use Rattle.rule_sets.proofs.Tested.{failed}
use Rattle.rule_sets.proofs.Constructors.{repeated_here, other_here, good_more, passed_more, was_seen, was_unseen}
use Rattle.rule_sets.proofs.lists.first_fault_of_list.Goals as goal

pub returns-then-not-is_new : goal.returns-then-not-is_new
returns-then-not-is_new c =
    repeated_here c.args.sig.now c.args.family c.as_slice-items.result.now c.args.constants.now c.loop-i.i c.loop-i.passed.keys c.as_slice-items.ensures c.loop-i-test.true
    c.loop-i.invariant.passed_are c.loop-i.invariant.good (was_seen _ _ c.in_ok-is_new.ensures.added c.if-not-is_new.true)

pub returns-then-not-has_family : goal.returns-then-not-has_family
returns-then-not-has_family c =
    other_here c.args.sig.now c.args.family c.as_slice-items.result.now c.args.constants.now c.loop-i.i c.loop-i.passed.keys c.as_slice-items.ensures c.loop-i-test.true
    c.loop-i.invariant.passed_are c.loop-i.invariant.good (was_unseen _ _ c.in_ok-is_new.ensures.added c.if-not-is_new.false)
    (failed _ _ c.has_family.ensures c.if-not-has_family.true)

pub loop-i-preserved : goal.loop-i-preserved
loop-i-preserved c =
    let missing = was_unseen _ _ c.in_ok-is_new.ensures.added c.if-not-is_new.false in
    record {
      passed_are = passed_more c.args.sig.now c.args.family c.as_slice-items.result.now c.args.constants.now c.loop-i.i c.loop-i.passed.keys c.as_slice-items.ensures c.loop-i-test.true
          c.loop-i.invariant.passed_are c.loop-i.invariant.good _ missing c.in_ok-is_new.ensures.keys;
      good = good_more c.args.sig.now c.args.family c.as_slice-items.result.now c.args.constants.now c.loop-i.i c.loop-i.passed.keys c.as_slice-items.ensures c.loop-i-test.true
          c.loop-i.invariant.passed_are c.loop-i.invariant.good missing (c.has_family.ensures.0 c.if-not-has_family.false);
    }

pub returns : goal.returns
returns c =
    let P : List ℕ → Type 0 = AreConstructors c.args.sig.now c.args.family in
    subst P (take_all c.loop-i.i c.as_slice-items.result.now c.loop-i-test.false ∙ c.as_slice-items.ensures) c.loop-i.invariant.good
