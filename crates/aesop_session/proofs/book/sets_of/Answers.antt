use Rattle.std.proofs.Common.{arith}
use Rattle.aesop_session.proofs.RuleSets.{set_added, all_sets}
use Rattle.aesop_session.proofs.book.sets_of.Goals as goal

pub loop-number-preserved : goal.loop-number-preserved
loop-number-preserved c = set_added _ _ _ _ _ (omega arith) c.rule-rule.ensures c.loop-number.invariant c.in_ok-add_set.ensures

pub returns : goal.returns
returns c = all_sets _ _ _ (omega arith) c.loop-number.invariant
