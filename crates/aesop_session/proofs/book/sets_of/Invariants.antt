use Rattle.std.proofs.Common.{map, take}
use Rattle.rule_sets.specs.declared.rule.Rule.{Rule}
use Rattle.aesop_session.proofs.RuleSets.{HaveSameNames}
use Rattle.aesop_session.proofs.book.sets_of.Given as goal

abbrev pub invariant-loop-number : goal.invariant-loop-number
invariant-loop-number l = HaveSameNames l.sets (map (λ (rule : Rule). rule.set) (take l.number l.rules.rules))
