use Rattle.std.proofs.Common.{◌≡◌, take}
use Rattle.rule_index.specs.Keys.{keyed_rules}
use Rattle.rule_index.proofs.index.Index.build.Given as goal

abbrev pub invariant-loop-number : goal.invariant-loop-number
invariant-loop-number l = l.index ≡ keyed_rules l.sig l.rules (take l.number-index l.numbers)
