use Rattle.std.proofs.Common.{map}
use Rattle.rule_index.specs.Keys.{is_compatible}
use Rattle.rule_index.specs.Stored.{keyed, target_atom}
use Rattle.rule_index.proofs.Picking.{HasPicked}
use Rattle.rule_index.proofs.index.pick.Given as goal

abbrev pub invariant-loop-place : goal.invariant-loop-place
invariant-loop-place l = HasPicked (λ rule. is_compatible rule.key (target_atom l.target)) (map keyed l.entries) l.places l.place-index l.passed l.numbers
