use Rattle.std.proofs.Common.{◌≡◌, drop}
use Rattle.lf_terms.specs.Terms.{spine_of}
use Rattle.rule_index.specs.Keys.{all_allow}
use Rattle.rule_index.specs.Stored.{args_from}
use Rattle.rule_index.proofs.key.all_allow.Given as goal

abbrev pub invariant-loop-i : goal.invariant-loop-i
invariant-loop-i l = all_allow (drop l.i l.constants) (args_from l.i (spine_of l.args)) ≡ all_allow l.constants (spine_of l.args)
