use Rattle.lf_terms.specs.Terms.{spine_of}
use Rattle.rule_index.proofs.Levels.{WalksTo}
use Rattle.rule_index.proofs.tree.walk.Given as goal

abbrev pub invariant-loop-level : goal.invariant-loop-level
invariant-loop-level l = WalksTo l.nodes l.root (spine_of l.args) l.levels l.level l.initial.places.items l.places.items l.numbers.items
