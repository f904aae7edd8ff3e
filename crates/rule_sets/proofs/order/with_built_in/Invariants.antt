use Rattle.std.proofs.Common.{◌≡◌, ◌↔◌, ◌⊎◌, List, ℕ, take}
use Rattle.std.specs.Prelude.{Contains, codes}
use Rattle.rule_sets.proofs.order.with_built_in.Given as goal

abbrev pub invariant-loop-set : goal.invariant-loop-set
invariant-loop-set l = (name : List ℕ) → Contains l.names name ↔ (Contains (take l.set-index l.items) name ⊎ (name ≡ codes "builtin"))
