use Rattle.std.proofs.Common.{◌≡◌, ◌++◌, take}
use Rattle.build_shared.specs.Whole.{bindings_below}
use Rattle.build_shared.proofs.below.add_below.Given as goal

abbrev pub invariant-loop-place : goal.invariant-loop-place
invariant-loop-place l = l.below ≡ l.fn.below ++ bindings_below l.first (take l.place l.entries)
