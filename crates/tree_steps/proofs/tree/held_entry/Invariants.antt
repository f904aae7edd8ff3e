use Rattle.std.proofs.Common.{◌≡◌, ◌==◌, take, false}
use Rattle.std.specs.List.{list_any}
use Rattle.tree_steps.proofs.tree.held_entry.Given as goal

abbrev pub invariant-loop-holding : goal.invariant-loop-holding
invariant-loop-holding l = list_any (λ holding. holding.seat == l.seat) (take l.holding-index l.held) ≡ false
