use Rattle.std.proofs.Common.{◌≡◌, take}
use Rattle.goal_advance.proofs.copying.copied.Given as goal

abbrev pub invariant-loop-place : goal.invariant-loop-place
invariant-loop-place l = l.all ≡ take l.place l.assign
