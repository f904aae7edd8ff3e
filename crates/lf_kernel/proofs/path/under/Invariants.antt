use Rattle.std.proofs.Common.{◌≡◌, ◌++◌, replicate}
use Rattle.lf_kernel.proofs.path.under.Given as goal

abbrev pub invariant-loop : goal.invariant-loop
invariant-loop l = l.path ≡ l.fn.path ++ replicate l.counter 0
