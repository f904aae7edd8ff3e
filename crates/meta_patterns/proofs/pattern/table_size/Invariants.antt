use Rattle.std.proofs.Common.{◌≤◌, take, All}
use Rattle.meta_patterns.proofs.pattern.table_size.Given as goal

abbrev pub invariant-loop-i : goal.invariant-loop-i
invariant-loop-i l = All (λ n. n ≤ l.greatest) (take l.i l.numbers)
