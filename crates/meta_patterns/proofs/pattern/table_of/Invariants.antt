use Rattle.meta_patterns.proofs.Tables.{TableSoFar}
use Rattle.meta_patterns.proofs.pattern.table_of.Given as goal

abbrev pub invariant-loop-i : goal.invariant-loop-i
invariant-loop-i l = TableSoFar l.numbers l.i l.table.items
