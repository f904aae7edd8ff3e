use Rattle.std.proofs.Common.{sym, arith, refl}
use Rattle.meta_patterns.proofs.Readings.{from_outside-some, from_outside-none}
use Rattle.meta_patterns.proofs.reading.from_outside.Goals as goal
use Rattle.meta_patterns.proofs.reading.from_outside.Goals.{else-is_spine-via-then-is_spine+else-number-count, else-is_spine-via-else-is_spine}

pub returns-then-number-count : goal.returns-then-number-count
returns-then-number-count c = rw c.if-is_spine.true (sym (from_outside-some c.args.count c.args.number (omega (arith, c.if-number-count.true))))

pub returns-else-is_spine : goal.returns-else-is_spine
returns-else-is_spine c = elim c.else-is_spine.branch [
  | else-is_spine-via-then-is_spine+else-number-count w ↦ rw w.if-is_spine.true (sym (from_outside-none c.args.count c.args.number (omega (arith, w.if-number-count.false))))
  | else-is_spine-via-else-is_spine w ↦ rw w.if-is_spine.false refl
]
