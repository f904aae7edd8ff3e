-- What was taken so far is at most the limit, and the count of faults has not fallen. Each turn takes at least one byte.
use Rattle.std.proofs.Common.{◌≡◌, ◌≤◌, ◌-◌, length}
use Rattle.std.specs.Io.KnownBytes.{Consumes}
use Rattle.run_io.proofs.reading.read_all.Given as goal

abbrev pub invariant-loop-taken : goal.invariant-loop-taken
invariant-loop-taken g l = record {
  room : length l.room.items ≡ length l.initial.room.items;
  within : length l.taken ≤ l.limit;
  gave : Consumes (g.S.Source.left l.initial.source) (g.S.Source.left l.source) l.taken;
  later : g.S.Source.faults l.initial.source ≤ g.S.Source.faults l.source;
}

abbrev pub decreases-loop-taken : goal.decreases-loop-taken
decreases-loop-taken g l = l.limit - length l.taken
