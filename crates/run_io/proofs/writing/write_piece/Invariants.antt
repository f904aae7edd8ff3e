-- The sink took what is gone from `rest`, and neither count fell. Each turn takes at least one byte.
use Rattle.std.proofs.Common.{◌≡◌, ◌≤◌, List, [], ℕ, ◌++◌, length}
use Rattle.std.specs.Io.KnownBytes.{Appends}
use Rattle.run_io.proofs.writing.write_piece.Given as goal

abbrev pub invariant-loop-rest : goal.invariant-loop-rest
invariant-loop-rest g l = record {
  done : List ℕ;
  split : done ++ l.rest ≡ l.bytes;
  taken : Appends (g.K.Sink.held l.initial.sink) (g.K.Sink.held l.sink) done;
  idle : l.bytes ≡ [] → l.sink ≡ l.initial.sink;
  faults : g.K.Sink.faults l.initial.sink ≤ g.K.Sink.faults l.sink;
  zeros : g.K.Sink.zeros l.initial.sink ≤ g.K.Sink.zeros l.sink;
}

abbrev pub decreases-loop-rest : goal.decreases-loop-rest
decreases-loop-rest g l = length l.rest
