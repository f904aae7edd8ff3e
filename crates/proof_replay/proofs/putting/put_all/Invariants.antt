use Rattle.std.proofs.Common.{◌≡◌, length, map}
use Rattle.std.specs.Vec.Iter.{into_iter_items, into_iter_len}
use Rattle.proof_replay.specs.Putting.{seen_final, all_again}
use Rattle.proof_replay.proofs.putting.put_all.Given as goal

abbrev pub invariant-loop-last : goal.invariant-loop-last
invariant-loop-last l = record {
  items : all_again l.finals (map seen_final (into_iter_items l.last-iterator)) ≡ all_again l.initial.finals (map seen_final l.fn.entries.items);
  count : into_iter_len l.last-iterator ≡ length (into_iter_items l.last-iterator);
}
