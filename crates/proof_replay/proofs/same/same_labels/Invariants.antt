use Rattle.std.proofs.Common.{◌≡◌, drop}
use Rattle.proof_replay.proofs.Places.{pairwise, labels_test}
use Rattle.proof_replay.proofs.same.same_labels.Given as goal

abbrev pub invariant-loop-i : goal.invariant-loop-i
invariant-loop-i l = pairwise labels_test l.labels l.others ≡ pairwise labels_test (drop l.i l.labels) (drop l.i l.others)
