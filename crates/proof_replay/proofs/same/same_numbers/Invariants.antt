use Rattle.std.proofs.Common.{◌≡◌, drop}
use Rattle.std.specs.Prelude.{nat_eq}
use Rattle.proof_replay.proofs.Places.{pairwise}
use Rattle.proof_replay.proofs.same.same_numbers.Given as goal

abbrev pub invariant-loop-i : goal.invariant-loop-i
invariant-loop-i l = pairwise nat_eq l.numbers l.others ≡ pairwise nat_eq (drop l.i l.numbers) (drop l.i l.others)
