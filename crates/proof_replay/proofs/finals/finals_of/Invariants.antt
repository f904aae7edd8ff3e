use Rattle.std.proofs.Common.{◌-◌, length, drop}
use Rattle.proof_replay.proofs.WholeTables.{AllFinals}
use Rattle.proof_replay.proofs.finals.finals_of.Given as goal

abbrev pub invariant-loop-i : goal.invariant-loop-i
invariant-loop-i l = AllFinals (drop (length l.builds - l.i) l.builds) l.finals
