use Rattle.std.proofs.Common.{◌≡◌, List, All, map, take}
use Rattle.lf_definitions.specs.Typing.{LfGoal}
use Rattle.proof_replay.specs.Putting.{seen_final, put_into, CanEnd}
use Rattle.proof_replay.proofs.putting.final_entries.Given as goal

abbrev pub invariant-loop-place : goal.invariant-loop-place
invariant-loop-place l = (goals : List LfGoal) → All (CanEnd goals l.finals) l.build → map seen_final l.entries.items ≡ map (put_into goals l.finals) (take l.place l.build)
