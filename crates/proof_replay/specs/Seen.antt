-- Steps of the code, and what comes of a script, seen as plain data.
use Rattle.std.specs.Prelude.{map}
use Rattle.lf_terms.specs.Terms.{term_of}
use Rattle.derivations.specs.Replays.{LfStep, LfReplayed, closed, no_such_step, steps_left, goals_left_after}
use Rattle.build_shared.specs.Seen.{seen_label}
use Rattle.goal_expand.specs.Seen.{seen_last}
use Rattle.proof_replay.specs.declared.step.Step.{Step}
use Rattle.proof_replay.specs.declared.replayed.Replayed.{Replayed}
use Rattle.proof_replay.specs.declared.replayed.Replayed.TheVariants.{Closed, NoSuchStep, StepsLeft, GoalsLeft}

abbrev pub seen_step : Step → LfStep
seen_step s = record { norm = map seen_label s.norm.items; last = seen_last s.last }

abbrev pub seen_replayed : Replayed → LfReplayed
seen_replayed (Closed t) = closed (term_of t)
seen_replayed (NoSuchStep k) = no_such_step k
seen_replayed (StepsLeft k) = steps_left k
seen_replayed (GoalsLeft k) = goals_left_after k
