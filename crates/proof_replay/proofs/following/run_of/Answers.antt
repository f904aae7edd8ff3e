use Rattle.std.proofs.Common.{sym, ap, ◌∙◌, refl}
use Rattle.lf_definitions.specs.GoalLists.{all_goals}
use Rattle.derivations.specs.Replays.{goals_left_after}
use Rattle.derivations.proofs.Scripts.{has_none-empty, goals_are_left}
use Rattle.meta_goals.specs.GoalsOf.{goals_of}
use Rattle.proof_replay.proofs.following.run_of.Goals as goal

pub returns-then-is_empty : goal.returns-then-is_empty
returns-then-is_empty c = (refl, has_none-empty (all_goals (goals_of c.args.trail.list)) (sym c.is_empty.ensures ∙ c.if-is_empty.true))

pub returns : goal.returns
returns c = λ sig rules a t.
    goals_are_left sig rules a (goals_of c.args.trail.list) t c.args.count (sym c.is_empty.ensures ∙ c.if-is_empty.false) ∙ ap goals_left_after (sym c.in_ok-count.ensures)
