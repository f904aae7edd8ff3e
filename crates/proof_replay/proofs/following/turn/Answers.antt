use Rattle.std.proofs.Common.{sym, ap, ◌∙◌, refl}
use Rattle.derivations.specs.Replays.{steps_left, no_such_step}
use Rattle.proof_replay.specs.declared.replayed.Replayed.TheVariants.{NoSuchStep, StepsLeft}
use Rattle.proof_replay.specs.Seen.{seen_step}
use Rattle.proof_replay.proofs.Scripts.{no_goal_before, not_found, goes_on}
use Rattle.proof_replay.proofs.following.turn.Goals as goal

pub returns-then-is_empty : goal.returns-then-is_empty
returns-then-is_empty c =
    no_goal_before c.args.book.now (seen_step c.args.step.now) c.args.number c.args.trail.now (StepsLeft c.in_ok-number.number) c.args.trail.now (sym c.is_empty.ensures ∙ c.if-is_empty.true)
    (ap steps_left c.in_ok-number.ensures)

pub returns-in-None : goal.returns-in-None
returns-in-None c =
    not_found c.args.book.now (seen_step c.args.step.now) c.args.number c.args.trail.now (NoSuchStep c.in_ok-number.number) c.args.trail.now (sym c.is_empty.ensures ∙ c.if-is_empty.false) (ap no_such_step c.in_ok-number.ensures)
    c.in_ok-found.found c.in-None.is c.in_ok-found.ensures.found

pub returns-in_ok-push-in-Some : goal.returns-in_ok-push-in-Some
returns-in_ok-push-in-Some c =
    goes_on c.args.book.now (seen_step c.args.step.now) c.args.number c.args.trail.now _ c.requires.book c.requires.shaped (sym c.is_empty.ensures ∙ c.if-is_empty.false) c.in_ok-found.found c.in-Some.next c.in-Some.is
    c.in_ok-found.ensures.found c.in_ok-found.ensures.shapes c.in_ok-push-in-Some.ensures.items refl
