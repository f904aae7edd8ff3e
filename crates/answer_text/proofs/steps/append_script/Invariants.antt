use Rattle.proof_replay.specs.Seen.{seen_step}
use Rattle.answer_text.specs.Texts.{step_text}
use Rattle.answer_text.proofs.Pieces.{Written}
use Rattle.answer_text.proofs.steps.append_script.Given as goal

abbrev pub invariant-loop-step : goal.invariant-loop-step
invariant-loop-step l = Written (λ step. step_text l.rules (seen_step step)) l.script l.step-index l.initial.out l.out
