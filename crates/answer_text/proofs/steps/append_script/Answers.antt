use Rattle.proof_replay.specs.Seen.{seen_step}
use Rattle.answer_text.specs.Texts.{step_text}
use Rattle.answer_text.specs.Writable.{StepNamesRules}
use Rattle.answer_text.proofs.Pieces.{all_seen_written, seen_at}
use Rattle.answer_text.proofs.steps.append_script.Goals as goal

pub append_step-requires : goal.append_step-requires
append_step-requires c =
    seen_at (StepNamesRules c.args.rules.now) seen_step c.args.script.now c.loop-step.step-index c.step-item.result c.loop-step-test.true c.step-item.is c.requires

pub returns-clause-ok : goal.returns-clause-ok
returns-clause-ok c = all_seen_written (step_text c.args.rules.now) seen_step c.args.script.now c.loop-step.step-index _ _ c.loop-step-test.false c.loop-step.invariant
