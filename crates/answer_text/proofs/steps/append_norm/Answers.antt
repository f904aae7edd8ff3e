use Rattle.build_shared.specs.Seen.{seen_label}
use Rattle.answer_text.specs.Texts.{norm_text}
use Rattle.answer_text.specs.Writable.{NamesRule}
use Rattle.answer_text.proofs.Pieces.{all_seen_written, seen_at}
use Rattle.answer_text.proofs.steps.append_norm.Goals as goal

pub append_called-requires : goal.append_called-requires
append_called-requires c =
    seen_at (NamesRule c.args.rules.now) seen_label c.args.labels.now c.loop-label.label-index c.label-item.result c.loop-label-test.true c.label-item.is c.requires

pub returns-clause-ok : goal.returns-clause-ok
returns-clause-ok c = all_seen_written (norm_text c.args.rules.now) seen_label c.args.labels.now c.loop-label.label-index _ _ c.loop-label-test.false c.loop-label.invariant
