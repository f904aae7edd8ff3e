use Rattle.build_shared.specs.Seen.{seen_label}
use Rattle.answer_text.specs.Texts.{norm_text}
use Rattle.answer_text.proofs.Pieces.{Written}
use Rattle.answer_text.proofs.steps.append_norm.Given as goal

abbrev pub invariant-loop-label : goal.invariant-loop-label
invariant-loop-label l = Written (λ label. norm_text l.rules (seen_label label)) l.labels l.label-index l.initial.out l.out
