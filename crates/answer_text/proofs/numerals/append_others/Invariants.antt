use Rattle.answer_text.specs.Parts.{other_text}
use Rattle.answer_text.proofs.Pieces.{Written}
use Rattle.answer_text.proofs.numerals.append_others.Given as goal

abbrev pub invariant-loop-number : goal.invariant-loop-number
invariant-loop-number l = Written other_text l.numbers l.number-index l.initial.out l.out
