use Rattle.answer_text.specs.Texts.{number_text}
use Rattle.answer_text.proofs.Pieces.{Written}
use Rattle.answer_text.proofs.numerals.append_numbers.Given as goal

abbrev pub invariant-loop-number : goal.invariant-loop-number
invariant-loop-number l = Written number_text l.numbers l.number-index l.initial.out l.out
