-- What holds in the loop over the words.
use Rattle.std.proofs.Common.{◌≡◌, map, take}
use Rattle.std.specs.Prelude.{All}
use Rattle.command_words.specs.Given.{IsListed}
use Rattle.command_words.proofs.listed_texts.Given as goal

abbrev pub invariant-loop-word : goal.invariant-loop-word
invariant-loop-word l = record { same : map (λ text. text.now) l.texts.items ≡ take l.word-index l.words; listed : All IsListed (take l.word-index l.words) }
