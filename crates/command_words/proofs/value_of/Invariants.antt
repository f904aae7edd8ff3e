-- What holds in the loop over the digits.
use Rattle.std.proofs.Common.{◌≡◌, ◌<◌, ◌^◌, take}
use Rattle.command_words.specs.Commands.{number_of}
use Rattle.command_words.proofs.value_of.Given as goal

abbrev pub invariant-loop-digit : goal.invariant-loop-digit
invariant-loop-digit l = record { value : l.number ≡ number_of (take l.digit-index l.word); small : l.number < 10 ^ l.digit-index }
