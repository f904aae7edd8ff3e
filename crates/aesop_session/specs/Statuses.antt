-- The number of each status.
use Rattle.std.specs.Prelude.{ℕ}
use Rattle.aesop_session.specs.declared.status.Status.{Status}
use Rattle.aesop_session.specs.declared.status.Status.TheVariants.{AllProved, SomeStuck, SomeSpent, FileRefused, Usage, TooLong, ReadFault, WriteFault, NoMemory, AnswersRefused}

abbrev pub code_of : Status → ℕ
code_of AllProved = 0
code_of SomeStuck = 1
code_of SomeSpent = 2
code_of FileRefused = 3
code_of Usage = 4
code_of TooLong = 5
code_of ReadFault = 6
code_of WriteFault = 7
code_of NoMemory = 8
code_of AnswersRefused = 9
