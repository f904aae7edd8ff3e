-- What the top calls answer: each status, with what was read and written.
use Rattle.std.specs.Prelude.{◌≡◌, ℕ, ◌<◌, ◌≤◌, ◌⊎◌, length, List, codes, Option}
use Rattle.std.specs.Io.KnownBytes.{Keeps, Appends}
use Rattle.basics.specs.Limits.{most_input}
use Rattle.run_io.specs.Moves.{TakesAll, TakesAtMost, TakesMoreThan, AppendsPrefix}
use Rattle.file_elab.specs.Programs.{LfProgram}
use Rattle.aesop_session.specs.declared.refusal.RefusalKind.{RefusalKind}
use Rattle.aesop_session.specs.declared.status.Status.{Status}
use Rattle.aesop_session.specs.declared.status.Status.TheVariants.{AllProved, SomeStuck, SomeSpent, FileRefused, Usage, TooLong, ReadFault, WriteFault, NoMemory}
use Rattle.command_words.specs.Commands.{LfOptions}
use Rattle.aesop_session.specs.Calls.{LfCall, IsServed, IsServedCommand}
use Rattle.answer_text.specs.Texts.{line}
use Rattle.aesop_session.specs.Documents.{IsDocument}
use Rattle.aesop_session.specs.Refusals.{IsAccepted, RefusesText, IsRefusedAs}

abbrev pub usage_line : List ℕ
usage_line = line (codes "usage: aesop prove [--workers N] [--budget N] [--trace] | check | gen N | big N")

abbrev pub too_long_line : List ℕ
too_long_line = line (codes "refused: input too long")

-- What was read is accepted, with this program.
abbrev pub TakesProgram : (left later : Option (List ℕ)) → LfProgram → Type 0
TakesProgram left later program = (input : List ℕ) × TakesAll left later input × (length input ≤ most_input) × IsAccepted input program

-- What was read is accepted, and the text is a document for its program.
pub record AnswersFile (options : LfOptions) (left later : Option (List ℕ)) (status : Status) (text : List ℕ) : Type 0 where
  pub program : LfProgram
  pub taken : TakesProgram left later program
  pub document : IsDocument program options status text

-- The words are a command that the call serves, with some options, and the text is a document for it.
abbrev pub ProvesFile : LfCall → List (List ℕ) → (left later : Option (List ℕ)) → Status → (text : List ℕ) → Type 0
ProvesFile call words left later status text = (options : LfOptions) × IsServed call words options × AnswersFile options left later status text

-- What was read is refused, and the text is the line that says so.
abbrev pub RefusesFile : (left later : Option (List ℕ)) → (text : List ℕ) → Type 0
RefusesFile left later text = (input : List ℕ) × TakesAll left later input × (length input ≤ most_input) × IsRefusedAs input text

-- The text is the whole answer of this status to the words by the call, where the source had the one left before and has
-- the other left after.
abbrev pub IsWholeAnswer : LfCall → List (List ℕ) → Option (List ℕ) → Option (List ℕ) → Status → List ℕ → Type 0
IsWholeAnswer call words left later AllProved text = ProvesFile call words left later AllProved text
IsWholeAnswer call words left later SomeStuck text = ProvesFile call words left later SomeStuck text
IsWholeAnswer call words left later SomeSpent text = ProvesFile call words left later SomeSpent text
IsWholeAnswer call words left later FileRefused text = IsServedCommand call words × RefusesFile left later text
IsWholeAnswer call words left later TooLong text = IsServedCommand call words × TakesMoreThan most_input left later × (text ≡ too_long_line)
IsWholeAnswer call words left later Usage text = (IsServedCommand call words → ⊥) × Keeps left later × (text ≡ usage_line)
IsWholeAnswer call words left later _ text = ⊥

-- The sink took a prefix of the whole answer of some status.
abbrev pub TakesPrefix : LfCall → List (List ℕ) → (left later held after : Option (List ℕ)) → Type 0
TakesPrefix call words left later held after = (status : Status) × (text : List ℕ) × IsWholeAnswer call words left later status text × AppendsPrefix held after text

-- What each status says of the source and the sink. Where memory ran out, nothing was read and nothing written, or nothing was written, or a prefix of an answer.
abbrev pub Answered : LfCall → List (List ℕ) → (left later held after : Option (List ℕ)) → Status → Type 0
Answered call words left later held after ReadFault = IsServedCommand call words × TakesAtMost most_input left later × Keeps held after
Answered call words left later held after WriteFault = TakesPrefix call words left later held after
Answered call words left later held after NoMemory =
    (Keeps left later × Keeps held after)
    ⊎ ((IsServedCommand call words × TakesAtMost most_input left later × Keeps held after) ⊎ TakesPrefix call words left later held after)
Answered call words left later held after status = (text : List ℕ) × IsWholeAnswer call words left later status text × Appends held after text

-- The file was answered, or memory ran out.
abbrev pub Served : Status → Type 0
Served AllProved = Unit {0}
Served SomeStuck = Unit {0}
Served SomeSpent = Unit {0}
Served NoMemory = Unit {0}
Served _ = ⊥

-- The file was refused, or memory ran out.
abbrev pub Refused : Status → Type 0
Refused FileRefused = Unit {0}
Refused NoMemory = Unit {0}
Refused _ = ⊥

-- The input was too long, or memory ran out.
abbrev pub Overlong : Status → Type 0
Overlong TooLong = Unit {0}
Overlong NoMemory = Unit {0}
Overlong _ = ⊥

-- The status that the input must have where nothing fails.
pub record IsStatusFor (input : List ℕ) (status : Status) : Type 0 where
  -- a program is answered
  pub accepted : (program : LfProgram) → length input ≤ most_input → IsAccepted input program → Served status
  -- what is refused is said to be so
  pub refused : (place : ℕ) (kind : RefusalKind) → length input ≤ most_input → RefusesText input place kind → Refused status
  -- and so is what is too long
  pub overlong : most_input < length input → Overlong status
