-- The top calls, and which commands each serves.
use Rattle.std.specs.Prelude.{◌≡◌, ℕ, List}
use Rattle.command_words.specs.Commands.{LfOptions, IsProve}

-- One call searches in the caller alone, and the other with any number of workers.
pub data LfCall : Type 0 where
  still_call : LfCall
  every_call : LfCall

-- The words are a command that the call serves, with these options.
abbrev pub IsServed : LfCall → List (List ℕ) → LfOptions → Type 0
IsServed still_call words options = IsProve words options × (options.workers ≡ 0)
IsServed every_call words options = IsProve words options

-- The words are such a command, with some options.
abbrev pub IsServedCommand : LfCall → List (List ℕ) → Type 0
IsServedCommand call words = (options : LfOptions) × IsServed call words options

-- The words are the command that proves a file with no workers.
abbrev pub IsStillCommand : List (List ℕ) → Type 0
IsStillCommand words = IsServedCommand still_call words
