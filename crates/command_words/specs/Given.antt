-- The options of the code, and what the words and their values have to be for it.
use Rattle.std.specs.Prelude.{◌≡◌, ◌++◌, ℕ, Bool, List, Option, None, Some, codes}
use Rattle.std.specs.Str.{IsUtf8}
use Rattle.command_words.specs.Commands.{LfOptions, WritesWorkers, WritesBudget}
use Rattle.command_words.specs.declared.Opts.{Opts}

-- the options of the code
abbrev pub options_of : Opts → LfOptions
options_of opts = record { workers = opts.workers; budget = opts.budget; trace = opts.trace }

-- The word begins with these bytes.
abbrev pub Begins : List ℕ → List ℕ → Type 0
Begins front word = (rest : List ℕ) × (word ≡ front ++ rest)

-- The word is the name of an option.
pub data IsOption (word : List ℕ) : Type 0 where
  trace_word : word ≡ codes "--trace" → IsOption word
  workers_word : word ≡ codes "--workers" → IsOption word
  budget_word : word ≡ codes "--budget" → IsOption word

-- The word is an option with its value.
pub data IsJoined (word : List ℕ) : Type 0 where
  workers_value : Begins (codes "--workers=") word → IsJoined word
  budget_value : Begins (codes "--budget=") word → IsJoined word

-- The word begins with no hyphen, or has one of the forms of options.
pub data IsListed (word : List ℕ) : Type 0 where
  plain_word : (Begins (codes "-") word → ⊥) → IsListed word
  option_word : IsOption word → IsListed word
  joined_word : IsJoined word → IsListed word

-- The word is a text of a listed form.
abbrev pub IsReadable : List ℕ → Type 0
IsReadable word = IsUtf8 word × IsListed word

-- The word of `--workers` gives the number; where there is none it is 4.
abbrev pub GivenWorkers : Option (List ℕ) → ℕ → Type 0
GivenWorkers None n = n ≡ 4
GivenWorkers (Some word) n = WritesWorkers word n

-- The word of `--budget` gives the number; where there is none it is 1,000.
abbrev pub GivenBudget : Option (List ℕ) → ℕ → Type 0
GivenBudget None n = n ≡ 1000
GivenBudget (Some word) n = WritesBudget word n

-- The values of the options give these options.
pub record GivesOptions (workers_value budget_value : Option (List ℕ)) (trace : Bool) (options : LfOptions) : Type 0 where
  pub workers : GivenWorkers workers_value options.workers
  pub budget : GivenBudget budget_value options.budget
  pub shows : options.trace ≡ trace
