-- The words of a command line.
use Rattle.std.specs.Prelude.{◌≡◌, ℕ, ◌+◌, ◌*◌, ◌-◌, ◌≤◌, Bool, true, false, List, [], ◌∷◌, ◌++◌, codes, length, All, fold}

-- The options of a search: how many workers there are (none: the caller searches alone), how many nodes are expanded at most, and whether the events of proved theorems are shown.
pub record LfOptions : Type 0 where
  pub workers : ℕ
  pub budget : ℕ
  pub trace : Bool

-- the codes of 0 to 9
abbrev pub IsDigit : ℕ → Type 0
IsDigit c = (48 ≤ c) × (c ≤ 57)

-- the number that digits write
abbrev pub number_of : List ℕ → ℕ
number_of digits = fold (λ n c. 10 * n + (c - 48)) 0 digits

-- One to five digits write a number; leading zeros are fine.
pub record WritesNumber (word : List ℕ) (n : ℕ) : Type 0 where
  pub digits : All IsDigit word
  pub some : 1 ≤ length word
  pub few : length word ≤ 5
  pub number : n ≡ number_of word

-- The number is one of workers: at most 64.
pub record WritesWorkers (word : List ℕ) (n : ℕ) : Type 0 where
  pub writes : WritesNumber word n
  pub most : n ≤ 64

-- The number is a budget: from 1 to 50,000.
pub record WritesBudget (word : List ℕ) (n : ℕ) : Type 0 where
  pub writes : WritesNumber word n
  pub some : 1 ≤ n
  pub most : n ≤ 50000

-- `--workers N` or `--workers=N`, or no such words and then 4.
pub data GivesWorkers : List (List ℕ) → ℕ → Type 0 where
  usual_workers : GivesWorkers [] 4
  workers_apart : (word : List ℕ) (n : ℕ) → WritesWorkers word n → GivesWorkers (codes "--workers" ∷ word ∷ []) n
  workers_joined : (word : List ℕ) (n : ℕ) → WritesWorkers word n → GivesWorkers ((codes "--workers=" ++ word) ∷ []) n

-- `--budget N` or `--budget=N`, or no such words and then 1,000.
pub data GivesBudget : List (List ℕ) → ℕ → Type 0 where
  usual_budget : GivesBudget [] 1000
  budget_apart : (word : List ℕ) (n : ℕ) → WritesBudget word n → GivesBudget (codes "--budget" ∷ word ∷ []) n
  budget_joined : (word : List ℕ) (n : ℕ) → WritesBudget word n → GivesBudget ((codes "--budget=" ++ word) ∷ []) n

-- `--trace` shows the events of proved theorems.
pub data GivesTrace : List (List ℕ) → Bool → Type 0 where
  no_trace : GivesTrace [] false
  given_trace : GivesTrace (codes "--trace" ∷ []) true

-- The words are three groups one after the other, in any of their six orders.
pub data InSomeOrder (a b c : List (List ℕ)) : List (List ℕ) → Type 0 where
  abc : InSomeOrder a b c (a ++ b ++ c)
  acb : InSomeOrder a b c (a ++ c ++ b)
  bac : InSomeOrder a b c (b ++ a ++ c)
  bca : InSomeOrder a b c (b ++ c ++ a)
  cab : InSomeOrder a b c (c ++ a ++ b)
  cba : InSomeOrder a b c (c ++ b ++ a)

-- The words are the command that proves a file: `prove`, and then each option at most once, in any order.
pub record IsProve (words : List (List ℕ)) (options : LfOptions) : Type 0 where
  pub rest : List (List ℕ)
  pub words_are : words ≡ codes "prove" ∷ rest
  pub workers_words : List (List ℕ)
  pub budget_words : List (List ℕ)
  pub trace_words : List (List ℕ)
  pub order : InSomeOrder workers_words budget_words trace_words rest
  pub workers : GivesWorkers workers_words options.workers
  pub budget : GivesBudget budget_words options.budget
  pub trace : GivesTrace trace_words options.trace

-- The words are such a command, with some options.
abbrev pub IsProveCommand : List (List ℕ) → Type 0
IsProveCommand words = (options : LfOptions) × IsProve words options
