-- Documents of right answers for a program.
use Rattle.std.specs.Prelude.{◌≡◌, ℕ, Bool, true, false, List, [], ◌∷◌, ◌++◌, map, flat_map, codes, decimal, Option, if◌then◌else◌}
use Rattle.std.specs.List.{list_any}
use Rattle.std.specs.Io.KnownBytes.{Appends}
use Rattle.run_io.specs.Moves.{AppendsPrefix}
use Rattle.lf_definitions.specs.Typing.{Formed}
use Rattle.lf_definitions.specs.Signatures.{kinds_in, typing_in}
use Rattle.file_elab.specs.Theorems.{LfTheorem}
use Rattle.file_elab.specs.Programs.{LfProgram}
use Rattle.goal_book.specs.GoalBooks.{LfBook, rules_in, IsBookOf}
use Rattle.answer_definitions.specs.Blocks.{LfVerdict, proved, stuck, spent, LfBlock}
use Rattle.answer_definitions.specs.Right.{IsRight}
use Rattle.answer_definitions.specs.Theorems.{SaysOfDerivations}
use Rattle.answer_text.specs.Texts.{line, block_text}
use Rattle.command_words.specs.Commands.{LfOptions}
use Rattle.theorem_search.specs.Answers.{IsAnswerOf}
use Rattle.aesop_session.specs.declared.status.Status.{Status}
use Rattle.aesop_session.specs.declared.status.Status.TheVariants.{AllProved, SomeStuck, SomeSpent}

abbrev pub first_line : ℕ → List ℕ
first_line budget = line (codes "aesop 1 budget " ++ decimal budget)

abbrev pub last_line : List ℕ
last_line = line (codes "end")

-- The book of a program: the rules of all its sets, in the order in which they are tried.
abbrev pub IsBookOfProgram : LfProgram → LfBook → Type 0
IsBookOfProgram program b = IsBookOf program.signature program.book (map (λ rule. rule.set) program.book.rules) b

-- The block is what so many workers answer for the theorem, and it is right: a theorem that is proved is derivable, and one that is stuck isn't.
pub record AnswersTheorem (b : LfBook) (options : LfOptions) (theorem : LfTheorem) (block : LfBlock) : Type 0 where
  pub answer : IsAnswerOf b.sig (rules_in b) theorem.type options.budget options.trace theorem.name options.workers block
  pub right : IsRight b.sig (rules_in b) options.budget theorem.type theorem.name block
  pub derivations : SaysOfDerivations b.sig (rules_in b) theorem.type block.verdict

-- One such block for each theorem, in order.
pub data AnswerTheorems (b : LfBook) (options : LfOptions) : List LfTheorem → List LfBlock → Type 0 where
  no_theorem : AnswerTheorems b options [] []
  one_theorem : (theorem : LfTheorem) (theorems : List LfTheorem) (block : LfBlock) (blocks : List LfBlock) → AnswersTheorem b options theorem block →
      AnswerTheorems b options theorems blocks → AnswerTheorems b options (theorem ∷ theorems) (block ∷ blocks)

abbrev pub is_spent : LfVerdict → Bool
is_spent (proved t script) = false
is_spent stuck = false
is_spent spent = true

abbrev pub is_stuck : LfVerdict → Bool
is_stuck (proved t script) = false
is_stuck stuck = true
is_stuck spent = false

-- the status of a document: whether a block is spent, or else whether one is stuck
abbrev pub status_of : List LfBlock → Status
status_of blocks =
    if list_any (λ block. is_spent block.verdict) blocks then SomeSpent
    else (if list_any (λ block. is_stuck block.verdict) blocks then SomeStuck else AllProved)

-- the text of some blocks, by the names of a book
abbrev pub blocks_text : LfBook → List LfBlock → List ℕ
blocks_text b blocks = flat_map (block_text b.sig b.book) blocks

-- The text is a document of the answers by a book for these theorems, with this status.
pub record IsDocumentBy (b : LfBook) (options : LfOptions) (theorems : List LfTheorem) (status : Status) (text : List ℕ) : Type 0 where
  pub blocks : List LfBlock
  pub answers : AnswerTheorems b options theorems blocks
  pub text_is : text ≡ first_line options.budget ++ blocks_text b blocks ++ last_line
  pub status_is : status ≡ status_of blocks

-- The text is a document for the program, with this status.
pub record IsDocument (program : LfProgram) (options : LfOptions) (status : Status) (text : List ℕ) : Type 0 where
  pub b : LfBook
  pub is_book : IsBookOfProgram program b
  pub by_book : IsDocumentBy b options program.theorems status text

-- The text is that of a block that answers the theorem, with the status of this block.
abbrev pub IsBlockText : LfBook → LfOptions → LfTheorem → Status → (text : List ℕ) → Type 0
IsBlockText b options theorem status text = (block : LfBlock) × AnswersTheorem b options theorem block × (status ≡ status_of (block ∷ [])) × (text ≡ block_text b.sig b.book block)

-- The sink took the blocks of the theorems, with this status.
pub record WritesBlocks (b : LfBook) (options : LfOptions) (theorems : List LfTheorem) (held after : Option (List ℕ)) (status : Status) : Type 0 where
  pub blocks : List LfBlock
  pub answers : AnswerTheorems b options theorems blocks
  pub status_is : status ≡ status_of blocks
  pub taken : Appends held after (blocks_text b blocks)

-- The sink took a prefix of the blocks of the first of the theorems.
pub record WritesBlocksPrefix (b : LfBook) (options : LfOptions) (theorems : List LfTheorem) (held after : Option (List ℕ)) : Type 0 where
  pub first : List LfTheorem
  pub rest : List LfTheorem
  pub parts : theorems ≡ first ++ rest
  pub blocks : List LfBlock
  pub answers : AnswerTheorems b options first blocks
  pub taken : AppendsPrefix held after (blocks_text b blocks)

-- The sink took a document, with this status.
abbrev pub WritesDocument : LfBook → LfOptions → List LfTheorem → (held after : Option (List ℕ)) → Status → Type 0
WritesDocument b options theorems held after status = (text : List ℕ) × IsDocumentBy b options theorems status text × Appends held after text

-- The sink took a prefix of a document.
abbrev pub WritesDocumentPrefix : LfBook → LfOptions → List LfTheorem → (held after : Option (List ℕ)) → Type 0
WritesDocumentPrefix b options theorems held after = (status : Status) × (text : List ℕ) × IsDocumentBy b options theorems status text × AppendsPrefix held after text

-- Each theorem with a well-formed type has an answer.
abbrev pub HasAnswers : LfBook → Type 0
HasAnswers b = (options : LfOptions) (theorem : LfTheorem) → Formed (kinds_in b.sig) (typing_in b.sig [] []) theorem.type → (block : LfBlock) × AnswersTheorem b options theorem block
