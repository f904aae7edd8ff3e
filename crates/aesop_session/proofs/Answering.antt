-- From what was written to the answer of a status.
use Rattle.std.proofs.Common.{◌≡◌, ℕ, List, ◌++◌, sym, subst, Option, append_assoc, Bool, true, false}
use Rattle.std.specs.Prelude.{if◌then◌else◌}
use Rattle.std.specs.List.{list_any}
use Rattle.std.specs.Io.KnownBytes.{Appends}
use Rattle.run_io.specs.Moves.{TakesAtMost}
use Rattle.file_elab.specs.Theorems.{LfTheorem}
use Rattle.file_elab.specs.Programs.{LfProgram}
use Rattle.goal_book.specs.GoalBooks.{LfBook}
use Rattle.answer_definitions.specs.Blocks.{LfBlock}
use Rattle.aesop_session.specs.declared.status.Status.{Status}
use Rattle.aesop_session.specs.declared.status.Status.TheVariants.{AllProved, SomeStuck, SomeSpent, FileRefused, Usage, TooLong, ReadFault, WriteFault, NoMemory, AnswersRefused}
use Rattle.aesop_session.specs.declared.refusal.Refusal.{Refusal}
use Rattle.command_words.specs.Commands.{LfOptions}
use Rattle.aesop_session.specs.Calls.{LfCall, IsServed}
use Rattle.aesop_session.specs.Documents.{is_spent, is_stuck, status_of, IsBookOfProgram, IsDocumentBy, WritesDocument, WritesDocumentPrefix}
use Rattle.aesop_session.specs.Refusals.{line_of}
use Rattle.aesop_session.specs.Inputs.{TakesRefused}
use Rattle.basics.specs.Limits.{most_input}
use Rattle.aesop_session.specs.Answers.{TakesProgram, ProvesFile, RefusesFile, IsWholeAnswer, TakesPrefix, Answered}

-- The status is one of a document.
abbrev IsOfDocument : Status → Type 0
IsOfDocument AllProved = Unit {0}
IsOfDocument SomeStuck = Unit {0}
IsOfDocument SomeSpent = Unit {0}
IsOfDocument _ = ⊥

one_of_three : (spent stuck : Bool) (status : Status) → status ≡ (if spent then SomeSpent else (if stuck then SomeStuck else AllProved)) → IsOfDocument status
one_of_three true stuck status is = subst IsOfDocument (sym is) tt
one_of_three false true status is = subst IsOfDocument (sym is) tt
one_of_three false false status is = subst IsOfDocument (sym is) tt

of_blocks : (blocks : List LfBlock) (status : Status) → status ≡ status_of blocks → IsOfDocument status
of_blocks blocks status is = one_of_three (list_any (λ (block : LfBlock). is_spent block.verdict) blocks) (list_any (λ (block : LfBlock). is_stuck block.verdict) blocks) status is

-- What an answer to a file is made of: the options of the words, the program of the bytes, and its book.
pub record Answerable (call : LfCall) (words : List (List ℕ)) (left later : Option (List ℕ)) (options : LfOptions) (program : LfProgram) (b : LfBook) : Type 0 where
  pub is_served : IsServed call words options
  pub taken : TakesProgram left later program
  pub is_book : IsBookOfProgram program b

module _ (call : LfCall) (words : List (List ℕ)) (left later : Option (List ℕ)) (options : LfOptions) (program : LfProgram) (b : LfBook) (is : Answerable call words left later options program b) where
  proves_file : (status : Status) (text : List ℕ) → IsDocumentBy b options program.theorems status text → ProvesFile call words left later status text
  proves_file status text d = (options, is.is_served, record { program = program; taken = is.taken; document = record { b = b; is_book = is.is_book; by_book = d } })

  whole_answer : (status : Status) (text : List ℕ) → IsOfDocument status → ProvesFile call words left later status text → IsWholeAnswer call words left later status text
  whole_answer AllProved text of p = p
  whole_answer SomeStuck text of p = p
  whole_answer SomeSpent text of p = p
  whole_answer FileRefused text of p = absurd of
  whole_answer Usage text of p = absurd of
  whole_answer TooLong text of p = absurd of
  whole_answer ReadFault text of p = absurd of
  whole_answer WriteFault text of p = absurd of
  whole_answer NoMemory text of p = absurd of
  whole_answer AnswersRefused text of p = absurd of

  is_answer : (status : Status) (text : List ℕ) → IsDocumentBy b options program.theorems status text → IsWholeAnswer call words left later status text
  is_answer status text d = whole_answer status text (of_blocks d.blocks status d.status_is) (proves_file status text d)

  module _ (held after : Option (List ℕ)) where
    answered_by : (status : Status) → IsOfDocument status → ((text : List ℕ) × IsWholeAnswer call words left later status text × Appends held after text) → Answered call words left later held after status
    answered_by AllProved of a = a
    answered_by SomeStuck of a = a
    answered_by SomeSpent of a = a
    answered_by FileRefused of a = absurd of
    answered_by Usage of a = absurd of
    answered_by TooLong of a = absurd of
    answered_by ReadFault of a = absurd of
    answered_by WriteFault of a = absurd of
    answered_by NoMemory of a = absurd of
    answered_by AnswersRefused of a = absurd of

    -- a document that was written whole is the answer of its status
    pub Answered-document : (status : Status) → WritesDocument b options program.theorems held after status → Answered call words left later held after status
    Answered-document status w = answered_by status (of_blocks w.1.blocks status w.1.status_is) (w.0, is_answer status w.0 w.1, w.2)

    -- a prefix of a document is a prefix of the answer of its status
    pub TakesPrefix-document : WritesDocumentPrefix b options program.theorems held after → TakesPrefix call words left later held after
    TakesPrefix-document w = (w.0, w.1, is_answer w.0 w.1 w.2, w.3)

-- the status of a document is no fault
pub not_read_fault : (b : LfBook) (options : LfOptions) (theorems : List LfTheorem) (held after : Option (List ℕ)) (status : Status) → WritesDocument b options theorems held after status → status ≡ ReadFault → ⊥
not_read_fault b options theorems held after status w e = subst IsOfDocument e (of_blocks w.1.blocks status w.1.status_is)

pub not_write_fault : (b : LfBook) (options : LfOptions) (theorems : List LfTheorem) (held after : Option (List ℕ)) (status : Status) → WritesDocument b options theorems held after status → status ≡ WriteFault → ⊥
not_write_fault b options theorems held after status w e = subst IsOfDocument e (of_blocks w.1.blocks status w.1.status_is)

-- where a document is begun or refused, what was read is at most the limit
pub TakesProgram-at_most : (left later : Option (List ℕ)) (program : LfProgram) → TakesProgram left later program → TakesAtMost most_input left later
TakesProgram-at_most left later program takes = (takes.0, takes.2, takes.1.0)

pub TakesRefused-at_most : (left later : Option (List ℕ)) (refusal : Refusal) → TakesRefused left later refusal → TakesAtMost most_input left later
TakesRefused-at_most left later refusal takes = (takes.0, takes.2, takes.1.0)

-- the line of a refusal is the answer of what is refused
pub RefusesFile-line : (left later : Option (List ℕ)) (refusal : Refusal) (text : List ℕ) → TakesRefused left later refusal → text ≡ line_of refusal.kind refusal.place → RefusesFile left later text
RefusesFile-line left later refusal text takes e =
    (takes.0, takes.1, takes.2, record { place = refusal.place; kind = refusal.kind; refused = takes.3; line_is = e })

-- the pieces of the line, one after another
pub line_parts : (start place colon word end : List ℕ) → start ++ (place ++ (colon ++ (word ++ end))) ≡ start ++ place ++ colon ++ (word ++ end)
line_parts start place colon word end = simp append_assoc
