-- Right blocks can be written.
use Rattle.std.proofs.Common.{ℕ, List}
use Rattle.std.specs.Prelude.{Option}
use Rattle.lf_definitions.specs.Syntax.{LfType}
use Rattle.tree_runs.specs.States.{TreeEvent}
use Rattle.goal_book.specs.GoalBooks.{LfBook, rules_in}
use Rattle.answer_definitions.specs.Blocks.{LfVerdict, proved, stuck, spent}
use Rattle.answer_definitions.specs.Right.{IsRightVerdict}
use Rattle.answer_text.specs.Writable.{IsWritableVerdict}
use Rattle.written_answers.specs.Laws.{RightBlocksAreWritable}
use Rattle.written_answers.proofs.PrintableTerms.{closed_terms_are_printable}
use Rattle.written_answers.proofs.NamedSteps.{rules_have_places, closing_script_names}

verdict_writable : (b : LfBook) (budget : ℕ) (a : LfType) (verdict : LfVerdict) (events : Option (List TreeEvent)) → IsRightVerdict b.sig (rules_in b) budget a verdict events →
    IsWritableVerdict b.sig b.book verdict
verdict_writable b budget a (proved t script) events right = (
  closed_terms_are_printable b.sig right.typed right.no_metavariable,
  closing_script_names b.book b.sig (rules_in b) (rules_have_places b.book b.numbers) a script t right.replays,
)
verdict_writable b budget a stuck events right = tt
verdict_writable b budget a spent events right = tt

pub right_blocks_are_writable : RightBlocksAreWritable
right_blocks_are_writable b budget a name block right = verdict_writable b budget a block.verdict block.events right.verdict
