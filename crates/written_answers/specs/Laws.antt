-- Right blocks can be written.
use Rattle.std.specs.Prelude.{ℕ, List}
use Rattle.lf_definitions.specs.Syntax.{LfType}
use Rattle.goal_book.specs.GoalBooks.{LfBook, rules_in}
use Rattle.answer_definitions.specs.Blocks.{LfBlock}
use Rattle.answer_definitions.specs.Right.{IsRight}
use Rattle.answer_text.specs.Writable.{IsWritable}

-- A right block for a theorem over a book can be written by its names.
abbrev pub RightBlocksAreWritable : Type 0
RightBlocksAreWritable =
    (b : LfBook) (budget : ℕ) (a : LfType) (name : List ℕ) (block : LfBlock) → IsRight b.sig (rules_in b) budget a name block → IsWritable b.sig b.book block
