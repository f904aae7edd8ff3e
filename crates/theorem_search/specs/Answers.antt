-- What is answered for a theorem, with any number of workers.
use Rattle.std.specs.Prelude.{ℕ, zero, suc, Bool, List}
use Rattle.lf_definitions.specs.Syntax.{LfType}
use Rattle.lf_definitions.specs.Signatures.{LfSignature}
use Rattle.alternatives.specs.Rules.{LfRule}
use Rattle.tree_runs.specs.States.{TreeEvent}
use Rattle.tree_shared.specs.Seats.{AreSeatsBelow}
use Rattle.answer_definitions.specs.Blocks.{LfBlock}
use Rattle.answer_definitions.specs.Settled.{IsAnswerBy, IsSettledRun, IsStillAnswer}

module _ (sig : LfSignature) (rules : List LfRule) (a : LfType) (budget : ℕ) (trace : Bool) (name : List ℕ) where
  -- The block is what a settled run answers whose seats are so many.
  pub record IsSharedAnswer (workers : ℕ) (block : LfBlock) : Type 0 where
    pub events : List TreeEvent
    pub settled : IsSettledRun sig rules a budget events
    pub seats : AreSeatsBelow workers events
    pub answers : IsAnswerBy sig rules a trace name events block

  -- The block is what so many workers answer; with none it is that of the still run.
  abbrev pub IsAnswerOf : ℕ → LfBlock → Type 0
  IsAnswerOf zero block = IsStillAnswer sig rules a budget trace name block
  IsAnswerOf (suc n) block = IsSharedAnswer (suc n) block
