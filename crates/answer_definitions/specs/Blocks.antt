-- What is answered for a theorem.
use Rattle.std.specs.Prelude.{ℕ, List, Option}
use Rattle.lf_definitions.specs.Syntax.{LfTerm}
use Rattle.derivations.specs.Replays.{LfStep}
use Rattle.tree_runs.specs.States.{TreeEvent}

-- The theorem is proved, by a term and a script; no choice of rules closes it; or the budget was spent first.
pub data LfVerdict : Type 0 where
  proved : LfTerm → List LfStep → LfVerdict
  stuck : LfVerdict
  spent : LfVerdict

-- The name of the theorem, the verdict, and the events of the search where they are shown.
pub record LfBlock : Type 0 where
  pub name : List ℕ
  pub verdict : LfVerdict
  pub events : Option (List TreeEvent)
