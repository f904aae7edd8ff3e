-- What a script comes to.
use Rattle.std.specs.Prelude.{◌≡◌, ℕ, List, ◌++◌, length}
use Rattle.lf_definitions.specs.Syntax.{LfTerm, lams, LfType, binders_of}
use Rattle.lf_definitions.specs.Signatures.{LfSignature}
use Rattle.lf_definitions.specs.GoalLists.{LfGoals}
use Rattle.alternatives.specs.Rules.{LfRule}
use Rattle.derivations.specs.Replays.{LfStep, LfReplayed, closed, replayed_from}
use Rattle.meta_goals.specs.Bindings.{LfBinding}
use Rattle.proof_replay.specs.Leading.{Leads, carried}

-- builds that lead to no goals, or an answer
pub data LfRun : Type 0 where
  led : List (List LfBinding) → LfRun
  refused : LfReplayed → LfRun

-- builds, and then a run
abbrev pub after_builds : List (List LfBinding) → LfRun → LfRun
after_builds builds (led rest) = led (builds ++ rest)
after_builds builds (refused answer) = refused answer

-- A script, followed from its k-th step on where these goals are left, comes to this, whatever the term.
abbrev pub IsRun : LfSignature → List LfRule → LfType → LfGoals → ℕ → List LfStep → LfRun → Type 0
IsRun sig rules a list k script (led builds) =
    (leads : Leads sig list builds) × ((t : LfTerm) → replayed_from sig rules a list t k script ≡ closed (lams (length (binders_of a)) (carried sig list builds leads t)))
IsRun sig rules a list k script (refused answer) = (t : LfTerm) → replayed_from sig rules a list t k script ≡ answer
