-- The laws of answers.
use Rattle.std.specs.Prelude.{◌≡◌, ◌≢◌, ℕ, ◌≤◌, Bool, true, List, length, Contains, Some}
use Rattle.lf_definitions.specs.Syntax.{LfTerm, LfType}
use Rattle.lf_definitions.specs.Signatures.{LfSignature}
use Rattle.lf_definitions.specs.GoalLists.{LfGoals, opening}
use Rattle.alternatives.specs.Rules.{LfRule}
use Rattle.derivations.specs.Replays.{closed, replay}
use Rattle.derivations.specs.Unfolding.{branches_of, goals_at}
use Rattle.tree_runs.specs.Addresses.{Address}
use Rattle.tree_runs.specs.Marks.{is_proved}
use Rattle.tree_runs.specs.Runs.{is_run}
use Rattle.tree_runs.specs.States.{TreeEvent}
use Rattle.answer_definitions.specs.Blocks.{spent, LfBlock}
use Rattle.answer_definitions.specs.Right.{state_after, IsRight}
use Rattle.answer_definitions.specs.Settled.{script_by, IsAnswerBy, IsSettledRun, IsStillAnswer}
use Rattle.answer_definitions.specs.Theorems.{IsFormedTheorem, SaysOfDerivations}

-- Where the root is proved, the script that a run chooses replays to a closed term.
abbrev pub ChosenScriptsOfRunsReplay : Type 0
ChosenScriptsOfRunsReplay =
    (sig : LfSignature) (rules : List LfRule) (a : LfType) → IsFormedTheorem sig rules a → (budget : ℕ) (events : List TreeEvent) →
    is_run (branches_of sig rules) budget (opening a) events ≡ true → is_proved (state_after sig rules a events).shape 0 ≡ true → (t : LfTerm) × (replay sig rules a (script_by sig rules a events) ≡ closed t)

-- What a settled run answers is right.
abbrev pub SettledAnswersAreRight : Type 0
SettledAnswersAreRight =
    (sig : LfSignature) (rules : List LfRule) (a : LfType) → IsFormedTheorem sig rules a → (budget : ℕ) (events : List TreeEvent) → IsSettledRun sig rules a budget events →
    (trace : Bool) (name : List ℕ) (block : LfBlock) → IsAnswerBy sig rules a trace name events block → IsRight sig rules budget a name block

-- Each theorem has exactly one answer of the still run, and that is right.
abbrev pub StillAnswersAreUnique : Type 0
StillAnswersAreUnique =
    (sig : LfSignature) (rules : List LfRule) (a : LfType) → IsFormedTheorem sig rules a → (budget : ℕ) (trace : Bool) (name : List ℕ) →
    ((block : LfBlock) × IsStillAnswer sig rules a budget trace name block)
    × ((one two : LfBlock) → IsStillAnswer sig rules a budget trace name one → IsStillAnswer sig rules a budget trace name two → one ≡ two)
    × ((block : LfBlock) → IsStillAnswer sig rules a budget trace name block → IsRight sig rules budget a name block)

-- Right answers decide derivability: a theorem that is proved is derivable, and one that is stuck isn't.
abbrev pub RightAnswersDecideDerivability : Type 0
RightAnswersDecideDerivability =
    (sig : LfSignature) (rules : List LfRule) (budget : ℕ) (a : LfType) (name : List ℕ) (block : LfBlock) → IsRight sig rules budget a name block →
    SaysOfDerivations sig rules a block.verdict

-- Where the unfolding of a theorem has at most as many addresses as the budget, no right answer is that the budget was spent.
abbrev pub SmallTheoremsAreNotSpent : Type 0
SmallTheoremsAreNotSpent =
    (sig : LfSignature) (rules : List LfRule) (a : LfType) → IsFormedTheorem sig rules a → (budget : ℕ) (addresses : List Address) → length addresses ≤ budget →
    ((address : Address) (list : LfGoals) → goals_at sig rules a address ≡ Some list → Contains addresses address) →
    (name : List ℕ) (block : LfBlock) → IsRight sig rules budget a name block → block.verdict ≢ spent
