-- What a settled run answers, and what the still run does.
use Rattle.std.specs.Prelude.{◌≡◌, ℕ, Bool, true, false, ◌&&◌, List, length, Option, Some, None}
use Rattle.std.specs.List.{list_any}
use Rattle.lf_definitions.specs.Syntax.{LfType}
use Rattle.lf_definitions.specs.Signatures.{LfSignature}
use Rattle.lf_definitions.specs.GoalLists.{opening}
use Rattle.applications.specs.Candidates.{counting_from}
use Rattle.alternatives.specs.Rules.{LfRule}
use Rattle.derivations.specs.Replays.{LfStep, closed, replay}
use Rattle.derivations.specs.Unfolding.{branches_of}
use Rattle.answer_definitions.specs.Chosen.{same_address, chosen_script}
use Rattle.tree_runs.specs.Addresses.{Address, address_of}
use Rattle.tree_runs.specs.Marks.{is_decided, is_proved, is_stuck}
use Rattle.tree_runs.specs.Runs.{is_run, is_settled, IsStillRun}
use Rattle.tree_runs.specs.Shapes.{TreeShape, nodes_count}
use Rattle.tree_runs.specs.States.{TreeEvent}
use Rattle.answer_definitions.specs.Blocks.{LfVerdict, proved, stuck, spent, LfBlock}
use Rattle.answer_definitions.specs.Right.{state_after}

-- Whether a proved node has this address.
abbrev pub is_proved_at : TreeShape → Address → Bool
is_proved_at shape address = list_any (λ node. same_address (address_of shape node) address && is_proved shape node) (counting_from 0 (nodes_count shape))

-- the script that a run chooses
abbrev pub script_by : LfSignature → List LfRule → LfType → List TreeEvent → List LfStep
script_by sig rules a events =
    chosen_script sig rules a (is_proved_at (state_after sig rules a events).shape) (length (state_after sig rules a events).committed)

-- which events are shown: all, but where the theorem is proved only if they are asked for
abbrev pub events_shown : Bool → LfVerdict → List TreeEvent → Option (List TreeEvent)
events_shown true verdict events = Some events
events_shown false (proved t script) events = None
events_shown false stuck events = Some events
events_shown false spent events = Some events

module _ (sig : LfSignature) (rules : List LfRule) (a : LfType) where
  -- what the marks of the root say: it is proved, with the script that the run chooses and the term that comes of it; or stuck, or neither
  abbrev pub IsVerdictBy : List TreeEvent → LfVerdict → Type 0
  IsVerdictBy events (proved t script) =
      (is_proved (state_after sig rules a events).shape 0 ≡ true) × (script ≡ script_by sig rules a events) × (replay sig rules a script ≡ closed t)
  IsVerdictBy events stuck = is_stuck (state_after sig rules a events).shape 0 ≡ true
  IsVerdictBy events spent = is_decided (state_after sig rules a events).shape 0 ≡ false

  -- The block is what these events answer for a theorem of this name; those of a proved theorem are shown where `trace` says so.
  pub record IsAnswerBy (trace : Bool) (name : List ℕ) (events : List TreeEvent) (block : LfBlock) : Type 0 where
    pub name_is : block.name ≡ name
    pub verdict : IsVerdictBy events block.verdict
    pub events_are : block.events ≡ events_shown trace block.verdict events

  -- The events are a settled run.
  pub record IsSettledRun (budget : ℕ) (events : List TreeEvent) : Type 0 where
    pub run : is_run (branches_of sig rules) budget (opening a) events ≡ true
    pub settled : is_settled (branches_of sig rules) budget (state_after sig rules a events) ≡ true

  -- The block is what the still run answers.
  pub record IsStillAnswer (budget : ℕ) (trace : Bool) (name : List ℕ) (block : LfBlock) : Type 0 where
    pub events : List TreeEvent
    pub still : IsStillRun (branches_of sig rules) budget (opening a) events
    pub answer : IsAnswerBy trace name events block
