-- Right answers for a theorem.
use Rattle.std.specs.Prelude.{◌≡◌, ℕ, true, false, List, [], length, Option, Some, None}
use Rattle.lf_definitions.specs.Syntax.{metavariable, LfTerm, LfType}
use Rattle.lf_definitions.specs.Occurrence.{OccursIn}
use Rattle.lf_definitions.specs.Typing.{Typed}
use Rattle.lf_definitions.specs.Signatures.{LfSignature, typing_in}
use Rattle.lf_definitions.specs.GoalLists.{LfGoals, opening}
use Rattle.alternatives.specs.Rules.{LfRule}
use Rattle.derivations.specs.Derivations.{IsDerivable}
use Rattle.derivations.specs.Replays.{LfStep, closed, replay}
use Rattle.derivations.specs.Unfolding.{branches_of}
use Rattle.tree_runs.specs.Marks.{is_decided, is_proved, is_stuck}
use Rattle.tree_runs.specs.Runs.{is_run}
use Rattle.tree_runs.specs.States.{TreeEvent, TreeState, state_of}
use Rattle.answer_definitions.specs.Blocks.{LfVerdict, proved, stuck, spent, LfBlock}

-- the state that events lead to, over the unfolding of a type
abbrev pub state_after : LfSignature → List LfRule → LfType → List TreeEvent → TreeState LfGoals
state_after sig rules a events = state_of (branches_of sig rules) (opening a) events

module _ (sig : LfSignature) (rules : List LfRule) (budget : ℕ) (a : LfType) where
  -- The events are a run, and nothing is held at its end.
  pub record IsEnded (events : List TreeEvent) : Type 0 where
    pub run : is_run (branches_of sig rules) budget (opening a) events ≡ true
    pub none_held : (state_after sig rules a events).held ≡ []

  -- Where events are shown, they are such a run, in which the root is proved.
  abbrev pub ShowsProof : Option (List TreeEvent) → Type 0
  ShowsProof None = Unit {0}
  ShowsProof (Some events) = IsEnded events × (is_proved (state_after sig rules a events).shape 0 ≡ true)

  -- The script replays to the term, which has the type and no metavariable.
  pub record IsProof (t : LfTerm) (script : List LfStep) (events : Option (List TreeEvent)) : Type 0 where
    pub replays : replay sig rules a script ≡ closed t
    pub typed : Typed (typing_in sig [] []) t a
    pub no_metavariable : (m : ℕ) → OccursIn (metavariable m) t → ⊥
    pub shows : ShowsProof events

  -- No choice of rules closes the theorem, and the events are a run in which the root is stuck.
  pub record IsRefutation (events : Option (List TreeEvent)) : Type 0 where
    pub not_derivable : IsDerivable sig rules a → ⊥
    pub journal : List TreeEvent
    pub shown : events ≡ Some journal
    pub ended : IsEnded journal
    pub root : is_stuck (state_after sig rules a journal).shape 0 ≡ true

  -- The events are a run in which as many nodes as the budget were committed and the root is undecided.
  pub record IsSpentRun (events : Option (List TreeEvent)) : Type 0 where
    pub journal : List TreeEvent
    pub shown : events ≡ Some journal
    pub ended : IsEnded journal
    pub commits : length (state_after sig rules a journal).committed ≡ budget
    pub root : is_decided (state_after sig rules a journal).shape 0 ≡ false

  abbrev pub IsRightVerdict : LfVerdict → Option (List TreeEvent) → Type 0
  IsRightVerdict (proved t script) events = IsProof t script events
  IsRightVerdict stuck events = IsRefutation events
  IsRightVerdict spent events = IsSpentRun events

  -- The block is right for a theorem of this name and type.
  pub record IsRight (name : List ℕ) (block : LfBlock) : Type 0 where
    pub name_is : block.name ≡ name
    pub verdict : IsRightVerdict block.verdict block.events
