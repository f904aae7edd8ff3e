-- The law of chosen scripts.
use Rattle.std.specs.Prelude.{◌≡◌, ◌≢◌, ◌↔◌, Bool, true, List, [], length, AllPairs}
use Rattle.lf_definitions.specs.Syntax.{LfTerm, LfType}
use Rattle.lf_definitions.specs.Signatures.{LfSignature}
use Rattle.lf_definitions.specs.GoalLists.{opening}
use Rattle.alternatives.specs.Rules.{LfRule}
use Rattle.derivations.specs.Replays.{closed, replay}
use Rattle.derivations.specs.Unfolding.{branches_of}
use Rattle.tree_runs.specs.Addresses.{Address, Proved}
use Rattle.tree_derivations.specs.Laws.{IsTheorem}
use Rattle.answer_definitions.specs.Chosen.{chosen_script}

-- A test says of each address whether it is proved.
abbrev pub SaysWhatIsProved : LfSignature → List LfRule → LfType → List Address → (Address → Bool) → Type 0
SaysWhatIsProved sig rules a committed proved = (address : Address) → (proved address ≡ true) ↔ Proved (branches_of sig rules) (opening a) committed address

-- Where the root of a theorem is proved, in a set of addresses that differ, and rules have different numbers, the chosen script closes it.
abbrev pub ChosenScriptsReplay : Type 0
ChosenScriptsReplay =
    (sig : LfSignature) (rules : List LfRule) (a : LfType) → IsTheorem sig rules a → AllPairs (λ (rule : LfRule) other. rule.number ≢ other.number) rules →
    (committed : List Address) → AllPairs (λ p q. p ≢ q) committed → (proved : Address → Bool) → SaysWhatIsProved sig rules a committed proved → proved [] ≡ true →
    (t : LfTerm) × (replay sig rules a (chosen_script sig rules a proved (length committed)) ≡ closed t)
