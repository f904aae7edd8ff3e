-- The laws of alternatives on all data, of derivations and of replays.
use Rattle.std.specs.Prelude.{◌≡◌, ◌≢◌, ℕ, List, [], AllPairs}
use Rattle.lf_definitions.specs.Syntax.{LfTerm, LfType}
use Rattle.lf_definitions.specs.Signatures.{LfSignature}
use Rattle.lf_definitions.specs.GoalLists.{LfGoals, all_goals}
use Rattle.alternatives.specs.Rules.{LfRule}
use Rattle.alternatives.specs.Alternatives.{LfAlternative, alternatives}
use Rattle.derivations.specs.Derivations.{IsDerivable}
use Rattle.derivations.specs.Replays.{LfStep, closed, replay}

-- Where rules have different numbers, no two alternatives of a list have the same last step.
abbrev pub AlternativesDiffer : Type 0
AlternativesDiffer =
    (sig : LfSignature) (rules : List LfRule) → AllPairs (λ rule other. rule.number ≢ other.number) rules → (n : ℕ) (list : LfGoals) →
    AllPairs (λ (a : LfAlternative) b. a.last ≢ b.last) (alternatives sig rules n list)

-- A list with no goal has none.
abbrev pub NoGoalHasNoAlternative : Type 0
NoGoalHasNoAlternative = (sig : LfSignature) (rules : List LfRule) (n : ℕ) (list : LfGoals) → all_goals list ≡ [] → alternatives sig rules n list ≡ []

-- A type whose script closes is derivable, and where rules have different numbers, a derivable type has a script that closes.
abbrev pub DerivableTypesReplay : Type 0
DerivableTypesReplay =
    (sig : LfSignature) (rules : List LfRule) (a : LfType) →
    ((script : List LfStep) (t : LfTerm) → replay sig rules a script ≡ closed t → IsDerivable sig rules a)
    × (AllPairs (λ rule other. rule.number ≢ other.number) rules → IsDerivable sig rules a → (script : List LfStep) × (t : LfTerm) × (replay sig rules a script ≡ closed t))
