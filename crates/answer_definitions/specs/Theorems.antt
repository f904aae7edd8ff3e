-- Theorems that a search may be asked for, and what an answer says of their derivations.
use Rattle.std.specs.Prelude.{◌≢◌, [], List, All, AllPairs}
use Rattle.lf_definitions.specs.Syntax.{LfType}
use Rattle.lf_definitions.specs.Typing.{Formed}
use Rattle.lf_definitions.specs.Signatures.{LfSignature, FormedSignature, kinds_in, typing_in}
use Rattle.application_laws.specs.Conditions.{TakesAtoms}
use Rattle.alternatives.specs.Rules.{LfRule}
use Rattle.derivations.specs.Derivations.{IsDerivable}
use Rattle.answer_definitions.specs.Blocks.{LfVerdict, proved, stuck, spent}

-- A theorem's type is well formed over a well-formed signature, the rules have different numbers, and none takes a hypothesis for an argument that has binders.
pub record IsFormedTheorem (sig : LfSignature) (rules : List LfRule) (a : LfType) : Type 0 where
  pub signature : FormedSignature sig
  pub rules_take_atoms : All (λ (rule : LfRule). TakesAtoms sig rule.method) rules
  pub numbers_differ : AllPairs (λ (rule : LfRule) other. rule.number ≢ other.number) rules
  pub type : Formed (kinds_in sig) (typing_in sig [] []) a

-- What a right answer says of derivations: a theorem that is proved is derivable, and one that is stuck isn't.
abbrev pub SaysOfDerivations : LfSignature → List LfRule → LfType → LfVerdict → Type 0
SaysOfDerivations sig rules a (proved t script) = IsDerivable sig rules a
SaysOfDerivations sig rules a stuck = IsDerivable sig rules a → ⊥
SaysOfDerivations sig rules a spent = Unit {0}
