-- What a script closes is typed.
use Rattle.std.specs.Prelude.{◌≡◌, ℕ, List, [], All}
use Rattle.lf_definitions.specs.Syntax.{metavariable, LfTerm, LfType}
use Rattle.lf_definitions.specs.Occurrence.{OccursIn}
use Rattle.lf_definitions.specs.Typing.{Typed, Formed}
use Rattle.lf_definitions.specs.Signatures.{LfSignature, FormedSignature, kinds_in, typing_in}
use Rattle.application_laws.specs.Conditions.{TakesAtoms}
use Rattle.alternatives.specs.Rules.{LfRule}
use Rattle.derivations.specs.Replays.{LfStep, closed, replay}

-- Over a well-formed signature, with rules that take no hypothesis for an argument that has binders: the term that comes of a script for a well-formed type has this type, and
-- mentions no metavariable.
abbrev pub ReplayedTermsAreTyped : Type 0
ReplayedTermsAreTyped =
    (sig : LfSignature) → FormedSignature sig → (rules : List LfRule) → All (λ rule. TakesAtoms sig rule.method) rules →
    (a : LfType) → Formed (kinds_in sig) (typing_in sig [] []) a → (script : List LfStep) (t : LfTerm) → replay sig rules a script ≡ closed t →
    Typed (typing_in sig [] []) t a × ((m : ℕ) → OccursIn (metavariable m) t → ⊥)
