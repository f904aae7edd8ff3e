-- The laws of normal forms and alternatives of shaped goals.
use Rattle.std.specs.Prelude.{ℕ, List, All}
use Rattle.lf_definitions.specs.Signatures.{LfSignature}
use Rattle.lf_definitions.specs.GoalLists.{LfGoals}
use Rattle.alternatives.specs.Rules.{LfRule}
use Rattle.alternatives.specs.NormalForms.{normal_within, normal_form}
use Rattle.alternatives.specs.Alternatives.{LfAlternative, alternatives}
use Rattle.alternatives.specs.Taking.{Takes}
use Rattle.alternatives.specs.Steps.{AreOldOrNew}
use Rattle.alternatives.specs.Reaching.{MayBeExpanded, IsReached}

abbrev pub NormalFormsAreReached : Type 0
NormalFormsAreReached =
    (sig : LfSignature) (rules : List LfRule) (n : ℕ) (list : LfGoals) → MayBeExpanded sig rules n list →
    ((most : ℕ) → IsReached sig n list (normal_within most sig rules n list)) × IsReached sig n list (normal_form sig rules n list)

-- So is the list of each alternative.
abbrev pub AlternativesAreReached : Type 0
AlternativesAreReached =
    (sig : LfSignature) (rules : List LfRule) (n : ℕ) (list : LfGoals) → MayBeExpanded sig rules n list →
    All (λ (alternative : LfAlternative). Takes sig list alternative.goals alternative.build × AreOldOrNew list n alternative.goals) (alternatives sig rules n list)
