-- The code of lists of goals, by which a proof tells values that are seen as such lists apart.
use Rattle.std.specs.Prelude.{List}
use Rattle.std.specs.Coded.{Coded, code_by, coded×}
use mathlib.Core.Path.{refl}
use Rattle.lf_definitions.specs.Typing.{LfGoal}
use Rattle.lf_definitions.specs.GoalLists.{LfGoals}
use Rattle.lf_definitions.specs.Codes.{goals_code}

abbrev pub list_code : Coded LfGoals
list_code =
    code_by (List LfGoal × List LfGoal) (coded× goals_code goals_code) (λ list. (list.proofs, list.witnesses)) (λ parts. record { proofs = parts.0; witnesses = parts.1 }) (λ _. refl)
