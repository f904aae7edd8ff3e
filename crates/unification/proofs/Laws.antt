-- The laws, as they are stated.
use Rattle.std.proofs.Common.{◌≡◌, ◌∙◌, ap, true, false}
use Rattle.std.proofs.lemmas.Bool.{false_from_ne_true}
use Rattle.lf_definitions.specs.Syntax.{bound}
use Rattle.unification.specs.Patterns.{has_number, reads}
use Rattle.unification.specs.Laws.{ReadingIsExpansion, VariablesAreTested, TransitionsAreUnique, ShapedProblemsHaveOneEnd, AnswersAreResolved}
use Rattle.unification.proofs.Tests.{Contains-true, has_number-from, over_term, is_over-from, escapes-true, escapes_from-rigid}
use Rattle.unification.proofs.Readings.{reads-eta, reads-Some, reading_at_shape}
use Rattle.unification.proofs.OneTransition.{one_step, one_end}
use Rattle.unification.proofs.Endings.{has_end}
use Rattle.unification.proofs.Resolved.{is_answer}

pub reading_is_expansion : ReadingIsExpansion
reading_is_expansion = (
  (λ t n. (λ e. reads-Some t n e, λ r. ap reads r.1 ∙ reads-eta n r.0)),
  (λ Γ t s n p e. reading_at_shape Γ t s n p e),
)

pub variables_are_tested : VariablesAreTested
variables_are_tested ns t = (
  (λ e n o. Contains-true ns n (over_term t ns e (bound n) o), λ each. is_over-from t ns (λ n o. has_number-from ns n (each n o))),
  (
    λ e. let escape = escapes-true t ns e in
        (escape.0, escape.1, λ has. let there : has_number ns escape.0 ≡ true = has_number-from ns escape.0 has in let not_there : has_number ns escape.0 ≡ false = escape.2 in cc),
    λ escape. escapes_from-rigid escape.1 ns (false_from_ne_true (has_number ns escape.0) (λ e. escape.2 (Contains-true ns escape.0 e))),
  ),
)

pub transitions_are_unique : TransitionsAreUnique
transitions_are_unique frozen state other another ending = (one_step, one_end)

pub shaped_problems_have_one_end : ShapedProblemsHaveOneEnd
shaped_problems_have_one_end kinds Γ frozen equations shaped = let end = has_end kinds Γ frozen equations shaped in (end.0, end.1, one_end end.1)

pub answers_are_resolved : AnswersAreResolved
answers_are_resolved kinds Γ frozen equations entries shaped ends = is_answer kinds Γ frozen equations entries shaped ends
