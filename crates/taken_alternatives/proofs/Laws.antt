-- The laws, as they are stated.
use Rattle.step_laws.proofs.Laws.{applications_are_steps}
use Rattle.taken_alternatives.specs.Laws.{NormalFormsAreReached, AlternativesAreReached}
use Rattle.taken_alternatives.proofs.NormalForms
use Rattle.taken_alternatives.proofs.Alternatives

pub normal_forms_are_reached : NormalFormsAreReached
normal_forms_are_reached = NormalForms.normal_forms_are_reached applications_are_steps

pub alternatives_are_reached : AlternativesAreReached
alternatives_are_reached = Alternatives.alternatives_are_reached applications_are_steps
