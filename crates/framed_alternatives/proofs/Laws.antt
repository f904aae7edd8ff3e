-- The laws: applications are steps, and normal forms are reached.
use Rattle.step_laws.proofs.Laws.{applications_are_steps}
use Rattle.taken_alternatives.proofs.Laws.{normal_forms_are_reached}
use Rattle.framed_alternatives.specs.Laws.{ListsAfterAreFramed, NormalFormsAreFramed, AlternativesAreFramed}
use Rattle.framed_alternatives.proofs.Steps as steps
use Rattle.framed_alternatives.proofs.Normal as normal
use Rattle.framed_alternatives.proofs.Choices as choices

pub lists_after_are_framed : ListsAfterAreFramed
lists_after_are_framed = steps.lists_after_are_framed applications_are_steps

pub normal_forms_are_framed : NormalFormsAreFramed
normal_forms_are_framed = normal.normal_forms_are_framed applications_are_steps normal_forms_are_reached

pub alternatives_are_framed : AlternativesAreFramed
alternatives_are_framed = choices.alternatives_are_framed applications_are_steps normal_forms_are_reached
