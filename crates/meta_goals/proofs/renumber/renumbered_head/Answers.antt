use Rattle.std.proofs.Common.{sym, ap, ◌∙◌}
use Rattle.lf_definitions.specs.Syntax.{metavariable}
use Rattle.lf_definitions.specs.Instantiation.{metavariables}
use Rattle.head_laws.specs.Renumbering.{place_of_number}
use Rattle.lf_terms.specs.Terms.{head_of}
use Rattle.meta_goals.proofs.renumber.renumbered_head.Goals as goal

pub returns-in-Meta : goal.returns-in-Meta
returns-in-Meta c = ap metavariable c.find.ensures ∙ sym (ap (λ h. metavariables (place_of_number c.args.places.now) (head_of h)) c.in-Meta.is)
