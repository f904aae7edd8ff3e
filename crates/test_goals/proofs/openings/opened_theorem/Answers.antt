use Rattle.std.proofs.Common.{[], subst}
use Rattle.std.specs.Prelude.{IfSome}
use Rattle.lf_definitions.specs.Signatures.{kinds_in, typing_in}
use Rattle.lf_definitions.specs.Typing.{Formed}
use Rattle.lf_terms.specs.Types.{type_of}
use Rattle.meta_goals.specs.GoalsOf.{goals_of}
use Rattle.test_goals.proofs.OpenedTypes.{opening_is_shaped}
use Rattle.test_goals.proofs.openings.opened_theorem.Goals as goal

pub returns-in_ok-goals-in-Some : goal.returns-in_ok-goals-in-Some
returns-in_ok-goals-in-Some c =
    let sig = c.args.program.now.sig in
    let ty = c.in-Some.ty.now in
    opening_is_shaped sig ty.binders ty.family ty.args (goals_of c.in_ok-goals-in-Some.goals)
    (subst (λ found. IfSome found (λ ty. Formed (kinds_in sig) (typing_in sig [] []) (type_of ty.now))) c.in-Some.is c.theorem_type-found.ensures) c.in_ok-goals-in-Some.ensures
