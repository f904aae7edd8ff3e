use Rattle.std.proofs.Common.{[], subst}
use Rattle.std.specs.Prelude.{IfSome}
use Rattle.lf_definitions.specs.Signatures.{kinds_in, typing_in}
use Rattle.lf_definitions.specs.Typing.{Formed}
use Rattle.lf_terms.specs.Types.{type_of}
use Rattle.step_tests.proofs.Theorems.{type_is_shaped}
use Rattle.step_tests.proofs.answers.append_of_script.Goals as goal

pub append_followed-requires : goal.append_followed-requires
append_followed-requires c =
    let sig = c.args.program.now.sig in
    type_is_shaped sig c.args.book.now.sig (type_of c.in-Some.ty.now) c.requires.book
    (subst (λ found. IfSome found (λ ty. Formed (kinds_in sig) (typing_in sig [] []) (type_of ty.now))) c.in-Some.is c.theorem_type-found.ensures)
