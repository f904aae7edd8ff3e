use Rattle.std.proofs.Common.{[], ◌∙◌, subst}
use Rattle.lf_definitions.specs.Signatures.{kinds_in, typing_in}
use Rattle.lf_kernel.specs.Checks.{ChecksKind}
use Rattle.lf_definitions.proofs.Counts.{length-family_names}
use Rattle.lf_kernel.proofs.adding.add_family.Goals as goal

pub returns-in-Ok : goal.returns-in-Ok
returns-in-Ok c =
    let sig = c.args.sig.now in (
      c.in_default.ensures,
      subst (ChecksKind (kinds_in sig) (typing_in sig [] []) c.args.kind.binders) c.in-Ok-Well.field-0-is c.in-Ok-Well.ensures,
      c.in-Ok.ensures.number ∙ length-family_names sig,
      c.in-Ok.ensures.ok,
    )
