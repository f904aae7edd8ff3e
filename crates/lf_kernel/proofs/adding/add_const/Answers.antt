use Rattle.std.proofs.Common.{[], ◌∙◌, subst}
use Rattle.lf_definitions.specs.Signatures.{kinds_in, typing_in}
use Rattle.lf_terms.specs.Types.{type_of}
use Rattle.lf_kernel.specs.Checks.{ChecksType}
use Rattle.lf_definitions.proofs.Counts.{length-constant_names}
use Rattle.lf_kernel.proofs.adding.add_const.Goals as goal

pub returns-in-Ok : goal.returns-in-Ok
returns-in-Ok c =
    let sig = c.args.sig.now in (
      c.in_default.ensures,
      subst (ChecksType (kinds_in sig) (typing_in sig [] []) (type_of c.args.ty)) c.in-Ok-Well.field-0-is c.in-Ok-Well.ensures,
      c.in-Ok.ensures.number ∙ length-constant_names sig,
      c.in-Ok.ensures.ok,
    )
