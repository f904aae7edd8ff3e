use Rattle.std.proofs.Common.{arith, sym, ap, ◌∙◌, Some}
use Rattle.lf_definitions.specs.Signatures.{constant_types}
use Rattle.lf_definitions.proofs.Variables.{rename_type-next_by_zero}
use Rattle.lf_terms.specs.Types.{type_of}
use Rattle.lf_kernel.proofs.Heads.{no_constant}
use Rattle.lf_kernel.proofs.head_type.type_of_constant.Goals as goal

pub returns-then-number-constants : goal.returns-then-number-constants
returns-then-number-constants c = no_constant (constant_types c.args.sig.now) c.args.number (omega (arith, c.constants.ensures.types))

pub returns : goal.returns
returns c = ap Some (rename_type-next_by_zero (type_of c.type_of-ty.result.now)) ∙ sym c.type_of-ty.ensures
