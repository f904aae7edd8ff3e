use Rattle.std.proofs.Common.{arith}
use Rattle.lf_definitions.specs.Signatures.{constant_types}
use Rattle.lf_kernel.proofs.Heads.{no_constant}
use Rattle.build_shared.proofs.constants.constant_type.Goals as goal

pub returns-else-number-constants : goal.returns-else-number-constants
returns-else-number-constants c = no_constant (constant_types c.args.sig.now) c.args.number (omega (arith, c.constants.ensures.types, c.if-number-constants.false))
