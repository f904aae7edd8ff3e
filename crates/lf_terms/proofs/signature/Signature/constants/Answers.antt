use Rattle.std.proofs.Common.{arith}
use Rattle.lf_terms.proofs.SignatureEntries.{few_constants, count_constant_names, count_constant_types}
use Rattle.lf_terms.proofs.signature.Signature.constants.Goals as goal

pub overflow_cast-result : goal.overflow_cast-result
overflow_cast-result c = omega (arith, c.len.ensures, few_constants _ _ _ _ _ _ c.self.view_is c.self.invariant)

pub returns-clause-names : goal.returns-clause-names
returns-clause-names c = omega (arith, c.len.ensures, count_constant_names _ _ _ _ _ _ c.self.view_is c.self.invariant)

pub returns-clause-types : goal.returns-clause-types
returns-clause-types c = omega (arith, c.len.ensures, count_constant_types _ _ _ _ _ _ c.self.view_is c.self.invariant)
