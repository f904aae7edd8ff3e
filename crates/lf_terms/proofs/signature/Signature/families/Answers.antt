use Rattle.std.proofs.Common.{arith}
use Rattle.lf_terms.proofs.SignatureEntries.{few_families, count_family_names, count_family_kinds}
use Rattle.lf_terms.proofs.signature.Signature.families.Goals as goal

pub overflow_cast-result : goal.overflow_cast-result
overflow_cast-result c = omega (arith, c.len.ensures, few_families _ _ _ _ _ _ c.self.view_is c.self.invariant)

pub returns-clause-names : goal.returns-clause-names
returns-clause-names c = omega (arith, c.len.ensures, count_family_names _ _ _ _ _ _ c.self.view_is c.self.invariant)

pub returns-clause-kinds : goal.returns-clause-kinds
returns-clause-kinds c = omega (arith, c.len.ensures, count_family_kinds _ _ _ _ _ _ c.self.view_is c.self.invariant)
