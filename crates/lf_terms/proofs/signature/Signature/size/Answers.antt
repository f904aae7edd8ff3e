use Rattle.std.proofs.Common.{arith}
use Rattle.lf_terms.proofs.SignatureEntries.{size_is, few_entries}
use Rattle.lf_terms.proofs.signature.Signature.size.Goals as goal

pub overflow_cast-result : goal.overflow_cast-result
overflow_cast-result c = omega (arith, c.len.ensures, few_entries _ _ _ _ _ _ c.self.view_is c.self.invariant)

pub returns : goal.returns
returns c = omega (arith, c.len.ensures, size_is _ _ _ _ _ _ c.self.view_is c.self.invariant)
