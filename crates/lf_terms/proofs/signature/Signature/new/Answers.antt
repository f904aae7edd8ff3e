use Rattle.lf_terms.proofs.SignatureEntries.{keeps_made}
use Rattle.lf_terms.proofs.signature.Signature.new.Goals as goal

pub invariant_of-result : goal.invariant_of-result
invariant_of-result c = keeps_made _ _ _ _ _ c.new.ensures c.new-2.ensures.items c.new-3.ensures.items c.new-4.ensures.items c.new-5.ensures
