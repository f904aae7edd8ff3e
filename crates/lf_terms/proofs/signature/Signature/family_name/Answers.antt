use Rattle.std.proofs.Common.{arith}
use Rattle.lf_terms.proofs.SignatureEntries.{count_family_names, family_name_at}
use Rattle.lf_terms.proofs.signature.Signature.family_name.Goals as goal

pub index-requires : goal.index-requires
index-requires c = omega (arith, c.requires, count_family_names _ _ _ _ _ _ c.self.view_is c.self.invariant)

pub returns : goal.returns
returns c = family_name_at _ _ _ _ _ _ c.self.view_is c.self.invariant c.args.family c.index.result.now (omega (arith, c.requires, count_family_names _ _ _ _ _ _ c.self.view_is c.self.invariant)) c.index.ensures
