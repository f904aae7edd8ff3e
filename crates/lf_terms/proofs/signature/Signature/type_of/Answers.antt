use Rattle.std.proofs.Common.{arith}
use Rattle.lf_terms.proofs.SignatureEntries.{count_constant_names, type_found}
use Rattle.lf_terms.proofs.signature.Signature.type_of.Goals as goal

pub index-requires : goal.index-requires
index-requires c = omega (arith, c.requires, count_constant_names _ _ _ _ _ _ c.self.view_is c.self.invariant)

pub returns : goal.returns
returns c = type_found _ _ _ _ _ _ c.self.view_is c.self.invariant c.args.constant c.index.result.now (omega (arith, c.requires, count_constant_names _ _ _ _ _ _ c.self.view_is c.self.invariant)) c.index.ensures
