use Rattle.std.proofs.Common.{arith}
use Rattle.lf_terms.proofs.SignatureEntries.{count_constant_names, constant_name_at}
use Rattle.lf_terms.proofs.signature.Signature.const_name.Goals as goal

pub index-requires : goal.index-requires
index-requires c = omega (arith, c.requires, count_constant_names _ _ _ _ _ _ c.self.view_is c.self.invariant)

pub returns : goal.returns
returns c = constant_name_at _ _ _ _ _ _ c.self.view_is c.self.invariant c.args.constant c.index.result.now (omega (arith, c.requires, count_constant_names _ _ _ _ _ _ c.self.view_is c.self.invariant)) c.index.ensures
