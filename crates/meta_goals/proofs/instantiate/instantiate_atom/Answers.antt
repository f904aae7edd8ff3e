use Rattle.std.proofs.Common.{[]}
use Rattle.lf_definitions.specs.Syntax.{family}
use Rattle.lf_definitions.specs.Substitution.{substituted_family}
use Rattle.lf_terms.specs.Types.{atom_of}
use Rattle.meta_goals.proofs.ChangedTypes.{instantiates_family, type_keeps_shape}
use Rattle.meta_goals.proofs.instantiate.instantiate_atom.Goals as goal

pub instantiate_all-requires : goal.instantiate_all-requires
instantiate_all-requires c = instantiates_family c.args.assign.now [] c.args.atom.now.family c.args.atom.now.args c.requires

pub returns-clause-result : goal.returns-clause-result
returns-clause-result c = substituted_family c.in_ok-args.ensures.result

pub returns-clause-shaped : goal.returns-clause-shaped
returns-clause-shaped c = type_keeps_shape c.args.assign.now (atom_of c.args.atom.now) (family c.args.atom.now.family c.in_ok-args.args) (substituted_family c.in_ok-args.ensures.result)
