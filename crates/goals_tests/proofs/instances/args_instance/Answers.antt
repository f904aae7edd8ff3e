use Rattle.std.proofs.Common.{subst}
use Rattle.std.specs.Prelude.{IfSome}
use Rattle.lf_definitions.specs.Shaping.{ShapedType}
use Rattle.lf_terms.specs.Types.{atom_of}
use Rattle.meta_goals.specs.Instantiates.{ArgsAreShaped}
use Rattle.goals_tests.specs.Settings.{scope_of, kinds_of}
use Rattle.goals_tests.proofs.Scopes.{args_shaped}
use Rattle.goals_tests.proofs.PutParts.{puts}
use Rattle.goals_tests.proofs.instances.args_instance.Goals as goal

pub instantiate_all-requires : goal.instantiate_all-requires
instantiate_all-requires c =
    let Γ = scope_of c.args.setting.now c.args.variables.now in
    puts Γ c.args.assign.now (ArgsAreShaped c.in-Some.atom.args) c.requires
    (args_shaped (subst (λ found. IfSome found (λ atom. ShapedType (kinds_of c.args.setting.now) Γ (atom_of atom))) c.in-Some.is c.in_ok-atom.ensures))
