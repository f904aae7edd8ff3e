use Rattle.lf_terms.specs.Types.{type_of}
use Rattle.meta_goals.specs.Instantiates.{TypeIsShaped}
use Rattle.goals_tests.specs.Settings.{scope_of, kinds_of}
use Rattle.goals_tests.proofs.PutParts.{puts}
use Rattle.goals_tests.proofs.instances.type_instance.Goals as goal

pub instantiate_type-requires : goal.instantiate_type-requires
instantiate_type-requires c =
    puts (scope_of c.args.setting.now c.args.variables.now) c.args.assign.now (TypeIsShaped (type_of c.in_ok-ty.ty)) c.requires (kinds_of c.args.setting.now, c.in_ok-fits.ensures c.if-not-fits.false)
