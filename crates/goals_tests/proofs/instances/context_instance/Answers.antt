use Rattle.std.proofs.Common.{subst}
use Rattle.std.specs.Prelude.{IfSome}
use Rattle.lf_definitions.specs.ShapedGoals.{ShapedContext}
use Rattle.meta_goals.specs.Instantiates.{ContextIsShaped}
use Rattle.goals_tests.specs.Settings.{scope_of, kinds_of}
use Rattle.goals_tests.proofs.PutParts.{puts}
use Rattle.goals_tests.proofs.instances.context_instance.Goals as goal

pub instantiate_context-requires : goal.instantiate_context-requires
instantiate_context-requires c =
    let Γ = scope_of c.args.setting.now c.args.variables.now in
    puts Γ c.args.assign.now (ContextIsShaped c.in_ok-ctx.ctx) c.requires
    (kinds_of c.args.setting.now, subst (λ found. IfSome found (λ inside. ShapedContext (kinds_of c.args.setting.now) Γ c.in_ok-ctx.ctx)) c.in-Some.is c.in_ok-scope_after.ensures.context)
