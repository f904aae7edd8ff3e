use Rattle.std.proofs.Common.{◌≡◌, ◌++◌, subst}
use Rattle.std.specs.Prelude.{IfSome}
use Rattle.lf_definitions.specs.Syntax.{shapes_of_types}
use Rattle.lf_definitions.specs.Shaping.{globals}
use Rattle.lf_definitions.specs.ShapedGoals.{ShapedContext}
use Rattle.goals_tests.specs.Settings.{scope_of, kinds_of}
use Rattle.goals_tests.proofs.Scopes.{shaped_inside}
use Rattle.goals_tests.proofs.shapes.is_shaped_goal.Goals as goal

pub returns-in_ok-is_shaped_atom-in-Some : goal.returns-in_ok-is_shaped_atom-in-Some
returns-in_ok-is_shaped_atom-in-Some c =
    let setting = c.args.setting.now in
    let variables = c.args.variables.now in
    let g = c.args.goal.now in
    λ holds. (
      subst (λ found. IfSome found (λ inside. ShapedContext (kinds_of setting) (scope_of setting variables) g.ctx)) c.in-Some.is c.in_ok-scope_after.ensures.context,
      shaped_inside (kinds_of setting) (globals setting.constants setting.metas) variables c.in-Some.inside g.ctx g.target.family g.target.args
          (subst (λ found. IfSome found (λ inside. inside ≡ variables ++ shapes_of_types g.ctx)) c.in-Some.is c.in_ok-scope_after.ensures.shapes) (c.in_ok-is_shaped_atom-in-Some.ensures holds),
    )
