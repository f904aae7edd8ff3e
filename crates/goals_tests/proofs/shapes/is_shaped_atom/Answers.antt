use Rattle.std.proofs.Common.{subst}
use Rattle.lf_definitions.specs.Syntax.{constant, at, base}
use Rattle.lf_definitions.specs.Shaping.{Shaped}
use Rattle.goals_tests.specs.Settings.{scope_of}
use Rattle.goals_tests.proofs.Scopes.{family_shaped}
use Rattle.goals_tests.proofs.shapes.is_shaped_atom.Goals as goal

pub returns : goal.returns
returns c holds =
    family_shaped c.args.setting.now.constants c.args.setting.now.metas c.args.variables.now c.args.number c.args.args.now
    (subst (λ ts. Shaped (scope_of c.args.setting.now c.args.variables.now) (at (constant c.args.number) ts) base) c.in_ok-copy.ensures (c.is_shaped.ensures holds))
