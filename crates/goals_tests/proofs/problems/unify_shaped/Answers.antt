use Rattle.unification.specs.Patterns.{has_number}
use Rattle.goals_tests.specs.Settings.{scope_of, kinds_of}
use Rattle.goals_tests.proofs.ShapedPairs.{numbered_shaped}
use Rattle.goals_tests.proofs.PutParts.{answer_may_be_put}
use Rattle.goals_tests.proofs.problems.unify_shaped.Goals as goal

pub unify-requires : goal.unify-requires
unify-requires c =
    (kinds_of c.args.setting.now, scope_of c.args.setting.now c.args.variables.now, numbered_shaped c.args.setting.now c.args.variables.now 0 c.args.equations.now c.requires)

pub returns : goal.returns
returns c =
    answer_may_be_put (kinds_of c.args.setting.now) (scope_of c.args.setting.now c.args.variables.now) (has_number c.args.frozen.now) c.args.equations.now c.in_ok-unified.unified
    (numbered_shaped c.args.setting.now c.args.variables.now 0 c.args.equations.now c.requires) c.in_ok-unified.ensures.ending c.in_ok-unified.ensures.contexts
