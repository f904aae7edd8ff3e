use Rattle.std.proofs.Common.{◌+◌}
use Rattle.lf_definitions.specs.Syntax.{type_size, types_size}
use Rattle.lf_definitions.specs.Shaping.{globals}
use Rattle.lf_terms.specs.Types.{type_of}
use Rattle.goals_tests.specs.Settings.{kinds_of}
use Rattle.goals_tests.proofs.Scopes.{FirstShaped}
use Rattle.goals_tests.proofs.shapes.+is_shaped_type.Given as goal

abbrev pub decreases-is_shaped_type : goal.decreases-is_shaped_type
decreases-is_shaped_type l = type_size (type_of l.ty.now) + 1

abbrev pub decreases-scope_after : goal.decreases-scope_after
decreases-scope_after l = types_size l.types.now

abbrev pub invariant-scope_after-loop-i : goal.invariant-scope_after-loop-i
invariant-scope_after-loop-i l = FirstShaped (kinds_of l.setting) (globals l.setting.constants l.setting.metas) l.variables l.items l.i l.inside
