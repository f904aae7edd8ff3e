use Rattle.std.proofs.Common.{map, take, drop}
use Rattle.lf_definitions.specs.Syntax.{pis, family}
use Rattle.lf_terms.specs.Shapes.{simple_types_of}
use Rattle.lf_terms.specs.Targets.{goal_of}
use Rattle.lf_terms.specs.Terms.{spine_of}
use Rattle.lf_terms.specs.Types.{type_of, types_of}
use Rattle.meta_openings.specs.Arguments.{IsLeft}
use Rattle.meta_openings.proofs.arguments.open_arguments.Given as goal

abbrev pub invariant-loop-i : goal.invariant-loop-i
invariant-loop-i l =
    IsLeft l.setting l.fixed (type_of l.ty) l.i (simple_types_of (take l.i l.items)) (spine_of l.opened.terms.items) (map goal_of l.opened.goals.items)
    (pis (types_of (drop l.i l.types)) (family l.ty.family l.ty.args))
