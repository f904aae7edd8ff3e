-- The scope of a place in a term.
use Rattle.std.specs.Prelude.{None}
use Rattle.lf_definitions.specs.Shaping.{Scope, under_all}
use Rattle.lf_terms.specs.declared.shaped.LocalShapes.{LocalShapes}
use Rattle.lf_terms.specs.declared.shaped.LocalShapes.TheVariants.{Context, Under'}

-- the variables of the context, and then those of each prefix, over what is known of other heads
abbrev pub scope_under : Scope → LocalShapes → Scope
scope_under Γ (Context ctx) = under_all ctx.now Γ
scope_under Γ (Under' shapes p outside) = under_all shapes.now (scope_under Γ outside)

-- no head is known
abbrev pub no_globals : Scope
no_globals h = None
