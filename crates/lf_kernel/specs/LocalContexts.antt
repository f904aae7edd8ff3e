-- The types of the variables at a place in a term or a type.
use Rattle.std.specs.Prelude.{None}
use Rattle.lf_definitions.specs.Typing.{Typing, with_context}
use Rattle.lf_terms.specs.Types.{types_of}
use Rattle.lf_kernel.specs.declared.local_context.LocalContext.{LocalContext}
use Rattle.lf_kernel.specs.declared.local_context.LocalContext.TheVariants.{Closed, Under'}

-- the variables of each prefix, the outermost first, over the types of the other heads
abbrev pub typing_under : Typing → LocalContext → Typing
typing_under Γ Closed = Γ
typing_under Γ (Under' types p outside) = with_context (types_of types.now) (typing_under Γ outside)

-- no head has a type
abbrev pub no_heads : Typing
no_heads h = None
