use Rattle.std.proofs.Common.{◌+◌, ◌*◌, take}
use Rattle.lf_definitions.specs.Syntax.{metavariable, type_size, types_size}
use Rattle.lf_definitions.specs.Occurrence.{OccursInContext}
use Rattle.lf_terms.specs.Types.{type_of, types_of}
use Rattle.meta_goals.proofs.mentions.+type_mentions.Given as goal

abbrev pub decreases-type_mentions : goal.decreases-type_mentions
decreases-type_mentions l = 2 * type_size (type_of l.ty.now) + 1

abbrev pub decreases-types_mention : goal.decreases-types_mention
decreases-types_mention l = 2 * types_size l.types.now

abbrev pub invariant-types_mention-loop-i : goal.invariant-types_mention-loop-i
invariant-types_mention-loop-i l = OccursInContext (metavariable l.id) (types_of (take l.i l.items)) → ⊥
