use Rattle.std.proofs.Common.{refl, ap, subst, arith}
use Rattle.lf_definitions.specs.Syntax.{metavariable, types_size}
use Rattle.lf_definitions.specs.Occurrence.{OccursInContext}
use Rattle.lf_terms.specs.TypeSizes.{binders_size}
use Rattle.lf_terms.proofs.TypeLists.{item_size}
use Rattle.meta_goals.proofs.Mentioning.{none_in_context, by_binders, by_args, none_before_context, not_yet_in_context, found_in_context, not_in_context, refused}
use Rattle.meta_goals.proofs.mentions.+type_mentions.Goals as goal

pub type_mentions-types_mention-requires : goal.type_mentions-types_mention-requires
type_mentions-types_mention-requires t c =
    let ty = c.args.ty.now in
    (omega (arith, c.decreases, binders_size ty.binders ty.family ty.args), tt)

pub type_mentions-returns-then-types_mention : goal.type_mentions-returns-then-types_mention
type_mentions-returns-then-types_mention t c =
    let ty = c.args.ty.now in
    by_binders c.args.id ty.binders ty.family ty.args c.types_mention.result c.if-types_mention.true (c.types_mention.ensures.0 c.if-types_mention.true)

pub type_mentions-returns-else-types_mention : goal.type_mentions-returns-else-types_mention
type_mentions-returns-else-types_mention t c =
    let ty = c.args.ty.now in
    by_args c.args.id ty.binders ty.family ty.args c.terms_mention.result (refused c.args.id _ c.if-types_mention.false c.types_mention.ensures) c.terms_mention.ensures

pub types_mention-returns-then-not-has_metas : goal.types_mention-returns-then-not-has_metas
types_mention-returns-then-not-has_metas t c = none_in_context c.args.id c.args.types.now (c.has_metas.ensures c.if-not-has_metas.true)

pub types_mention-loop-i-init : goal.types_mention-loop-i-init
types_mention-loop-i-init t c = none_before_context c.args.id

pub types_mention-type_mentions-requires : goal.types_mention-type_mentions-requires
types_mention-type_mentions-requires t c =
    (omega (arith, c.decreases, ap types_size c.as_slice-items.ensures, item_size c.as_slice-items.result.now c.loop-i.i c.index-items-i.result c.loop-i-test.true c.index-items-i.is), tt)

pub types_mention-returns-then-type_mentions : goal.types_mention-returns-then-type_mentions
types_mention-returns-then-type_mentions t c = (
  λ _. subst (OccursInContext (metavariable c.args.id)) c.as_slice-items.ensures
      (found_in_context c.args.id c.as_slice-items.result.now c.loop-i.i c.index-items-i.result c.loop-i-test.true c.index-items-i.is (c.type_mentions.ensures.0 c.if-type_mentions.true)),
  λ _. refl,
)

pub types_mention-loop-i-preserved : goal.types_mention-loop-i-preserved
types_mention-loop-i-preserved t c =
    not_yet_in_context c.args.id c.as_slice-items.result.now c.loop-i.i c.index-items-i.result c.loop-i-test.true c.index-items-i.is c.loop-i.invariant (refused c.args.id _ c.if-type_mentions.false c.type_mentions.ensures)

pub types_mention-returns : goal.types_mention-returns
types_mention-returns t c = not_in_context c.args.id c.as_slice-items.result.now c.loop-i.i c.args.types.now c.loop-i-test.false c.as_slice-items.ensures c.loop-i.invariant
