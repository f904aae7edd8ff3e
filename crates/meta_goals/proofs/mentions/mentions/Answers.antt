use Rattle.meta_goals.proofs.Mentioning.{by_binders, by_args, refused}
use Rattle.meta_goals.proofs.mentions.mentions.Goals as goal

pub returns-then-types_mention : goal.returns-then-types_mention
returns-then-types_mention c =
    let g = c.args.g.now in
    by_binders c.args.id g.ctx g.target.family g.target.args c.types_mention.result c.if-types_mention.true (c.types_mention.ensures.0 c.if-types_mention.true)

pub returns-else-types_mention : goal.returns-else-types_mention
returns-else-types_mention c =
    let g = c.args.g.now in
    by_args c.args.id g.ctx g.target.family g.target.args c.terms_mention.result (refused c.args.id _ c.if-types_mention.false c.types_mention.ensures) c.terms_mention.ensures
