use Rattle.std.proofs.Common.{get_or, refl, sym, ap, ◌∙◌, arith}
use Rattle.tree_marks.proofs.Fallen.{ups-set, fades_one}
use Rattle.tree_marks.proofs.relevance.fade.Goals as goal

pub push_reserved-requires : goal.push_reserved-requires
push_reserved-requires c =
    let up = ap (get_or c.args.flags.now.items c.args.node) (sym c.if-not-index.false) ∙ (sym c.index.ensures ∙ c.if-not-index.false) in
    let less = ups-set c.args.flags.now.items c.args.node c.requires.within up in omega (arith, less, c.requires.room)

pub returns-clause-fades : goal.returns-clause-fades
returns-clause-fades c =
    let up = ap (get_or c.args.flags.now.items c.args.node) (sym c.if-not-index.false) ∙ (sym c.index.ensures ∙ c.if-not-index.false) in
    fades_one c.args.flags.now.items _ c.args.pending.now.items _ c.args.node c.requires.within up refl c.push_reserved.ensures.items
