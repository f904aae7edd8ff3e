use Rattle.std.proofs.Common.{sym, ◌∙◌, arith}
use Rattle.tree_runs.proofs.Marks.{above-rises}
use Rattle.tree_marks.proofs.Entries.{children_stand}
use Rattle.tree_marks.proofs.Knowing.{has_above, first_stands}
use Rattle.tree_marks.proofs.ChildFlags.{root_beside, open_beside, decided_beside}
use Rattle.tree_marks.proofs.spread.drop_beside.Goals as goal

pub returns-in_default-clause-beside : goal.returns-in_default-clause-beside
returns-in_default-clause-beside c = root_beside c.args.shape.now.shape c.requires.shape c.args.proved.now c.args.stuck.now c.args.node c.args.relevance.now.fading (sym c.in_default.ensures)

pub children-first-requires : goal.children-first-requires
children-first-requires c = has_above c.args.shape.now.shape c.requires.shape c.args.node (c.in-Some.parent, c.in-Some.alternative, c.in-Some.field-0-2) (sym c.in-Some.ensures)

pub decides-requires-clause-stand : goal.decides-requires-clause-stand
decides-requires-clause-stand c =
    let stand = children_stand c.args.shape.now.shape c.requires.shape c.in-Some.parent c.in-Some.alternative _ _ c.children-first.ensures in omega (arith, stand, c.requires.proved_size)

pub decides-requires-clause-first : goal.decides-requires-clause-first
decides-requires-clause-first c =
    let rises = above-rises c.args.shape.now.shape c.requires.shape c.args.node (c.in-Some.parent, c.in-Some.alternative, c.in-Some.field-0-2) (sym c.in-Some.ensures) in
    let stands = first_stands c.args.shape.now.shape c.requires.shape c.in-Some.parent c.in-Some.alternative _ _ (omega (arith, rises, c.requires.stands)) c.children-first.ensures in
    omega (arith, stands, c.requires.known_size)

pub drop_range-requires : goal.drop_range-requires
drop_range-requires c =
    let stand = children_stand c.args.shape.now.shape c.requires.shape c.in-Some.parent c.in-Some.alternative _ _ c.children-first.ensures in omega (arith, stand, c.requires.size)

pub returns-then-decides-clause-beside : goal.returns-then-decides-clause-beside
returns-then-decides-clause-beside c =
    decided_beside c.args.shape.now.shape c.requires.shape c.args.proved.now c.args.stuck.now c.args.node (c.in-Some.parent, c.in-Some.alternative, c.in-Some.field-0-2) _ _ c.args.relevance.now.fading _
    (sym c.in-Some.ensures) c.children-first.ensures (sym c.decides.ensures ∙ c.if-decides.true) c.drop_range.ensures.fades c.drop_range.ensures.inside

pub returns-else-decides-clause-beside : goal.returns-else-decides-clause-beside
returns-else-decides-clause-beside c =
    open_beside c.args.shape.now.shape c.requires.shape c.args.proved.now c.args.stuck.now c.args.node (c.in-Some.parent, c.in-Some.alternative, c.in-Some.field-0-2) _ _ c.args.relevance.now.fading
    (sym c.in-Some.ensures) c.children-first.ensures (sym c.decides.ensures ∙ c.if-decides.false)
