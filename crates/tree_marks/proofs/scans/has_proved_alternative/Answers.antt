use Rattle.std.proofs.Common.{◌<◌, sym, ◌∙◌, arith}
use Rattle.tree_marks.specs.TreeMarks.{marked}
use Rattle.tree_marks.proofs.Entries.{children_stand, proved_found, proved_refuted}
use Rattle.tree_marks.proofs.scans.has_proved_alternative.Goals as goal

pub are_all_proved-requires : goal.are_all_proved-requires
are_all_proved-requires c = let stand = children_stand c.args.shape.now.shape c.requires.shape c.args.node _ _ _ c.children-first.ensures in omega (arith, stand)

pub returns-then-are_all_proved : goal.returns-then-are_all_proved
returns-then-are_all_proved c = sym (proved_found c.args.shape.now.shape c.args.node _ _ (marked c.args.proved.now) c.children-first.ensures (sym c.are_all_proved.ensures ∙ c.if-are_all_proved.true))

pub returns : goal.returns
returns c = sym (proved_refuted c.args.shape.now.shape c.args.node c.in-Some.width (marked c.args.proved.now) c.in-Some.ensures
    (λ alternative entry within there. let small : alternative < c.loop-alternative.alternative = omega arith in c.loop-alternative.invariant alternative entry small there))
