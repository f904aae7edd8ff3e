use Rattle.std.proofs.Common.{◌<◌, sym, ◌∙◌, arith}
use Rattle.tree_marks.specs.TreeMarks.{marked}
use Rattle.tree_marks.proofs.Entries.{children_stand, stuck_found, stuck_refuted}
use Rattle.tree_marks.proofs.scans.has_only_stuck_alternatives.Goals as goal

pub is_some_stuck-requires : goal.is_some_stuck-requires
is_some_stuck-requires c = let stand = children_stand c.args.shape.now.shape c.requires.shape c.args.node _ _ _ c.children-first.ensures in omega (arith, stand)

pub returns-then-not-is_some_stuck : goal.returns-then-not-is_some_stuck
returns-then-not-is_some_stuck c = sym (stuck_refuted c.args.shape.now.shape c.args.node _ _ (marked c.args.stuck.now) c.children-first.ensures (sym c.is_some_stuck.ensures ∙ c.if-not-is_some_stuck.true))

pub returns : goal.returns
returns c = sym (stuck_found c.args.shape.now.shape c.args.node c.in-Some.width (marked c.args.stuck.now) c.in-Some.ensures
    (λ alternative entry within there. let small : alternative < c.loop-alternative.alternative = omega arith in c.loop-alternative.invariant alternative entry small there))
