use Rattle.std.proofs.Common.{◌+◌, ◌∙◌, length, ap, sym, arith}
use Rattle.tree_runs.specs.Marks.{all_from, is_proved}
use Rattle.tree_runs.proofs.Marks.{all_from-agree}
use Rattle.tree_marks.specs.TreeMarks.{MarksRoom, marked, entry_proved}
use Rattle.tree_marks.proofs.Entries.{children_stand}
use Rattle.tree_marks.proofs.marks.Marks.proves.Goals as goal

pub are_all_proved-requires : goal.are_all_proved-requires
are_all_proved-requires c =
    let stand = children_stand c.args.shape.now.shape c.requires.marks.is_shape c.args.node c.args.alternative _ _ c.children-first.ensures in
    let same = c.as_slice.ensures.value ∙ ap (λ (m : MarksRoom). m.marks.proved) c.self.view_is in
    omega (arith, stand, ap length same, c.requires.marks.proved_size)

pub returns : goal.returns
returns c =
    let first = c.children-first.result.0 in
    let count = c.children-first.result.1 in
    let same = c.as_slice.ensures.value ∙ ap (λ (m : MarksRoom). m.marks.proved) c.self.view_is in
    c.are_all_proved.ensures ∙ (ap (λ flags. all_from (marked flags) first count) same
    ∙ (all_from-agree (marked c.args.self.now.marks.proved) (is_proved c.args.shape.now.shape) first count (λ place within. c.requires.marks.proved_is (first + place))
    ∙ ap (entry_proved (is_proved c.args.shape.now.shape)) (sym c.children-first.ensures)))
