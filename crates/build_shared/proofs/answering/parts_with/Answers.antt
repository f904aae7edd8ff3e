use Rattle.std.proofs.Common.{true, false, sym, ◌∙◌, subst}
use Rattle.meta_goals.specs.Laws.{HaveShapesOf}
use Rattle.build_shared.specs.Attempts.{goals_at, goal_at, candidate_at}
use Rattle.build_shared.specs.Completed.{seen_completed}
use Rattle.build_shared.proofs.WholeBindings.{tested_in, all_differ, below_have_shapes}
use Rattle.build_shared.proofs.Composing.{counts_in, parts_are}
use Rattle.build_shared.proofs.answering.parts_with.Goals as goal

pub what_remains-requires : goal.what_remains-requires
what_remains-requires c = (c.args.entries.now, c.in_ok-whole.ensures)

pub are_typed-requires : goal.are_typed-requires
are_typed-requires c =
    let a = c.args.attempt.now in
    let w = c.in_ok-whole.ensures in
    tested_in a.sig.now (goals_at a) a.first (goal_at a) (candidate_at a) c.args.entries.now (seen_completed c.args.done.now) w.completed_at c.in_ok-whole.whole.all c.in_ok-whole.whole.others w.others_are w.all_are
    c.in_ok-left.left.list c.in_ok-left.ensures.list

pub returns-then-not-branch-clause-found : goal.returns-then-not-branch-clause-found
returns-then-not-branch-clause-found c =
    let a = c.args.attempt.now in
    let w = c.in_ok-whole.ensures in
    counts_in a.sig.now (goals_at a) a.first (goal_at a) (candidate_at a) c.args.entries.now (seen_completed c.args.done.now) w.completed_at c.in_ok-whole.whole.all c.in_ok-whole.whole.others w.others_are w.all_are
    c.in_ok-left.left.list c.in_ok-left.ensures.list false (sym c.if-not-branch.true ∙ c.in_ok-are_typed.ensures)

pub entries_below-requires : goal.entries_below-requires
entries_below-requires c =
    let a = c.args.attempt.now in
    let w = c.in_ok-whole.ensures in
    all_differ a.sig.now (goals_at a) a.first (goal_at a) (candidate_at a) c.args.entries.now (seen_completed c.args.done.now) w.completed_at c.in_ok-whole.whole.all c.in_ok-whole.whole.others w.others_are w.all_are

pub returns-clause-found : goal.returns-clause-found
returns-clause-found c =
    let a = c.args.attempt.now in
    let w = c.in_ok-whole.ensures in
    parts_are a.sig.now (goals_at a) a.first (goal_at a) (candidate_at a) c.args.entries.now (seen_completed c.args.done.now) w.completed_at c.in_ok-whole.whole.all c.in_ok-whole.whole.others w.others_are w.all_are
    c.in_ok-left.left.list c.in_ok-left.ensures.list c.in_ok-assign.assign c.in_ok-left.left.proofs c.in_ok-left.left.witnesses c.assigns_another-assigns_others.result c.in_ok-assign.ensures c.in_ok-left.ensures.proofs
    c.in_ok-left.ensures.witnesses c.assigns_another-assigns_others.ensures
    ∙ counts_in a.sig.now (goals_at a) a.first (goal_at a) (candidate_at a) c.args.entries.now (seen_completed c.args.done.now) w.completed_at c.in_ok-whole.whole.all c.in_ok-whole.whole.others w.others_are w.all_are
    c.in_ok-left.left.list c.in_ok-left.ensures.list true (sym c.if-not-branch.false ∙ c.in_ok-are_typed.ensures)

pub returns-clause-shapes : goal.returns-clause-shapes
returns-clause-shapes c =
    let a = c.args.attempt.now in
    let w = c.in_ok-whole.ensures in
    let tested = tested_in a.sig.now (goals_at a) a.first (goal_at a) (candidate_at a) c.args.entries.now (seen_completed c.args.done.now) w.completed_at c.in_ok-whole.whole.all c.in_ok-whole.whole.others w.others_are w.all_are
    c.in_ok-left.left.list c.in_ok-left.ensures.list in
    subst (HaveShapesOf (goals_at a)) (sym c.in_ok-assign.ensures) (below_have_shapes (goals_at a) (candidate_at a).opened.fresh a.first c.in_ok-whole.whole.all tested.have_shapes)
