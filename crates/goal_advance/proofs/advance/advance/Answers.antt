use Rattle.meta_goals.specs.GoalsOf.{goals_of}
use Rattle.goal_advance.proofs.GoalsAfter.{proofs_can_leave, witnesses_can_leave, advanced}
use Rattle.goal_advance.proofs.advance.advance.Goals as goal

pub add_left-requires : goal.add_left-requires
add_left-requires c =
    let r = c.requires in
    (_, (proofs_can_leave c.args.sig.now (goals_of c.args.goals.now) c.args.app.now r.may_be_taken r.shapes).0)

pub add_left-requires-2 : goal.add_left-requires-2
add_left-requires-2 c =
    let r = c.requires in
    (_, (proofs_can_leave c.args.sig.now (goals_of c.args.goals.now) c.args.app.now r.may_be_taken r.shapes).1)

pub add_left-requires-3 : goal.add_left-requires-3
add_left-requires-3 c =
    let r = c.requires in
    (_, (witnesses_can_leave c.args.sig.now (goals_of c.args.goals.now) c.args.app.now r.may_be_taken r.shapes).0)

pub add_left-requires-4 : goal.add_left-requires-4
add_left-requires-4 c =
    let r = c.requires in
    (_, (witnesses_can_leave c.args.sig.now (goals_of c.args.goals.now) c.args.app.now r.may_be_taken r.shapes).1)

pub returns : goal.returns
returns c =
    let r = c.requires in
    let list = goals_of c.args.goals.now in
    let app = c.args.app.now in
    let proofs = proofs_can_leave c.args.sig.now list app r.may_be_taken r.shapes in
    let witnesses = witnesses_can_leave c.args.sig.now list app r.may_be_taken r.shapes in
    advanced list app _ _ _ _ _ _ c.new-proofs.ensures (c.in_ok-add_left.ensures _ proofs.0) (c.in_ok-add_left-2.ensures _ proofs.1) c.new-witnesses.ensures (c.in_ok-add_left-3.ensures _ witnesses.0)
    (c.in_ok-add_left-4.ensures _ witnesses.1)
