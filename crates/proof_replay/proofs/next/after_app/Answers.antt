use Rattle.std.proofs.Common.{map}
use Rattle.meta_goals.specs.Bindings.{assigned_of}
use Rattle.meta_goals.specs.GoalsOf.{goals_of}
use Rattle.proof_replay.proofs.Coming.{shapes_of_all, may_follow, both_are}
use Rattle.proof_replay.proofs.next.after_app.Goals as goal

pub advance-requires-clause-may_be_taken : goal.advance-requires-clause-may_be_taken
advance-requires-clause-may_be_taken c = c.requires.step.may_be_taken

pub advance-requires-clause-shapes : goal.advance-requires-clause-shapes
advance-requires-clause-shapes c = shapes_of_all c.args.sig.now (goals_of c.args.goals.now) (goals_of c.args.normed.now.goals) c.args.normed.now.build c.args.app.now c.requires

pub follow-requires : goal.follow-requires
follow-requires c = may_follow c.args.sig.now (goals_of c.args.goals.now) (goals_of c.args.normed.now.goals) c.args.normed.now.build c.args.app.now c.requires c.in_ok-first.first c.in_ok-first.ensures

pub returns-clause-found : goal.returns-clause-found
returns-clause-found c =
    both_are (goals_of c.in_ok-list.list) _ (map assigned_of c.in_ok-build.build) _ c.in_ok-list.ensures
    (c.in_ok-build.ensures.found
    (may_follow c.args.sig.now (goals_of c.args.goals.now) (goals_of c.args.normed.now.goals) c.args.normed.now.build c.args.app.now c.requires c.in_ok-first.first c.in_ok-first.ensures))

pub returns-clause-shapes : goal.returns-clause-shapes
returns-clause-shapes c =
    c.in_ok-build.ensures.shapes
    (may_follow c.args.sig.now (goals_of c.args.goals.now) (goals_of c.args.normed.now.goals) c.args.normed.now.build c.args.app.now c.requires c.in_ok-first.first c.in_ok-first.ensures)
