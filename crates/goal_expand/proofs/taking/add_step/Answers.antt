use Rattle.goal_expand.proofs.Turns.{may_build_on, one_label}
use Rattle.goal_expand.proofs.taking.add_step.Goals as goal

pub build_on-requires : goal.build_on-requires
build_on-requires c = may_build_on c.args.given.now c.requires.given c.args.made.now.reached c.requires.reached c.args.app c.requires.next

pub returns : goal.returns
returns c = record {
  labels_are = one_label c.args.made.now.labels.items _ c.args.app.label c.in_ok-push.ensures.items;
  closed_is = c.closes-closed.ensures;
  goals_are = c.in_ok-goals.ensures;
  build_is = c.in_ok-build.ensures.build;
  shapes = c.in_ok-build.ensures.shapes;
}
