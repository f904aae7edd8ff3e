use Rattle.std.proofs.Common.{sym, ap, ◌∙◌}
use Rattle.meta_goals.specs.GoalsOf.{goals_of}
use Rattle.goal_expand.specs.Reaching.{built}
use Rattle.goal_expand.specs.Progress.{list_given, goals_reached, bindings_reached}
use Rattle.goal_expand.proofs.Reached.{may_follow}
use Rattle.goal_expand.proofs.Turns.{first_build, later_build}
use Rattle.goal_expand.proofs.taking.build_on.Goals as goal

pub returns-in-None : goal.returns-in-None
returns-in-None c =
    let both = first_build c.args.given.now.first (list_given c.args.given.now) c.args.reached.now c.args.assign c.in-None.is c.requires in
    record { build = both.0; shapes = both.1 }

pub follow-requires : goal.follow-requires
follow-requires c =
    let g = c.args.given.now in
    let r = c.in-Some.before in
    may_follow g.first (list_given g) (goals_of r.goals) r.build c.args.assign (later_build g.first (list_given g) c.args.reached.now c.args.assign r c.in-Some.is c.requires)

pub returns-in_ok-all-in-Some : goal.returns-in_ok-all-in-Some
returns-in_ok-all-in-Some c =
    let g = c.args.given.now in
    let r = c.in-Some.before in
    let m = may_follow g.first (list_given g) (goals_of r.goals) r.build c.args.assign (later_build g.first (list_given g) c.args.reached.now c.args.assign r c.in-Some.is c.requires) in
    record {
      build = c.in_ok-all-in-Some.ensures.found m ∙ ap (λ o. built (list_given g) (goals_reached (list_given g) o) (bindings_reached o) c.args.assign) (sym c.in-Some.is);
      shapes = c.in_ok-all-in-Some.ensures.shapes m;
    }
