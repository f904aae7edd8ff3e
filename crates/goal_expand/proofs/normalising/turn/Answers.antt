use Rattle.std.proofs.Common.{Option, Some, None, sym, subst}
use Rattle.lf_definitions.specs.ShapedGoals.{ShapedGoals}
use Rattle.lf_definitions.specs.GoalLists.{LfGoals, all_goals, next_id}
use Rattle.applications.specs.Applications.{LfApplication}
use Rattle.meta_goals.specs.GoalsOf.{goals_of}
use Rattle.alternatives.specs.NormalForms.{first_lawful}
use Rattle.build_shared.specs.Seen.{seen_application}
use Rattle.goal_expand.specs.declared.given.Given.{Given}
use Rattle.goal_expand.specs.Progress.{sig_given, rules_given, goals_made}
use Rattle.goal_expand.proofs.Turns.{found_at, shapes_at, found_is_step, ends, turned}
use Rattle.goal_expand.proofs.normalising.turn.Goals as goal

abbrev lawful_at : Given → LfGoals → Option LfApplication
lawful_at g l = first_lawful (sig_given g) (rules_given g) (next_id l) l

pub lawful-requires : goal.lawful-requires
lawful-requires c =
    subst (λ l. ShapedGoals (sig_given c.args.given.now) (all_goals l)) (sym c.list_after-goals.ensures) c.requires.under_way.1.1.reached.takes.shaped

pub returns-in-None : goal.returns-in-None
returns-in-None c =
    let g = c.args.given.now in
    let old = c.args.made.now in
    λ left way.
    ends g c.requires.given left old way
    (found_at (lawful_at g) (goals_of c.list_after-goals.result.now) (goals_made g old) c.list_after-goals.ensures c.in_ok-found.found c.in_ok-found.ensures.found None c.in-None.is)

pub add_step-requires-clause-reached : goal.add_step-requires-clause-reached
add_step-requires-clause-reached c = c.requires.under_way.1.1.reached

pub add_step-requires-clause-next : goal.add_step-requires-clause-next
add_step-requires-clause-next c =
    let g = c.args.given.now in
    let old = c.args.made.now in
    let app = c.in-Some.app in
    let list = goals_of c.list_after-goals.result.now in
    record {
      step = found_is_step g c.requires.given c.requires.under_way.0 old c.requires.under_way.1 (seen_application app)
          (found_at (lawful_at g) list (goals_made g old) c.list_after-goals.ensures c.in_ok-found.found c.in_ok-found.ensures.found (Some app) c.in-Some.is);
      shapes = shapes_at list (goals_made g old) c.list_after-goals.ensures c.in_ok-found.found c.in_ok-found.ensures.shapes app c.in-Some.is;
    }

pub returns-in_ok-add_step-in-Some : goal.returns-in_ok-add_step-in-Some
returns-in_ok-add_step-in-Some c =
    let g = c.args.given.now in
    let old = c.args.made.now in
    let app = c.in-Some.app in
    λ left way.
    turned g c.requires.given left old way app c.add_step.new.made
    (found_at (lawful_at g) (goals_of c.list_after-goals.result.now) (goals_made g old) c.list_after-goals.ensures c.in_ok-found.found c.in_ok-found.ensures.found (Some app) c.in-Some.is)
    c.in_ok-add_step-in-Some.ensures
