use Rattle.std.proofs.Common.{Option, Some, None, sym, ap, ◌∙◌, subst}
use Rattle.lf_definitions.specs.ShapedGoals.{ShapedGoals}
use Rattle.lf_definitions.specs.GoalLists.{LfGoals, all_goals, next_id}
use Rattle.applications.specs.Applications.{LfApplication}
use Rattle.meta_goals.specs.GoalsOf.{goals_of}
use Rattle.alternatives.specs.Alternatives.{first_safe}
use Rattle.goal_book.specs.GoalBooks.{fitting_in}
use Rattle.goal_expand.specs.declared.given.Given.{Given}
use Rattle.goal_expand.specs.Progress.{sig_given, rules_given, goals_made}
use Rattle.goal_expand.proofs.Turns.{found_at, shapes_at}
use Rattle.goal_expand.proofs.Safe.{none_safe, some_safe, safe_is_next}
use Rattle.goal_expand.proofs.expanding.expanded.Goals as goal

abbrev safe_at : Given → LfGoals → Option LfApplication
safe_at g l = first_safe (sig_given g) (rules_given g) (next_id l) l

pub first_safe-requires-clause-goals : goal.first_safe-requires-clause-goals
first_safe-requires-clause-goals c =
    subst (λ l. ShapedGoals (sig_given c.args.given.now) (all_goals l)) (sym c.list_after-goals.ensures) c.requires.reached.takes.shaped

pub chosen-requires-clause-fitting : goal.chosen-requires-clause-fitting
chosen-requires-clause-fitting c = c.in_ok-fitting.ensures ∙ ap (fitting_in c.args.given.now.book.now) c.list_after-goals.ensures

pub returns-in_ok-found-in-None : goal.returns-in_ok-found-in-None
returns-in_ok-found-in-None c =
    let g = c.args.given.now in
    let p = c.args.made in
    record {
      alternatives = c.in_ok-found-in-None.ensures.alternatives
          ∙ none_safe g c.requires.given p c.requires.reached
          (found_at (safe_at g) (goals_of c.list_after-goals.result.now) (goals_made g p) c.list_after-goals.ensures c.in_ok-safe.safe c.in_ok-safe.ensures.found None c.in-None.is);
      shapes = c.in_ok-found-in-None.ensures.shapes;
    }

pub committed-requires-clause-next : goal.committed-requires-clause-next
committed-requires-clause-next c =
    let g = c.args.given.now in
    let p = c.args.made in
    let list = goals_of c.list_after-goals.result.now in
    safe_is_next g c.requires.given p c.requires.reached c.in-Some.app
    (found_at (safe_at g) list (goals_made g p) c.list_after-goals.ensures c.in_ok-safe.safe c.in_ok-safe.ensures.found (Some c.in-Some.app) c.in-Some.is)
    (shapes_at list (goals_made g p) c.list_after-goals.ensures c.in_ok-safe.safe c.in_ok-safe.ensures.shapes c.in-Some.app c.in-Some.is)

pub returns-in_ok-found-in-Some : goal.returns-in_ok-found-in-Some
returns-in_ok-found-in-Some c =
    let g = c.args.given.now in
    let p = c.args.made in
    record {
      alternatives = c.in_ok-found-in-Some.ensures.alternatives
          ∙ some_safe g c.requires.given p c.requires.reached c.in-Some.app
          (found_at (safe_at g) (goals_of c.list_after-goals.result.now) (goals_made g p) c.list_after-goals.ensures c.in_ok-safe.safe c.in_ok-safe.ensures.found (Some c.in-Some.app) c.in-Some.is);
      shapes = c.in_ok-found-in-Some.ensures.shapes;
    }
