use Rattle.std.proofs.Common.{map, sym, ap, ◌∙◌, subst}
use Rattle.lf_definitions.specs.ShapedGoals.{ShapedGoals}
use Rattle.lf_definitions.specs.GoalLists.{all_goals, next_id}
use Rattle.build_shared.specs.RuleUses.{KnowShapes}
use Rattle.goal_book.specs.GoalBooks.{fitting_in}
use Rattle.goal_book.specs.Choices.{choices}
use Rattle.goal_expand.specs.Progress.{sig_given, rules_given}
use Rattle.goal_expand.proofs.Safe.{choices_are_next, all_are_taken}
use Rattle.goal_expand.proofs.expanding.chosen.Goals as goal

pub choices-requires-clause-goals : goal.choices-requires-clause-goals
choices-requires-clause-goals c =
    subst (λ l. ShapedGoals (sig_given c.args.given.now) (all_goals l)) (sym c.list_after-goals.ensures) c.requires.reached.takes.shaped

pub choices-requires-clause-fitting : goal.choices-requires-clause-fitting
choices-requires-clause-fitting c = c.requires.fitting ∙ ap (fitting_in c.args.given.now.book.now) (sym c.list_after-goals.ensures)

pub each_chosen-requires-clause-choices : goal.each_chosen-requires-clause-choices
each_chosen-requires-clause-choices c =
    let g = c.args.given.now in
    let cs = c.in_ok-offered.offered.items in
    choices_are_next g c.requires.given c.args.made.now c.requires.reached cs
    (c.in_ok-offered.ensures.choices ∙ ap (λ l. choices (sig_given g) (rules_given g) (next_id l) l) c.list_after-goals.ensures)
    (subst (λ l. KnowShapes (all_goals l) (map (λ choice. choice.app) cs)) c.list_after-goals.ensures c.in_ok-offered.ensures.shapes)

pub returns-clause-alternatives : goal.returns-clause-alternatives
returns-clause-alternatives c =
    let g = c.args.given.now in
    c.in_ok-found.ensures.alternatives
    ∙ all_are_taken g c.args.made.now c.in_ok-offered.offered.items
    (c.in_ok-offered.ensures.choices ∙ ap (λ l. choices (sig_given g) (rules_given g) (next_id l) l) c.list_after-goals.ensures)
