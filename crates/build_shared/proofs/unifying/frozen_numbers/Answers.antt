use Rattle.std.proofs.Common.{[], ◌∷◌, ◌++◌, sym, ap, ◌∙◌}
use Rattle.std.specs.Prelude.{nat_eq}
use Rattle.std.specs.List.{list_any}
use Rattle.unification.specs.Patterns.{has_number}
use Rattle.lf_definitions.specs.GoalLists.{ids}
use Rattle.applications.specs.Applications.{freezing}
use Rattle.build_shared.specs.Attempts.{goals_at, goal_at}
use Rattle.build_shared.specs.Seen.{seen_outcome}
use Rattle.build_shared.proofs.FrozenNumbers.{only_number, any_number, numbers_of_both}
use Rattle.build_shared.proofs.unifying.frozen_numbers.Goals as goal

pub returns-in_ok-push-in-Closes : goal.returns-in_ok-push-in-Closes
returns-in_ok-push-in-Closes c = λ m.
    let a = c.args.attempt.now in
    ap (λ o. freezing (seen_outcome o) (goals_at a) (goal_at a) m) c.in-Closes.is ∙ only_number a.goal.now.id m
    ∙ ap (λ l. has_number l m) (sym (c.in_ok-push-in-Closes.ensures.ok ∙ ap (λ l. l ++ a.goal.now.id ∷ []) c.new-frozen.ensures))

pub returns-in_ok-add_numbers-in-Adds-2 : goal.returns-in_ok-add_numbers-in-Adds-2
returns-in_ok-add_numbers-in-Adds-2 c = λ m.
    let a = c.args.attempt.now in
    ap (λ o. freezing (seen_outcome o) (goals_at a) (goal_at a) m) c.in-Adds.is ∙ ap (list_any (nat_eq m)) (numbers_of_both a.goals.now.proofs a.goals.now.witnesses) ∙ any_number (ids a.goals.now.proofs ++ ids a.goals.now.witnesses) m
    ∙ ap (λ l. has_number l m) (sym (c.in_ok-add_numbers-in-Adds-2.ensures ∙ ap (λ l. l ++ ids a.goals.now.witnesses) (c.in_ok-add_numbers-in-Adds.ensures ∙ ap (λ l. l ++ ids a.goals.now.proofs) c.new-frozen.ensures)))
