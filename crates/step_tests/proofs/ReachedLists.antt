-- The list of each alternative of a shaped list is shaped.
use Rattle.std.proofs.Common.{◌≡◌, ℕ, ◌<◌, List, length, get_or, map, All, sym, subst}
use Rattle.std.proofs.lemmas.List.Elements.{All-get_or}
use Rattle.std.proofs.lemmas.List.{length-map, get_or-map}
use Rattle.lf_definitions.specs.ShapedGoals.{ShapedGoals}
use Rattle.lf_definitions.specs.GoalLists.{LfGoals, all_goals, next_id}
use Rattle.meta_goals.specs.GoalsOf.{goals_of}
use Rattle.alternatives.specs.Alternatives.{LfAlternative, alternatives}
use Rattle.alternatives.specs.Taking.{Takes}
use Rattle.alternatives.specs.Steps.{AreOldOrNew}
use Rattle.taken_alternatives.proofs.Laws.{alternatives_are_reached}
use Rattle.goal_book.specs.GoalBooks.{LfBook, rules_in}
use Rattle.goal_expand.specs.declared.alternative.Alternative.{Alternative}
use Rattle.goal_expand.specs.Progress.{MayExpand}
use Rattle.goal_expand.specs.Seen.{seen_alternative}

pub list_is_shaped : (b : LfBook) (list : LfGoals) → MayExpand b list → (found : List Alternative) → map seen_alternative found ≡ alternatives b.sig (rules_in b) (next_id list) list →
    (i : ℕ) (x d : Alternative) → i < length found → x ≡ get_or found i d → ShapedGoals b.sig (all_goals (goals_of x.goals))
list_is_shaped b list may found are i x d within is =
    let IsReached : LfAlternative → Type 0 = λ a. Takes b.sig list a.goals a.build × AreOldOrNew list (next_id list) a.goals in
    let all : All IsReached (map seen_alternative found) = subst (All IsReached) (sym are) (alternatives_are_reached b.sig (rules_in b) (next_id list) list may) in
    let here : IsReached (get_or (map seen_alternative found) i (seen_alternative d)) =
    All-get_or IsReached (map seen_alternative found) i (seen_alternative d) (subst (λ n. i < n) (sym (length-map found seen_alternative)) within) all in
    subst (λ (a : Alternative). ShapedGoals b.sig (all_goals (goals_of a.goals))) (sym is) ((subst IsReached (get_or-map seen_alternative found i d (seen_alternative d) within) here).0.shaped)
