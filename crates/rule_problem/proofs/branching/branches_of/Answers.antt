use Rattle.std.proofs.Common.{[], ◌∷◌, ◌++◌, map, length, All, sym, ap, ◌∙◌, subst, arith, append_assoc}
use Rattle.std.specs.Vec.Iter.{into_iter_items}
use Rattle.std.proofs.lemmas.List.{map-append}
use Rattle.std.proofs.lemmas.List.Elements.{All-tail}
use Rattle.lf_definitions.specs.GoalLists.{all_goals, AreDistinct}
use Rattle.goal_expand.specs.declared.alternative.Alternative.{Alternative}
use Rattle.goal_expand.specs.Seen.{seen_alternative}
use Rattle.meta_goals.specs.GoalsOf.{goals_of}
use Rattle.tree_steps.specs.Seen.{branch_seen}
use Rattle.rule_problem.specs.Problems.{as_branch}
use Rattle.rule_problem.proofs.branching.branches_of.Goals as goal

pub loop-alternative-preserved : goal.loop-alternative-preserved
loop-alternative-preserved c =
    let before = c.loop-alternative.invariant in
    let steps = c.in-Some.ensures.steps.0 in
    let olds = c.loop-alternative.alternatives.items in
    let left = into_iter_items c.next.new.self in
    let later = map as_branch (map seen_alternative left) in
    let P : Alternative → Type 0 = λ a. AreDistinct (all_goals (goals_of a.goals)) in
    record {
      made = ap (λ xs. xs ++ later)
          (ap (map (branch_seen goals_of)) c.in_ok-push.ensures.items ∙ map-append (branch_seen goals_of) olds (c.in_ok-branch.branch ∷ [])
          ∙ ap (λ b. map (branch_seen goals_of) olds ++ b ∷ []) c.in_ok-branch.ensures)
          ∙ append_assoc (map (branch_seen goals_of) olds) (as_branch (seen_alternative c.in-Some.alternative) ∷ []) later
          ∙ ap (λ found. map (branch_seen goals_of) olds ++ map as_branch (map seen_alternative found)) (sym steps)
          ∙ before.made;
      distinct = All-tail P c.in-Some.alternative left (subst (All P) steps before.distinct);
      count = omega (arith, before.count, ap length steps, c.in-Some.ensures.steps.1);
    }
