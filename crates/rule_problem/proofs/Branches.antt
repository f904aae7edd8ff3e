-- The branches of shaped goals by the rules of a book: their alternatives have goals with different numbers, and their nodes are own ones.
use Rattle.std.proofs.Common.{◌≡◌, ◌≢◌, ◌∙◌, ℕ, List, [], ◌∷◌, map, All, sym, subst}
use Rattle.std.proofs.lemmas.List.Elements.{All-nil, All-cons, All-head, All-tail, All-weaker, All-map}
use Rattle.lf_definitions.specs.Signatures.{LfSignature, FormedSignature}
use Rattle.lf_definitions.specs.GoalLists.{LfGoals, all_goals, next_id, AreDistinct}
use Rattle.lf_definitions.specs.ShapedGoals.{ShapedGoals}
use Rattle.lf_definitions.proofs.ShapedGoals.{ShapedSignature-FormedSignature}
use Rattle.step_laws.proofs.Numbers.{all_below_above}
use Rattle.alternatives.specs.Alternatives.{LfAlternative}
use Rattle.alternatives.specs.Steps.{AreOldOrNew}
use Rattle.alternatives.specs.Taking.{Takes}
use Rattle.taken_alternatives.proofs.Laws.{alternatives_are_reached}
use Rattle.clusters.proofs.Laws.{clusters_are_shaped}
use Rattle.derivations.specs.Derivations.{alternatives_of}
use Rattle.derivations.specs.Unfolding.{branches_of}
use Rattle.meta_goals.specs.declared.goals.Goals.{Goals}
use Rattle.meta_goals.specs.GoalsOf.{goals_of}
use Rattle.goal_book.specs.GoalBooks.{LfBook, rules_in, IsGoalBook}
use Rattle.goal_expand.specs.declared.alternative.Alternative.{Alternative}
use Rattle.goal_expand.specs.Seen.{seen_alternative}
use Rattle.tree_steps.specs.declared.branches.Branch.{Branch}
use Rattle.tree_steps.specs.declared.branches.Branches.{Branches}
use Rattle.tree_steps.specs.Seen.{branch_seen, branches_seen, AllOwn}
use Rattle.rule_problem.specs.Problems.{as_branch, branches_in, IsNode}
use Rattle.rule_problem.proofs.BookRules.{rules_of_take_atoms, rules_of_are_low}
use Rattle.rule_problem.proofs.Percentages.{no_branch_is_cut}

-- What is true of all that a function makes is true of what it is made of.
All-from_map : {X Y : Type 0} (f : X → Y) (P : Y → Type 0) (xs : List X) → All P (map f xs) → All (λ x. P (f x)) xs
All-from_map f P [] all = All-nil (λ x. P (f x))
All-from_map f P (x ∷ xs) all = All-cons (λ y. P (f y)) x xs (All-head P (f x) (map f xs) all) (All-from_map f P xs (All-tail P (f x) (map f xs) all))

-- A shaped list that isn't empty, as plain data.
abbrev IsOwn : LfSignature → LfGoals → Type 0
IsOwn sig list = ShapedGoals sig (all_goals list) × (all_goals list ≢ [])

abbrev HasOwn : LfSignature → ℕ × List LfGoals → Type 0
HasOwn sig branch = All (IsOwn sig) branch.1

clusters_are_own : (sig : LfSignature) (alternative : LfAlternative) → ShapedGoals sig (all_goals alternative.goals) → HasOwn sig (as_branch alternative)
clusters_are_own sig alternative shaped = λ k d less. let good = clusters_are_shaped sig alternative.goals shaped k d less in (good.0, good.1)

module _ (b : LfBook) (formed : IsGoalBook b) (sig : FormedSignature b.sig) (list : LfGoals) (shaped : ShapedGoals b.sig (all_goals list)) where
  abbrev IsShaped : LfAlternative → Type 0
  IsShaped alternative = ShapedGoals b.sig (all_goals alternative.goals)

  alternatives_are_shaped : All IsShaped (alternatives_of b.sig (rules_in b) list)
  alternatives_are_shaped =
      All-weaker (λ alternative. Takes b.sig list alternative.goals alternative.build × AreOldOrNew list (next_id list) alternative.goals) IsShaped (λ alternative reached. reached.0.shaped)
      (alternatives_of b.sig (rules_in b) list)
      (alternatives_are_reached b.sig (rules_in b) (next_id list) list (record {
        signature = ShapedSignature-FormedSignature b.sig sig;
        goals = shaped;
        below = all_below_above (all_goals list);
        rules_take_atoms = rules_of_take_atoms b.sig b.book formed.over b.numbers;
      }))

  -- The goals of what was found have different numbers.
  pub found_are_distinct : (found : List Alternative) → map seen_alternative found ≡ alternatives_of b.sig (rules_in b) list → All (λ alternative. AreDistinct (all_goals (goals_of alternative.goals))) found
  found_are_distinct found is =
      All-weaker (λ (a : Alternative). IsShaped (seen_alternative a)) (λ (a : Alternative). AreDistinct (all_goals (goals_of a.goals))) (λ a of_a. of_a.0) found
      (All-from_map seen_alternative IsShaped found (subst (All IsShaped) (sym is) alternatives_are_shaped))

  -- The nodes of branches that are seen as those of the list are own ones.
  pub nodes_are_own : (made : Branches Goals) → branches_seen goals_of made ≡ map as_branch (alternatives_of b.sig (rules_in b) list) → AllOwn (IsNode b) made
  nodes_are_own made is =
      All-weaker (λ (branch : Branch Goals). HasOwn b.sig (branch_seen goals_of branch)) (λ (branch : Branch Goals). All (IsNode b) branch.nodes.items)
      (λ branch own. All-weaker (λ node. IsOwn b.sig (goals_of node)) (IsNode b) (λ node is_own. record { shaped = is_own.0; some = is_own.1 }) branch.nodes.items
      (All-from_map goals_of (IsOwn b.sig) branch.nodes.items own))
      made.alternatives.items
      (All-from_map (branch_seen goals_of) (HasOwn b.sig) made.alternatives.items
      (subst (All (HasOwn b.sig)) (sym is) (All-map (HasOwn b.sig) as_branch (alternatives_of b.sig (rules_in b) list)
      (All-weaker IsShaped (λ alternative. HasOwn b.sig (as_branch alternative)) (clusters_are_own b.sig) (alternatives_of b.sig (rules_in b) list) alternatives_are_shaped))))

  -- What is made of all alternatives is the branches of the list.
  pub branches_are_made : (made : Branches Goals) → branches_seen goals_of made ≡ map as_branch (alternatives_of b.sig (rules_in b) list) → branches_seen goals_of made ≡ branches_in b list
  unfolding branches_of
  branches_are_made made is = is ∙ sym (no_branch_is_cut b.sig (rules_in b) (rules_of_are_low b.sig b.book formed.over b.numbers) list)
