-- The use of a rule for the first goal of a list, from its beginning to all applications.
use Rattle.std.proofs.Common.{◌≡◌, ℕ, ◌<◌, ◌≤◌, All, List, [], ◌∷◌, Some, sym, ap, subst, arith}
use Rattle.std.proofs.lemmas.List.Elements.{All-nil, All-cons, All-head, All-tail}
use Rattle.std.proofs.lemmas.Option.{same_Some}
use Rattle.lf_definitions.specs.ShapedGoals.{ShapedGoal, ShapedGoals}
use Rattle.lf_definitions.specs.Typing.{LfGoal}
use Rattle.lf_definitions.specs.Signatures.{LfSignature, FormedSignature}
use Rattle.lf_definitions.specs.GoalLists.{LfGoals, all_goals, ids, above, next_id, first_of, first_goal}
use Rattle.lf_definitions.proofs.ShapedGoals.{ShapedSignature-FormedSignature}
use Rattle.head_laws.proofs.Numbers.{All-below_above}
use Rattle.lf_terms.specs.Targets.{goal_of}
use Rattle.applications.specs.Methods.{Method}
use Rattle.applications.specs.Candidates.{candidates}
use Rattle.applications.specs.Applications.{of_candidates, applications_to, at_first, applications}
use Rattle.meta_goals.specs.GoalsOf.{goals_of}
use Rattle.build_shared.specs.declared.rule_use.RuleUse.{RuleUse}
use Rattle.build_shared.specs.Conditions.{HasFirst}
use Rattle.build_shared.specs.RuleUses.{IsRuleUse}

goals_below : (n : ℕ) (goals : List LfGoal) → All (λ m. m < n) (ids goals) → All (λ h. h.id < n) goals
goals_below n [] all = All-nil (λ h. h.id < n)
goals_below n (h ∷ rest) all =
    All-cons (λ k. k.id < n) h rest (All-head (λ m. m < n) h.id (ids rest) all) (goals_below n rest (All-tail (λ m. m < n) h.id (ids rest) all))

first_holds : (P : LfGoal → Type 0) (goals : List LfGoal) (g : LfGoal) → first_of goals ≡ Some g → All P goals → P g
first_holds P [] g is all = absurd cc
first_holds P (h ∷ rest) g is all = subst P (same_Some h g is) (All-head P h rest all)

-- The first goal is one of the shaped goals.
pub first_is_shaped : (sig : LfSignature) (goals : LfGoals) (n : ℕ) (g : LfGoal) → HasFirst sig goals n g → ShapedGoal sig (all_goals goals) g
first_is_shaped sig goals n g first = first_holds (ShapedGoal sig (all_goals goals)) (all_goals goals) g first.is_first first.shaped.1

-- The numbers from the next one on are fresh.
pub begins_use : (u : RuleUse) → FormedSignature u.sig.now → ShapedGoals u.sig.now (all_goals (goals_of u.goals.now)) → u.first ≡ next_id (goals_of u.goals.now) →
    Some (goal_of u.goal.now) ≡ first_goal (goals_of u.goals.now) → IsRuleUse u
begins_use u formed shaped next is = record {
  signature = ShapedSignature-FormedSignature u.sig.now formed;
  goals = record {
    shaped = shaped;
    below = let le : above (ids (all_goals (goals_of u.goals.now))) ≤ u.first = omega (arith, next) in goals_below u.first (all_goals (goals_of u.goals.now)) (All-below_above (ids (all_goals (goals_of u.goals.now))) u.first le);
    is_first = sym is;
  };
}

-- What comes of all candidates for the first goal is all applications.
pub whole_use : (sig : LfSignature) (rule : ℕ) (method : Method) (n : ℕ) (goals : LfGoals) (g : LfGoal) → Some g ≡ first_goal goals →
    of_candidates sig n (all_goals goals) g (candidates sig rule method g n) ≡ applications sig rule method n goals
unfolding applications_to
whole_use sig rule method n goals g is = ap (at_first sig rule method n (all_goals goals)) is
