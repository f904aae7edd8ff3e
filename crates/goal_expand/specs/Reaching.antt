-- Lists that were reached by steps, and normal forms on the way.
use Rattle.std.specs.Prelude.{◌≡◌, ℕ, ◌<◌, ◌≤◌, Bool, List, ◌++◌, map, All}
use Rattle.lf_definitions.specs.ShapedGoals.{ShapedGoals}
use Rattle.lf_definitions.specs.Signatures.{LfSignature}
use Rattle.lf_definitions.specs.GoalLists.{LfGoals, all_goals, ids, next_id}
use Rattle.lf_definitions.specs.Instantiation.{LfAssigned}
use Rattle.applications.specs.Methods.{LfLabel}
use Rattle.meta_goals.specs.Bindings.{LfBinding, assigned_of}
use Rattle.meta_goals.specs.Laws.{HaveShapesOf}
use Rattle.alternatives.specs.Rules.{LfRule}
use Rattle.alternatives.specs.ListsAfter.{then_assigned}
use Rattle.alternatives.specs.NormalForms.{LfNormal, normal_within, normal_form}
use Rattle.alternatives.specs.Taking.{Takes}
use Rattle.alternatives.specs.Steps.{AreOldOrNew}

-- What is assigned to goals of a list takes them to another list. Each entry has the shapes of its goal's context, and goals that are not old are past the old ones.
pub record IsReachedBy (sig : LfSignature) (list goals : LfGoals) (bindings : List LfBinding) : Type 0 where
  pub takes : Takes sig list goals (map assigned_of bindings)
  pub shapes : HaveShapesOf (all_goals list) bindings
  pub rises : next_id list ≤ next_id goals
  pub old_or_new : AreOldOrNew list (next_id list) goals

-- what is assigned on the way to a list, and then there
abbrev pub built : LfGoals → LfGoals → List LfBinding → List LfBinding → List LfAssigned
built list goals earlier later = then_assigned (ids (all_goals list)) (all_goals goals) (map assigned_of earlier) (map assigned_of later)

-- What is assigned takes a list of shaped goals, whose numbers are below `n`, to another, and what is assigned there takes that further.
pub record MayGoOn (n : ℕ) (list goals : LfGoals) (earlier later : List LfBinding) : Type 0 where
  pub sig : LfSignature
  pub after : LfGoals
  pub takes_earlier : Takes sig list goals (map assigned_of earlier)
  pub takes_later : Takes sig goals after (map assigned_of later)
  pub earlier_shapes : HaveShapesOf (all_goals list) earlier
  pub later_shapes : HaveShapesOf (all_goals goals) later
  pub shaped : ShapedGoals sig (all_goals list)
  pub below : All (λ g. g.id < n) (all_goals list)
  pub old_or_new : AreOldOrNew list n goals

-- a normal form, with the steps that were made on the way to its list
abbrev pub continued : LfGoals → List LfLabel → LfGoals → List LfAssigned → LfNormal → LfNormal
continued list labels goals build rest = record {
  labels = labels ++ rest.labels;
  closed = rest.closed;
  goals = rest.goals;
  build = then_assigned (ids (all_goals list)) (all_goals goals) build rest.build;
  fresh = rest.fresh;
}

-- The list was reached by lawful steps, and with at most `left` more of them the normal form of the first list is.
pub record IsOnTheWay (sig : LfSignature) (rules : List LfRule) (list : LfGoals) (left : ℕ) (labels : List LfLabel) (goals : LfGoals) (bindings : List LfBinding) : Type 0 where
  pub reached : IsReachedBy sig list goals bindings
  pub whole : normal_form sig rules (next_id list) list ≡ continued list labels goals (map assigned_of bindings) (normal_within left sig rules (next_id goals) goals)

-- These are the parts of a normal form.
pub record IsNormal (normal : LfNormal) (labels : List LfLabel) (closed : Bool) (goals : LfGoals) (bindings : List LfBinding) : Type 0 where
  pub labels_are : labels ≡ normal.labels
  pub closed_is : closed ≡ normal.closed
  pub goals_are : goals ≡ normal.goals
  pub build_is : map assigned_of bindings ≡ normal.build
