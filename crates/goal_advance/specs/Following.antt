-- When an assignment may follow another, and what it makes of the earlier entries.
use Rattle.std.specs.Prelude.{ℕ, ◌<◌, List, map, All}
use Rattle.lf_definitions.specs.ShapedGoals.{ShapedGoals}
use Rattle.lf_definitions.specs.Typing.{LfGoal}
use Rattle.lf_definitions.specs.Signatures.{LfSignature}
use Rattle.lf_definitions.specs.GoalLists.{LfGoals, all_goals}
use Rattle.lf_functions.specs.Instances.{instance_of}
use Rattle.alternatives.specs.Taking.{Takes}
use Rattle.alternatives.specs.Steps.{AreOldOrNew}
use Rattle.meta_goals.specs.Bindings.{LfBinding, assigned_of, assigning}
use Rattle.meta_goals.specs.Laws.{HaveShapesOf}

-- The earlier assignment takes one list of shaped goals to another, and the later one takes that further. Each entry has the shapes of its goal's context. The numbers of the
-- first list are below `n`, and those of other goals in the list between are not.
pub record MayFollow (n : ℕ) (earlier later : List LfBinding) : Type 0 where
  pub sig : LfSignature
  pub before : LfGoals
  pub between : LfGoals
  pub after : LfGoals
  pub takes_earlier : Takes sig before between (map assigned_of earlier)
  pub takes_later : Takes sig between after (map assigned_of later)
  pub earlier_shapes : HaveShapesOf (all_goals before) earlier
  pub later_shapes : HaveShapesOf (all_goals between) later
  pub shaped : ShapedGoals sig (all_goals before)
  pub below : All (λ g. g.id < n) (all_goals before)
  pub old_or_new : AreOldOrNew before n between

-- an earlier entry with what is assigned later put into its body
abbrev pub put_later : List LfGoal → List LfBinding → LfBinding → LfBinding
put_later between later b = record { number = b.number; shapes = b.shapes; bound_body = instance_of between (assigning later) b.bound_body }
