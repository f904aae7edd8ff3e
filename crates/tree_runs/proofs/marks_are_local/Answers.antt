use Rattle.tree_runs.proofs.marks_are_local.Goals as goal
use Rattle.tree_runs.proofs.Marks.{is_proved-local, is_stuck-local, proved-unique, stuck-unique}

pub returns : goal.returns
returns c = λ shape is_shape. (
  λ node. record { is_proved = is_proved-local shape is_shape node; is_stuck = is_stuck-local shape is_shape node },
  λ proved stuck local node. (proved-unique shape is_shape proved (λ n. (local n).is_proved) node, stuck-unique shape is_shape stuck (λ n. (local n).is_stuck) node),
)
