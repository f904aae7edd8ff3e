use Rattle.lf_functions.proofs.replaced_keeps_shapes.Goals as goal
use Rattle.lf_functions.proofs.ReplacingLaws

pub returns : goal.returns
returns c = ReplacingLaws.replaced_keeps_shapes
