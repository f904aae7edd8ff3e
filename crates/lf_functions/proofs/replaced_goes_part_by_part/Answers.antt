use Rattle.lf_functions.proofs.replaced_goes_part_by_part.Goals as goal
use Rattle.lf_functions.proofs.ReplacingLaws

pub returns : goal.returns
returns c = ReplacingLaws.replaced_goes_part_by_part
