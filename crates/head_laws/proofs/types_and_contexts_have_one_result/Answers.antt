use Rattle.head_laws.proofs.types_and_contexts_have_one_result.Goals as goal
use Rattle.head_laws.proofs.ReplacementLaws

pub returns : goal.returns
returns c = ReplacementLaws.types_and_contexts_have_one_result
