use Rattle.head_laws.proofs.renamed_metavariables_keep_shapes.Goals as goal
use Rattle.head_laws.proofs.MetavariableLaws

pub returns : goal.returns
returns c = MetavariableLaws.renamed_metavariables_keep_shapes
