use Rattle.typed_steps.proofs.normal_forms_keep_types.Goals as goal
use Rattle.typed_steps.proofs.NormalForms

pub returns : goal.returns
returns c = NormalForms.normal_forms_keep_types
