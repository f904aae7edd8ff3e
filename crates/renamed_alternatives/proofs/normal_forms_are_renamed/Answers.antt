use Rattle.renamed_alternatives.proofs.normal_forms_are_renamed.Goals as goal
use Rattle.renamed_alternatives.proofs.NormalForms

pub returns : goal.returns
returns c = NormalForms.normal_forms_are_renamed
