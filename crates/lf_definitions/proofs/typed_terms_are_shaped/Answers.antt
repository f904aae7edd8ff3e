use Rattle.lf_definitions.proofs.typed_terms_are_shaped.Goals as goal
use Rattle.lf_definitions.proofs.Laws

pub returns : goal.returns
returns c = Laws.typed_terms_are_shaped
