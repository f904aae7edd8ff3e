use Rattle.typing_laws.proofs.typed_terms_have_results.Goals as goal
use Rattle.typing_laws.proofs.Laws

pub returns : goal.returns
returns c = Laws.typed_terms_have_results
