use Rattle.typing_laws.proofs.eta_forms_have_their_types.Goals as goal
use Rattle.typing_laws.proofs.EtaTyping

pub returns : goal.returns
returns c = EtaTyping.eta_forms_have_their_types
