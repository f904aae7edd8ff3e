use Rattle.typing_laws.proofs.expansions_have_their_types.Goals as goal
use Rattle.typing_laws.proofs.EtaTyping

pub returns : goal.returns
returns c = EtaTyping.expansions_have_their_types
