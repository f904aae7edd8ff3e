use Rattle.typing_laws.proofs.own_variables_are_typed.Goals as goal
use Rattle.typing_laws.proofs.EtaTyping

pub returns : goal.returns
returns c = EtaTyping.own_variables_are_typed
