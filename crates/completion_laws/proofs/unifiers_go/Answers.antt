use Rattle.completion_laws.proofs.unifiers_go.Goals as goal
use Rattle.completion_laws.proofs.Unified

pub returns : goal.returns
returns c = Unified.unifiers_go
