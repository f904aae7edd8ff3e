use Rattle.head_laws.proofs.replacements_compose.Goals as goal
use Rattle.head_laws.proofs.ReplacementLaws

pub returns : goal.returns
returns c = ReplacementLaws.replacements_compose
