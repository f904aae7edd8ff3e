use Rattle.applications.proofs.candidates_are_renamed.Goals as goal
use Rattle.applications.proofs.RenamedCandidates

pub returns : goal.returns
returns c = RenamedCandidates.candidates_are_renamed
