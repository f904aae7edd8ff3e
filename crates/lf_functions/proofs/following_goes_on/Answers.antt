use Rattle.lf_functions.proofs.following_goes_on.Goals as goal
use Rattle.lf_functions.proofs.Compositions

pub returns : goal.returns
returns c = Compositions.following_goes_on
