use Rattle.clusters.proofs.clusters_forget_numbers.Goals as goal
use Rattle.clusters.proofs.Renamed

pub returns : goal.returns
returns c = Renamed.clusters_forget_numbers
