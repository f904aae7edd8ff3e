use Rattle.applications.proofs.labels_differ.Goals as goal
use Rattle.applications.proofs.Labels

pub returns : goal.returns
returns c = Labels.labels_differ
