use Rattle.tree_runs.proofs.marks_are_those_of_addresses.Goals as goal
use Rattle.tree_runs.proofs.AddressMarks.{runs_agree}

pub returns : goal.returns
returns g c = λ branches budget root journal run node stands. runs_agree branches budget root journal run node stands
