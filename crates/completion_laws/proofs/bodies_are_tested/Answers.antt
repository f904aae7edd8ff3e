use Rattle.completion_laws.proofs.bodies_are_tested.Goals as goal
use Rattle.completion_laws.proofs.Bodies

pub returns : goal.returns
returns c = Bodies.bodies_are_tested
