use Rattle.rule_methods.proofs.AtomsTaken
use Rattle.rule_methods.proofs.rules_take_atoms.Goals as goal

pub returns : goal.returns
returns c = AtomsTaken.rules_take_atoms
