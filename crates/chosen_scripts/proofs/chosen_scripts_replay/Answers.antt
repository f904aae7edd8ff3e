use Rattle.chosen_scripts.proofs.chosen_scripts_replay.Goals as goal
use Rattle.chosen_scripts.proofs.Scripts

pub returns : goal.returns
returns c = Scripts.chosen_scripts_replay
