use Rattle.right_answers.proofs.chosen_scripts_of_runs_replay.Goals as goal
use Rattle.right_answers.proofs.Laws

pub returns : goal.returns
returns c = Laws.chosen_scripts_of_runs_replay
