use Rattle.step_tests.proofs.answers.append_asked.Goals as goal

pub clusters-requires : goal.clusters-requires
clusters-requires c = c.requires.0
