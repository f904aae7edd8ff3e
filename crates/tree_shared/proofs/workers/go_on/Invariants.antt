use Rattle.std.proofs.Common.{Some}
use Rattle.tree_shared.proofs.workers.go_on.Given as goal

abbrev pub ghosts-share : goal.ghosts-share
ghosts-share g a = record { problem = Some a.problem.now; root = Some a.tree.root; budget = a.tree.budget; workers = a.crew.now.workers }
