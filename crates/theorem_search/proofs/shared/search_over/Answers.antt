use denote.Param.Send.{sendable}
use Rattle.theorem_search.proofs.Crossing.{Goals-send, RuleProblem-sync}
use Rattle.theorem_search.proofs.shared.search_over.Goals as goal

pub search-requires-send-P-Node : goal.search-requires-send-P-Node
search-requires-send-P-Node g c κs within = search (Goals-send, sendable) depth 20

pub search-requires-sync-P : goal.search-requires-sync-P
search-requires-sync-P g c κs within = search (RuleProblem-sync, sendable) depth 20
