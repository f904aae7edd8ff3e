use Rattle.mark_laws.proofs.derivations_are_found.Goals as goal
use Rattle.mark_laws.proofs.Laws

pub returns : goal.returns
returns g c = Laws.derivations_are_found g.S.Derivable.is_own g.S.Derivable.branches g.S.Derivable.derives
