use Rattle.mark_laws.proofs.proved_has_derivation.Goals as goal
use Rattle.mark_laws.proofs.Laws

pub returns : goal.returns
returns g c = Laws.proved_has_derivation g.S.Derivable.is_own g.S.Derivable.branches g.S.Derivable.derives
