use Rattle.mark_laws.proofs.stuck_has_no_derivation.Goals as goal
use Rattle.mark_laws.proofs.Laws

pub returns : goal.returns
returns g c = Laws.stuck_has_no_derivation g.S.Derivable.is_own g.S.Derivable.branches g.S.Derivable.derives
