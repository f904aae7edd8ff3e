use Rattle.elab_terms.proofs.ReadOrRefused.{one_fault_of_type, one_fault_of_kind}
use Rattle.elab_terms.proofs.laws.a_fault_is_one.Goals as goal

pub returns : goal.returns
returns c text sig binders Γ tree fault other = (λ count refused wrong. one_fault_of_type refused wrong, λ refused wrong. one_fault_of_kind refused wrong)
