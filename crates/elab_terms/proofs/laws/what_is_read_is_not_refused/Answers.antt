use Rattle.elab_terms.proofs.ReadOrRefused.{read_type_not_refused, read_kind_not_refused}
use Rattle.elab_terms.proofs.laws.what_is_read_is_not_refused.Goals as goal

pub returns : goal.returns
returns c text sig binders Γ tree fault = (λ count a read refused. read_type_not_refused read refused, λ kind read refused. read_kind_not_refused read refused)
