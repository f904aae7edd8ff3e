use Rattle.elab_terms.proofs.ReadOnce.{unique_read_type, unique_read_kind}
use Rattle.elab_terms.proofs.laws.what_is_read_is_one.Goals as goal

pub returns : goal.returns
returns c text sig binders Γ tree = (λ count a b read other. unique_read_type read other, λ kind found read other. unique_read_kind read other)
