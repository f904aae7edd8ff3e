use Rattle.elab_terms.proofs.ReadTyped.{Formed-ReadsType, FormedKind-ReadsKind, Founded-typing_in}
use Rattle.elab_terms.proofs.laws.what_is_read_is_formed.Goals as goal

pub returns : goal.returns
returns c text sig formed = (λ tree a read. Formed-ReadsType read (Founded-typing_in sig formed), λ tree kind read. FormedKind-ReadsKind read (Founded-typing_in sig formed))
