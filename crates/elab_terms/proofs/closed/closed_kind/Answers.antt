use Rattle.std.proofs.Common.{[], sym, subst}
use Rattle.lf_definitions.specs.Signatures.{typing_in}
use Rattle.elab_terms.specs.KnownTypes.{KnownAt, IsRefusal}
use Rattle.elab_terms.specs.Types.{ReadsKind, RefusesKind}
use Rattle.elab_terms.proofs.ReadTyped.{FormedKind-ReadsKind, Founded-typing_in}
use Rattle.elab_terms.proofs.ClosedScopes.{known_closed}
use Rattle.elab_terms.proofs.closed.closed_kind.Goals as goal

pub read_kind-requires-clause-known : goal.read_kind-requires-clause-known
read_kind-requires-clause-known c =
    let sig = c.args.sig.now in
    subst (KnownAt sig (typing_in sig [] [])) (sym c.new-names.ensures) (known_closed sig c.is_formed.ensures)

pub returns-clause-read : goal.returns-clause-read
returns-clause-read c =
    let sig = c.args.sig.now in
    subst (λ b. ReadsKind c.args.source.now sig b (typing_in sig [] []) c.args.tree.now c.in-Ok.kind.binders) c.new-names.ensures c.in-Ok.ensures.read

pub returns-clause-formed : goal.returns-clause-formed
returns-clause-formed c =
    let sig = c.args.sig.now in
    FormedKind-ReadsKind c.in-Ok.ensures.read (Founded-typing_in sig c.is_formed.ensures)

pub returns-in-Err-clause-refused : goal.returns-in-Err-clause-refused
returns-in-Err-clause-refused c =
    let sig = c.args.sig.now in
    subst (λ b. IsRefusal (RefusesKind c.args.source.now sig b (typing_in sig [] []) c.args.tree.now) c.in-Err.fault) c.new-names.ensures c.in-Err.ensures.refused
