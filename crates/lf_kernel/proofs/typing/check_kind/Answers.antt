use Rattle.std.proofs.Common.{[], sym, subst}
use Rattle.lf_definitions.specs.Signatures.{kinds_in, typing_in}
use Rattle.lf_kernel.specs.Checks.{ChecksKind}
use Rattle.lf_kernel.proofs.Openings.{known_closed, kind_checked}
use Rattle.lf_kernel.proofs.typing.check_kind.Goals as goal

pub walk_binders-requires : goal.walk_binders-requires
walk_binders-requires c =
    known_closed c.args.sig.now c.new-metas.result c.new-metas.ensures c.is_formed.ensures

pub returns : goal.returns
returns c =
    let a = c.args in
    subst (ChecksKind (kinds_in a.sig.now) (typing_in a.sig.now [] []) a.kind.now.binders) (sym c.answer_of.ensures)
    (kind_checked a.sig.now c.new-metas.result a.kind.now.binders c.as_slice-binders.result.now c.in_ok-found.found c.new-metas.ensures c.as_slice-binders.ensures c.in_ok-found.ensures)
