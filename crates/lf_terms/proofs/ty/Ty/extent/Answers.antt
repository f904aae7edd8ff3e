use Rattle.std.proofs.Common.{subst}
use Rattle.lf_terms.specs.Extents.{IsOutside}
use Rattle.lf_terms.proofs.Extents.{covers_pis}
use Rattle.lf_terms.proofs.ty.Ty.extent.Goals as goal

pub returns : goal.returns
returns c =
    let ty = c.args.self.now in
    covers_pis c.extent-2.result c.extent.result c.outside-args.result c.joined.result ty.binders ty.family ty.args
    (subst (λ n. IsOutside c.extent.result n c.outside-args.result) c.len.ensures c.outside-args.ensures)
    c.joined.ensures.first c.joined.ensures.second c.extent-2.ensures c.extent.ensures
