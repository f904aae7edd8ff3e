use Rattle.lf_kernel.proofs.Openings.{known_at}
use Rattle.lf_kernel.proofs.typing.check_type.Goals as goal

pub walk_type-requires : goal.walk_type-requires
walk_type-requires c =
    let a = c.args in
    known_at a.sig.now a.metas.now a.ctx.now c.as_slice-types.result.now c.as_slice-types.ensures c.is_formed.ensures c.requires.goals c.requires.context
