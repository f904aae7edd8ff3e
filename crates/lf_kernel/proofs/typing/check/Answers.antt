use Rattle.lf_terms.specs.Types.{type_of}
use Rattle.lf_kernel.proofs.Openings.{known_at, expected_at}
use Rattle.lf_kernel.proofs.typing.check.Goals as goal

pub walk_term-requires-clause-typing : goal.walk_term-requires-clause-typing
walk_term-requires-clause-typing c =
    let a = c.args in
    known_at a.sig.now a.metas.now a.ctx.now c.as_slice-types.result.now c.as_slice-types.ensures c.is_formed.ensures c.requires.goals c.requires.context

pub walk_term-requires-clause-shaped : goal.walk_term-requires-clause-shaped
walk_term-requires-clause-shaped c =
    let a = c.args in
    expected_at a.sig.now a.metas.now a.ctx.now c.as_slice-types.result.now (type_of a.ty.now) c.as_slice-types.ensures c.requires.expected
