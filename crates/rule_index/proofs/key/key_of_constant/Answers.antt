use Rattle.std.proofs.Common.{ap, ◌∙◌}
use Rattle.lf_definitions.specs.Signatures.{constant_types}
use Rattle.rule_index.specs.Keys.{of_family, head_constants}
use Rattle.rule_index.proofs.Demands.{key_read}
use Rattle.rule_index.proofs.key.key_of_constant.Goals as goal

pub returns : goal.returns
returns c =
    let ty = c.type_of-ty.result.now in
    ap (of_family ty.family) (c.in_ok-constants.ensures ∙ ap head_constants c.as_slice.ensures) ∙ key_read (constant_types c.args.sig.now) c.args.number ty.binders ty.family ty.args c.type_of-ty.ensures
