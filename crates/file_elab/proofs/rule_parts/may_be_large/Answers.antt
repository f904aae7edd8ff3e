use Rattle.std.proofs.Common.{arith}
use Rattle.file_elab.proofs.MajorArguments.{few_binders, no_constant_fits}
use Rattle.file_elab.proofs.rule_parts.may_be_large.Goals as goal

pub returns-then-subject-constants : goal.returns-then-subject-constants
returns-then-subject-constants c = λ h. no_constant_fits c.args.sig.now c.args.builder c.args.subject c.in-Cases.is (omega (arith, c.constants.ensures.types, c.if-subject-constants.true))

pub returns-else-subject-constants : goal.returns-else-subject-constants
returns-else-subject-constants c =
    let ty = c.type_of.result.now in
    few_binders c.args.sig.now c.args.builder c.args.subject ty.binders ty.family ty.args c.len.result c.in-Cases.is c.type_of.ensures c.len.ensures
