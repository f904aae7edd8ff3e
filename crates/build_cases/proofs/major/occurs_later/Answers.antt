use Rattle.std.proofs.Common.{length, sym, ap, ◌∙◌, arith}
use Rattle.lf_terms.proofs.TypeLists.{length-types_of}
use Rattle.build_cases.proofs.MajorArguments.{later_are, none_later}
use Rattle.build_cases.proofs.major.occurs_later.Goals as goal

pub returns-then-place-count : goal.returns-then-place-count
returns-then-place-count c =
    let ty = c.args.ty.now in
    let types = c.as_slice-binders.result.now in
    let counts = ap length c.as_slice-binders.ensures in
    sym (none_later ty.binders ty.family ty.args c.args.place (omega (arith, c.if-place-count.true, counts, length-types_of types)))

pub returns : goal.returns
returns c =
    let ty = c.args.ty.now in
    c.in_ok-occurs.ensures ∙ later_are c.as_slice-binders.result.now ty.binders ty.family ty.args c.args.place c.as_slice-binders.ensures
