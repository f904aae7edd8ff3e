use Rattle.std.proofs.Common.{◌≡◌, ◌-◌, length, sym, ap, ◌∙◌, arith}
use Rattle.lf_definitions.specs.Syntax.{bound}
use Rattle.head_laws.specs.Mentions.{occurs_in_spine}
use Rattle.build_cases.proofs.MajorArguments.{at_end_is, none_at_end}
use Rattle.build_cases.proofs.major.occurs_at_end.Goals as goal

pub returns-then-place-count : goal.returns-then-place-count
returns-then-place-count c =
    let ty = c.args.ty.now in
    sym (none_at_end ty.binders ty.family ty.args c.args.place (omega (arith, c.if-place-count.true, c.len-count.ensures)))

pub returns : goal.returns
returns c =
    let ty = c.args.ty.now in
    let number : c.len-count.result - 1 - c.args.place ≡ length ty.binders - 1 - c.args.place = ap (λ n. n - 1 - c.args.place) c.len-count.ensures in
    c.in_ok-occurs.ensures ∙ ap (λ n. occurs_in_spine (bound n) ty.args) number ∙ at_end_is ty.binders ty.family ty.args c.args.place (omega (arith, c.if-place-count.false, c.len-count.ensures))
