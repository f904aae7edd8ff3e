use Rattle.std.proofs.Common.{◌≡◌, ◌-◌, suc, ap, arith}
use Rattle.lf_definitions.specs.Syntax.{bound}
use Rattle.build_cases.proofs.dropping.variable_at.Goals as goal

pub returns : goal.returns
returns c =
    let same : c.saturating_sub-number.result ≡ c.args.count - suc c.args.place = omega (arith, c.saturating_sub-after.ensures, c.saturating_sub-number.ensures) in
    ap bound same
