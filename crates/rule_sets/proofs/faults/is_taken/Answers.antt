use Rattle.std.proofs.Common.{Bool, IsTrue, sym, subst}
use Rattle.std.specs.Prelude.{◌↔◌}
use Rattle.rule_sets.specs.Refusals.{IsTaken}
use Rattle.basics.proofs.Membership.{placed}
use Rattle.rule_sets.proofs.faults.is_taken.Goals as goal

pub returns : goal.returns
returns c =
    let P : Bool → Type 0 = λ b. IsTrue b ↔ IsTaken c.args.book.now c.args.rule.now in
    subst P (sym c.is_some.ensures) (placed _ _ c.find.result c.find.ensures)
