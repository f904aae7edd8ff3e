use Rattle.std.proofs.Common.{◌↔◌, Bool, IsTrue, sym, ap, ◌∙◌, subst}
use Rattle.std.specs.Prelude.{Contains}
use Rattle.basics.specs.Places.{place_of}
use Rattle.basics.proofs.Membership.{placed}
use Rattle.rule_sets.proofs.order.has.Goals as goal

pub returns : goal.returns
returns c =
    let P : Bool → Type 0 = λ b. IsTrue b ↔ Contains c.args.names.now c.args.name.now in
    subst P (sym c.is_some.ensures) (placed _ _ c.find.result (c.find.ensures ∙ ap (place_of c.args.names.now) c.as_bytes.ensures))
