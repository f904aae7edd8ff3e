use Rattle.std.proofs.Common.{arith, sym, ◌∙◌}
use Rattle.std.proofs.lemmas.Result.{IfOk-weaker}
use Rattle.lf_definitions.specs.Signatures.{family_kinds, kinds_in}
use Rattle.lf_kernel.specs.Heads.{typing_of}
use Rattle.lf_kernel.proofs.Families.{no_family, family_fails, family_count_fails, family_shaped, family_walk}
use Rattle.lf_kernel.proofs.walk_type.walk_family.Goals as goal

pub returns-then-number-families : goal.returns-then-number-families
returns-then-number-families c =
    let a = c.args in
    family_fails (kinds_in a.place.now.sig.now) (typing_of a.place.now) a.number a.args.now a.first c.new.result
    (no_family (family_kinds a.place.now.sig.now) a.number (omega (arith, c.families.ensures.kinds, c.if-number-families.true))) c.new.ensures

pub returns-then-len : goal.returns-then-len
returns-then-len c =
    let a = c.args in
    family_count_fails (kinds_in a.place.now.sig.now) (typing_of a.place.now) a.number a.args.now a.first c.kind_of.result.now.binders c.new-then-len.result c.kind_of.ensures
    (λ e. c.if-len.true (c.len.ensures ∙ e ∙ sym c.len-2.ensures)) c.new-then-len.ensures

pub walk_args-requires-clause-shaped : goal.walk_args-requires-clause-shaped
walk_args-requires-clause-shaped c =
    let a = c.args in
    family_shaped (kinds_in a.place.now.sig.now) (typing_of a.place.now) a.number c.kind_of.result.now.binders c.requires c.kind_of.ensures

pub returns : goal.returns
returns c =
    let a = c.args in
    IfOk-weaker c.walk_args.result _ _
    (λ r w. family_walk (kinds_in a.place.now.sig.now) (typing_of a.place.now) a.number a.args.now a.first c.kind_of.result.now.binders c.kind_of.ensures (sym c.len.ensures ∙ c.if-len.false ∙ c.len-2.ensures) r w)
    c.walk_args.ensures
