use Rattle.std.proofs.Common.{◌∙◌, sym, eq-eqb}
use Rattle.std.proofs.lemmas.Bool.{eqb-true}
use Rattle.lf_definitions.proofs.Failures.{conclusion-pis}
use Rattle.rule_sets.proofs.Constructors.{has_family, family_had}
use Rattle.rule_sets.proofs.lists.has_family.Goals as goal

pub returns : goal.returns
returns c =
    let ty = c.type_of.result.now in
    let conclusion_is = conclusion-pis ty.binders ty.family ty.args in
    (λ same. has_family _ _ _ _ c.type_of.ensures (conclusion_is ∙ eqb-true _ _ same), λ has. eq-eqb _ _ (sym conclusion_is ∙ family_had _ _ _ _ c.type_of.ensures has))
