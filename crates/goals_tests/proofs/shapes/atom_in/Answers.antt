use Rattle.std.proofs.Common.{sym, ap, ◌∙◌, subst}
use Rattle.lf_definitions.specs.Syntax.{at, base, family}
use Rattle.lf_definitions.specs.Shaping.{Shaped, ShapedType}
use Rattle.lf_terms.specs.Terms.{head_of, term_of}
use Rattle.goals_tests.specs.Settings.{scope_of, kinds_of}
use Rattle.goals_tests.proofs.Scopes.{family_shaped}
use Rattle.goals_tests.proofs.shapes.atom_in.Goals as goal

pub returns : goal.returns
returns c =
    let setting = c.args.setting.now in
    let Γ = scope_of setting c.args.variables.now in
    let head_is = ap term_of c.in-At.is ∙ ap (λ h. at (head_of h) c.in-At.args) c.in-Const.is in
    subst (λ ts. ShapedType (kinds_of setting) Γ (family c.in-Const.family ts)) (sym c.in_ok-copied.ensures)
    (family_shaped setting.constants setting.metas c.args.variables.now c.in-Const.family c.in-At.args (subst (λ t. Shaped Γ t base) head_is (c.is_shaped.ensures c.if-not-is_shaped.false)))
