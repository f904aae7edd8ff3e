use Rattle.std.proofs.Common.{◌≤◌, length, drop, sym, ap, ap₂, subst, ◌∙◌}
use Rattle.lf_definitions.specs.Syntax.{pis, family}
use Rattle.elab_terms.proofs.results.left_type.Goals as goal

pub copied-requires : goal.copied-requires
copied-requires c = subst (λ bs. c.args.count ≤ length bs) (sym c.as_slice.ensures) c.requires

pub returns : goal.returns
returns c =
    ap₂ (λ bs us. pis bs (family c.args.family us)) (c.in_ok-binders.ensures ∙ c.in_ok-copied.ensures ∙ ap (drop c.args.count) c.as_slice.ensures) c.in_ok-args.ensures
