use Rattle.std.proofs.Common.{[], ◌∷◌, ◌++◌, ap, ap₂, ◌∙◌}
use Rattle.lf_terms.specs.Terms.{term_of}
use Rattle.build_shared.specs.Whole.{with_body}
use Rattle.build_shared.proofs.whole.add_entry.Goals as goal

pub returns : goal.returns
returns c =
    let id = c.args.id in (
      term_of c.in_ok-body.body,
      c.in_ok-body.ensures.result,
      c.in_ok-push.ensures.ok ∙ ap (λ s. c.args.whole.now.all ++ with_body id s (term_of c.in_ok-body.body) ∷ []) c.in_ok-shapes.ensures,
      c.in_ok-push-2.ensures.ok ∙ ap₂ (λ s t. c.args.whole.now.others ++ with_body id s t ∷ []) c.in_ok-shapes-2.ensures c.in_ok-again.ensures,
    )
