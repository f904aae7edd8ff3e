use Rattle.std.proofs.Common.{[], ◌∷◌, ◌++◌, ap, ◌∙◌}
use Rattle.lf_terms.specs.Terms.{term_of}
use Rattle.build_shared.specs.Whole.{with_body}
use Rattle.goal_advance.proofs.follow.add_under.Goals as goal

pub returns : goal.returns
returns c = (
  term_of c.in_ok-body.body,
  c.in_ok-body.ensures.result,
  c.in_ok-push.ensures.ok ∙ ap (λ s. c.args.all.now ++ with_body c.args.id s (term_of c.in_ok-body.body) ∷ []) c.in_ok-shapes.ensures,
)
