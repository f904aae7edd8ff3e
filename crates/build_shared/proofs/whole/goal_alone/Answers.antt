use Rattle.std.proofs.Common.{[], ◌∷◌, ◌++◌, ap, ap₂, ◌∙◌}
use Rattle.lf_terms.specs.Terms.{term_of}
use Rattle.meta_goals.specs.Bindings.{binding_for}
use Rattle.build_shared.specs.Whole.{with_body}
use Rattle.build_shared.proofs.whole.goal_alone.Goals as goal

pub push-requires : goal.push-requires
push-requires c = ap (λ l. binding_for l c.args.attempt.now.goal.now.id) c.new-alone.ensures

pub returns : goal.returns
returns c =
    let id = c.args.attempt.now.goal.now.id in
    c.in_ok-push.ensures.ok ∙ ap (λ l. l ++ with_body id c.in_ok-shapes.shapes (term_of c.in_ok-body.body) ∷ []) c.new-alone.ensures
    ∙ ap₂ (λ s t. with_body id s t ∷ []) c.in_ok-shapes.ensures c.in_ok-body.ensures
