use Rattle.std.proofs.Common.{[], ◌∷◌, ◌++◌, ap, ◌∙◌}
use Rattle.std.proofs.lemmas.Result.{IfOk-weaker}
use Rattle.lf_definitions.specs.Syntax.{joined}
use Rattle.lf_terms.specs.Terms.{spine_of}
use Rattle.build_shared.proofs.adding.with_last.Goals as goal

pub returns : goal.returns
returns c =
    IfOk-weaker c.joined.result _ _
    (λ r e. e ∙ ap (joined c.args.first.now) (c.in_ok-one.ensures ∙ ap spine_of (c.in_ok-push.ensures.items ∙ ap (λ l. l ++ c.args.last ∷ []) c.new-one.ensures.items))) c.joined.ensures
