use Rattle.std.proofs.Common.{◌++◌, [], ◌∷◌, false, ap, ◌∙◌}
use Rattle.tree_marks.proofs.Settling.{root_settled}
use Rattle.tree_marks.proofs.marks.Marks.new.Goals as goal

pub returns : goal.returns
returns c = root_settled _ _ _ _
    (c.in_ok-push.ensures.items ∙ ap (λ flags. flags ++ false ∷ []) c.new-proved.ensures.items)
    (c.in_ok-push-2.ensures.items ∙ ap (λ flags. flags ++ false ∷ []) c.new-stuck.ensures.items)
    c.in_ok-relevance.ensures.flags
    (c.in_ok-push-3.ensures.items ∙ ap (λ pairs. pairs ++ (0, 0) ∷ []) c.new-known.ensures.items)
