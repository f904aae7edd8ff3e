use Rattle.std.proofs.Common.{◌≡◌, sym, ap, ◌∙◌}
use Rattle.lf_terms.specs.Shapes.{simple_types_of, kept_shapes}
use Rattle.lf_terms.proofs.ShapeLists.{push_in_block, push_in_copy}
use Rattle.lf_terms.proofs.shape.Shapes.push.Goals as goal
use Rattle.lf_terms.proofs.shape.Shapes.push.Goals.{in-Some+in_default-get_mut, in_default}

pub returns-in-Some-get_mut-clause-ok : goal.returns-in-Some-get_mut-clause-ok
returns-in-Some-get_mut-clause-ok c =
    push_in_block _ c.in-Some.block c.in-Some-get_mut.items.now c.push.new.self c.args.shape _ c.self.view_is c.in-Some.is c.in-Some-get_mut.ensures.value c.in_ok-push.ensures.items

pub returns-clause-ok : goal.returns-clause-ok
returns-clause-ok c =
    let view : kept_shapes c.match-self.self-inside.items ≡ c.args.self.now =
    elim c.match-self.branch [
      | in-Some+in_default-get_mut w ↦ ap (λ a. kept_shapes a.items) w.self-inside-is ∙ ap kept_shapes (sym w.in-Some.is) ∙ c.self.view_is
      | in_default w ↦ ap (λ a. kept_shapes a.items) w.self-inside-is ∙ c.self.view_is
    ] in
    ap (λ v. simple_types_of v.items) c.in_ok-new.ensures.ok ∙ push_in_copy _ _ c.args.shape _ (c.in_ok-items.ensures ∙ c.as_slice.ensures ∙ view) c.in_ok-push-2.ensures.items
