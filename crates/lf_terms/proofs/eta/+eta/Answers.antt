use Rattle.std.proofs.Common.{◌≡◌, arith, sym, ap, ap₂, ◌∙◌, length, ◌-◌}
use Rattle.std.proofs.lemmas.Result.{IfOk-weaker}
use Rattle.lf_definitions.specs.Syntax.{at, lams, arrows, base, arity, shapes_size}
use Rattle.lf_definitions.specs.Renaming.{next_by}
use Rattle.lf_definitions.specs.Expansion.{own_variables}
use Rattle.lf_definitions.proofs.Telescopes.{arity-arrows}
use Rattle.lf_terms.specs.Terms.{head_of}
use Rattle.lf_terms.specs.Shapes.{simple_type_of}
use Rattle.lf_terms.proofs.ShapeLists.{item_size}
use Rattle.lf_terms.proofs.Expansions.{own_variables_more, own_variables_end}
use Rattle.lf_terms.proofs.eta.+eta.Goals as goal

pub eta-returns : goal.eta-returns
eta-returns t c =
    let shape = simple_type_of c.args.shape.now in
    let count : c.len-count.result ≡ arity shape = c.len-count.ensures ∙ sym (arity-arrows c.args.shape.now.args) in
    IfOk-weaker c.abstracted.result _ _
    (λ term made. made ∙ ap₂ (λ h ts. lams c.len-count.result (at h ts)) c.in_ok-head.ensures c.in_ok-args.ensures
    ∙ ap (λ n. lams n (at (next_by n (head_of c.args.head)) (own_variables shape))) count)
    c.abstracted.ensures

pub own_variables-eta-requires : goal.own_variables-eta-requires
own_variables-eta-requires t c = (
  omega (
    arith,
    c.decreases,
    ap shapes_size c.as_slice-items.ensures,
    item_size c.as_slice-items.result.now c.loop-i.i c.index-items-i.result c.loop-i-test.true c.index-items-i.is,
  ),
  tt,
)

pub own_variables-loop-i-preserved : goal.own_variables-loop-i-preserved
own_variables-loop-i-preserved t c =
    own_variables_more c.as_slice-items.result.now c.loop-i.i (length c.as_slice-items.result.now - 1 - c.loop-i.i) c.index-items-i.result _ _ _ _
    c.loop-i-test.true c.index-items-i.is (omega arith) c.in_ok-push.ensures.items c.in_ok-eta.ensures c.loop-i.invariant

pub own_variables-returns : goal.own_variables-returns
own_variables-returns t c =
    IfOk-weaker c.from_vec.result _ _
    (λ terms made. made ∙ own_variables_end c.as_slice-items.result.now _ c.loop-i.i _ (omega arith) c.loop-i.invariant ∙ ap (λ l. own_variables (arrows l base)) c.as_slice-items.ensures)
    c.from_vec.ensures
