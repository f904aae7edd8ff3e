use Rattle.std.proofs.Common.{[], ◌∷◌, ◌++◌, replicate, take, take_all, sym, ap, ap₂, ◌∙◌}
use Rattle.std.proofs.lemmas.List.{append-nil, append_assoc}
use Rattle.lf_definitions.specs.Syntax.{family, no_args, pis}
use Rattle.lf_terms.specs.Types.{type_of, types_of}
use Rattle.lf_terms.proofs.TypeLists.{types_of-append, types_of-take_more}
use Rattle.typing_laws.proofs.Binders.{pis-append}
use Rattle.build_shared.proofs.dropping.under_binders.Goals as goal

pub loop-i-init : goal.loop-i-init
loop-i-init c = c.in_ok-add_blanks.ensures ∙ ap (λ l. types_of l ++ replicate c.args.count (family 0 no_args)) c.new-types.ensures.items ∙ sym (append-nil (replicate c.args.count (family 0 no_args)))

pub loop-i-preserved : goal.loop-i-preserved
loop-i-preserved c =
    let items = c.as_slice-items.result.now in
    let blanks = replicate c.args.count (family 0 no_args) in
    ap types_of c.in_ok-push.ensures.items ∙ types_of-append c.loop-i.types.items c.in_ok-copy.field-0 ∙ ap₂ (λ l t. l ++ t ∷ []) c.loop-i.invariant c.in_ok-copy.ensures
    ∙ append_assoc blanks (types_of (take c.loop-i.i items)) (type_of c.index-items-i.result ∷ []) ∙ ap (λ l. blanks ++ l) (sym (types_of-take_more items c.loop-i.i c.index-items-i.result c.loop-i-test.true c.index-items-i.is))

pub returns : goal.returns
returns c =
    let ty = c.args.ty.now in
    let blanks = replicate c.args.count (family 0 no_args) in
    ap₂ (λ bs ts. pis bs (family ty.family ts))
    (c.in_ok-from_vec.ensures ∙ c.loop-i.invariant ∙ ap (λ l. blanks ++ types_of l) (take_all c.loop-i.i c.as_slice-items.result.now c.loop-i-test.false) ∙ ap (λ l. blanks ++ l) c.as_slice-items.ensures) c.in_ok-args.ensures
    ∙ pis-append blanks ty.binders (family ty.family ty.args)
