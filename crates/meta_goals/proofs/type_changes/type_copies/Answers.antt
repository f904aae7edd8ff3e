use Rattle.std.proofs.Common.{◌≡◌, [], ◌∷◌, ◌++◌, sym, ap, ap₂, ◌∙◌, take, arith}
use Rattle.lf_terms.specs.Types.{types_of}
use Rattle.lf_terms.proofs.TypeLists.{types_of-append, types_of-take_more}
use Rattle.meta_goals.proofs.type_changes.type_copies.Goals as goal

pub loop-i-preserved : goal.loop-i-preserved
loop-i-preserved c =
    ap types_of c.in_ok-push.ensures.items ∙ types_of-append c.loop-i.copies.items c.in_ok-copy.field-0
    ∙ ap₂ (λ ts t. ts ++ t ∷ []) c.loop-i.invariant c.in_ok-copy.ensures
    ∙ sym (types_of-take_more c.args.items.now c.loop-i.i c.index-items-i.result (omega (arith, c.requires)) c.index-items-i.is)

pub returns : goal.returns
returns c =
    let all : c.loop-i.i ≡ c.args.count = omega arith in
    c.loop-i.invariant ∙ ap (λ n. types_of (take n c.args.items.now)) all
