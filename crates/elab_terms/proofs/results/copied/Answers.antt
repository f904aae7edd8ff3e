use Rattle.std.proofs.Common.{◌≡◌, [], rules, arith, drop, ap, ◌∙◌, take_all}
use Rattle.lf_terms.specs.Types.{types_of}
use Rattle.lf_terms.proofs.TypeLists.{length-types_of}
use Rattle.elab_terms.proofs.Copies.{type_copied, copies_start}
use Rattle.elab_terms.proofs.results.copied.Goals as goal

pub loop-i-init : goal.loop-i-init
loop-i-init c =
    let none : c.new-copies.result.items ≡ [] = search rules in
    ap types_of none ∙ copies_start c.args.types.now c.args.count (omega (arith, c.requires, length-types_of c.args.types.now))

pub loop-i-preserved : goal.loop-i-preserved
loop-i-preserved c =
    type_copied c.args.types.now _ _ c.args.count c.loop-i.i c.index-types-i.result _ c.loop-i.auto.i c.loop-i-test.true c.index-types-i.is c.in_ok-push.ensures.items c.loop-i.invariant c.in_ok-copy.ensures

pub returns : goal.returns
returns c =
    c.loop-i.invariant ∙ ap (λ xs. drop c.args.count (types_of xs)) (take_all c.loop-i.i c.args.types.now (omega (arith, c.loop-i-test.false)))
