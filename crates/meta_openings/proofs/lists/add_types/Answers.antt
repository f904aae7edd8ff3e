use Rattle.std.proofs.Common.{◌++◌, arith, sym, ap, ◌∙◌, take_all}
use Rattle.std.proofs.lemmas.List.{append-nil}
use Rattle.lf_terms.specs.Types.{types_of}
use Rattle.meta_openings.proofs.Copies.{one_type_copied}
use Rattle.meta_openings.proofs.lists.add_types.Goals as goal

pub loop-i-init : goal.loop-i-init
loop-i-init c = sym (append-nil _)

pub loop-i-preserved : goal.loop-i-preserved
loop-i-preserved c =
    one_type_copied _ _ _ c.args.more.now c.loop-i.i c.index-more-i.result _ c.loop-i-test.true c.index-more-i.is c.in_ok-push.ensures.items c.in_ok-copy.ensures c.loop-i.invariant

pub returns : goal.returns
returns c = c.loop-i.invariant ∙ ap (λ ts. types_of c.args.types.now.items ++ types_of ts) (take_all c.loop-i.i c.args.more.now (omega arith))
