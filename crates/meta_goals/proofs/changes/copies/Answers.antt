use Rattle.std.proofs.Common.{◌≡◌, sym, ap, ap₂, ◌∙◌, take, arith}
use Rattle.lf_definitions.specs.Syntax.{no_args, arg, joined}
use Rattle.lf_terms.specs.Terms.{spine_of}
use Rattle.lf_terms.proofs.Spines.{take_more_spine, spine_of-append}
use Rattle.meta_goals.proofs.changes.copies.Goals as goal

pub loop-i-preserved : goal.loop-i-preserved
loop-i-preserved c =
    ap spine_of c.in_ok-push.ensures.items ∙ spine_of-append c.loop-i.copies.items c.in_ok-copy.field-0
    ∙ ap₂ (λ ts t. joined ts (arg t no_args)) c.loop-i.invariant c.in_ok-copy.ensures
    ∙ sym (take_more_spine c.args.items.now c.loop-i.i c.index-items-i.result (omega (arith, c.requires)) c.index-items-i.is)

pub returns : goal.returns
returns c =
    let all : c.loop-i.i ≡ c.args.count = omega arith in
    c.loop-i.invariant ∙ ap (λ n. spine_of (take n c.args.items.now)) all
