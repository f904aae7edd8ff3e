use Rattle.std.proofs.Common.{◌≡◌, ◌+◌, ◌-◌, ◌<◌, ◌≤◌, None, drop, get_or, length, ap, ◌∙◌, arith, length-append}
use Rattle.std.proofs.lemmas.List.{drop_more, drop_at}
use Rattle.elab_terms.proofs.bound_names.BoundNames.truncate.Goals as goal

pub loop-init : goal.loop-init
loop-init c = let none : 0 ≡ c.args.count - c.args.count = omega arith in ap (λ n. drop n c.args.self.now) none

pub loop-preserved : goal.loop-preserved
loop-preserved c =
    let old = c.args.self.now in
    let taken = c.loop.counter - c.args.count in
    let within : taken < length old = omega (arith, c.loop-test.true, c.len-end.ensures, c.loop.auto.counter) in
    let next : taken + 1 ≡ (c.loop.counter + 1) - c.args.count = omega (arith, c.loop.auto.counter) in
    c.pop.ensures (get_or old taken None) (drop (taken + 1) old) (c.loop.invariant ∙ drop_more old taken None within) ∙ ap (λ n. drop n old) next

pub returns : goal.returns
returns c = λ inside outside parts count.
    let old = c.args.self.now in
    let total = ap length parts ∙ length-append inside outside in
    let enough : c.args.count ≤ c.len-end.result = omega (arith, total, count, c.len-end.ensures) in
    let end : c.loop.counter ≤ c.len-end.result = c.loop.auto.counter-end enough in
    let taken : length inside ≡ c.loop.counter - c.args.count = omega (arith, total, count, c.len-end.ensures, c.loop-test.false, end) in
    c.loop.invariant ∙ ap (drop (c.loop.counter - c.args.count)) parts ∙ drop_at inside outside (c.loop.counter - c.args.count) taken
