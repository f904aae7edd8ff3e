use Rattle.std.proofs.Common.{sym, ◌∙◌, arith, refl}
use Rattle.proof_replay.proofs.Places.{labels_pairwise, labels_test, other_length, read_at, same_at_end, same_next, differs_here}
use Rattle.proof_replay.proofs.same.same_labels.Goals as goal

pub returns-then-labels-others : goal.returns-then-labels-others
returns-then-labels-others c =
    let xs = c.args.labels.now in
    let ys = c.args.others.now in
    sym (labels_pairwise xs ys ∙ other_length labels_test xs ys c.if-labels-others.true)

pub loop-i-init : goal.loop-i-init
loop-i-init c = refl

pub loop-i-preserved : goal.loop-i-preserved
loop-i-preserved c =
    let xs = c.args.labels.now in
    let ys = c.args.others.now in
    let i = c.loop-i.i in
    let x = c.index-labels-i.result in
    let y = c.index-others-i.result in
    same_next labels_test xs ys i x y (read_at xs i x (omega (arith, c.loop-i-test.true)) c.index-labels-i.is)
    (read_at ys i y (omega (arith, c.loop-i-test.true, c.if-labels-others.false)) c.index-others-i.is) c.loop-i.invariant
    (sym c.same_label.ensures ∙ c.if-not-same_label.false)

pub returns-then-not-same_label : goal.returns-then-not-same_label
returns-then-not-same_label c =
    let xs = c.args.labels.now in
    let ys = c.args.others.now in
    let i = c.loop-i.i in
    let x = c.index-labels-i.result in
    let y = c.index-others-i.result in
    sym (labels_pairwise xs ys
    ∙ differs_here labels_test xs ys i x y (read_at xs i x (omega (arith, c.loop-i-test.true)) c.index-labels-i.is)
    (read_at ys i y (omega (arith, c.loop-i-test.true, c.if-labels-others.false)) c.index-others-i.is) c.loop-i.invariant
    (sym c.same_label.ensures ∙ c.if-not-same_label.true))

pub returns : goal.returns
returns c =
    let xs = c.args.labels.now in
    let ys = c.args.others.now in
    sym (labels_pairwise xs ys ∙ same_at_end labels_test xs ys c.loop-i.i c.if-labels-others.false (omega (arith, c.loop-i-test.false)) c.loop-i.invariant)
