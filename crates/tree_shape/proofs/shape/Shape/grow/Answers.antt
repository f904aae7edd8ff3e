-- The three vectors grow as the shape does, and there is room for it.
use Rattle.std.proofs.Common.{◌≡◌, ◌+◌, ◌<◌, length, None, sym, ap, subst, refl, ◌∙◌, arith}
use Rattle.std.specs.Prelude.{sum}
use Rattle.tree_runs.specs.Shapes.{alternatives_at, grow}
use Rattle.tree_shape.proofs.Spans.{GrowsVectors, grows_vectors}
use Rattle.tree_shape.proofs.shape.Shape.grow.Goals as goal

grown : (c : goal.After-len) → GrowsVectors c.self.inside.above.items c.add_alternatives.new.above.items c.self.inside.spans.items c.add_alternatives.new.spans.items
    c.self.inside.alternatives.items c.add_alternatives.new.alternatives.items c.args.node c.as_slice-counts.result.now
grown c = grows_vectors _ _ _ _ _ _ _ _ _ _ c.self.invariant.0
    (subst (λ s. c.args.node < length s.shape.above) (sym c.self.view_is) c.requires.stands)
    (subst (λ s. alternatives_at s.shape c.args.node ≡ None) (sym c.self.view_is) c.requires.ungrown)
    (omega arith) refl
    c.add_alternatives.ensures.above c.add_alternatives.ensures.spans c.add_alternatives.ensures.alternatives

same_sum : (c : goal.After-len) → sum c.as_slice-counts.result.now + length c.as_slice-counts.result.now ≡ sum c.args.counts.now + length c.args.counts.now
same_sum c = ap (λ counts. sum counts + length counts) c.as_slice-counts.ensures

spare_is : (c : goal.After-len) → c.self.inside.spare ≡ c.args.self.now.spare
spare_is c = ap (λ s. s.spare) c.self.view_is

pub overflow_sub-self-2 : goal.overflow_sub-self-2
overflow_sub-self-2 c =
    let grows = grown c in
    let same = same_sum c in
    let spare = spare_is c in
    omega arith

pub invariant_of-self : goal.invariant_of-self
invariant_of-self c =
    let grows = grown c.before in
    let same = same_sum c.before in
    let spare = spare_is c.before in
    (grows.represented, record { memory = omega arith; numbers = omega arith }, record { memory = omega arith; numbers = omega arith }, record { memory = omega arith; numbers = omega arith })

pub returns-clause-shape : goal.returns-clause-shape
returns-clause-shape c =
    (grown c.before).shape ∙ ap (λ s. grow s.shape c.args.node c.as_slice-counts.result.now) c.self.view_is ∙ ap (λ counts. grow c.args.self.now.shape c.args.node counts) c.as_slice-counts.ensures

pub returns-clause-spare : goal.returns-clause-spare
returns-clause-spare c =
    let grows = grown c.before in
    let same = same_sum c.before in
    let spare = spare_is c.before in
    omega arith
