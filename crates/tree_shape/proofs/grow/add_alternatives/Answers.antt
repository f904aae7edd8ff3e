use Rattle.std.proofs.Common.{◌≡◌, ◌+◌, ap, ◌∙◌, ◌++◌, [], ◌∷◌, ℕ, length, get_or, refl, arith}
use Rattle.tree_runs.specs.Shapes.{first_child}
use Rattle.tree_shape.proofs.Growing.{next_alternative, sum-take, sum-step, length-above, length-spans, length-all}
use Rattle.tree_shape.proofs.grow.add_alternatives.Goals as goal

pub overflow_cast-len : goal.overflow_cast-len
overflow_cast-len c = omega (arith, sum-take c.loop-alternative.alternative c.args.counts.now)

pub add_children-requires-clause-above_room : goal.add_children-requires-clause-above_room
add_children-requires-clause-above_room c =
    let step = sum-step c.args.counts.now c.loop-alternative.alternative (get_or c.args.counts.now c.loop-alternative.alternative 0) (omega arith) refl in
    omega (arith, step, sum-take (c.loop-alternative.alternative + 1) c.args.counts.now)

pub add_children-requires-clause-spans_room : goal.add_children-requires-clause-spans_room
add_children-requires-clause-spans_room c =
    let step = sum-step c.args.counts.now c.loop-alternative.alternative (get_or c.args.counts.now c.loop-alternative.alternative 0) (omega arith) refl in
    omega (arith, step, sum-take (c.loop-alternative.alternative + 1) c.args.counts.now)

pub loop-alternative-preserved : goal.loop-alternative-preserved
loop-alternative-preserved c =
    let first : c.first_of-first.result ≡ first_child (length c.loop-alternative.above.items) (get_or c.args.counts.now c.loop-alternative.alternative 0) =
    c.first_of-first.ensures ∙ ap (λ (n : ℕ). first_child n (get_or c.args.counts.now c.loop-alternative.alternative 0)) (omega arith) in
    let grown = next_alternative c.args.node c.args.counts.now c.loop-alternative.alternative (get_or c.args.counts.now c.loop-alternative.alternative 0) _ _ _ _ _ _ _ _ _ c.loop-alternative.invariant.grown (omega arith) refl
    c.add_children.ensures.above c.add_children.ensures.spans
    (c.put_last.ensures.items ∙ ap (λ (n : ℕ). c.loop-alternative.alternatives.items ++ (n, get_or c.args.counts.now c.loop-alternative.alternative 0) ∷ []) first) in
    record {
      grown = grown;
      above_len = length-above _ _ _ _ _ _ _ _ _ grown;
      spans_len = length-spans _ _ _ _ _ _ _ _ _ grown;
      alternatives_len = length-all _ _ _ _ _ _ _ _ _ grown (omega arith);
      above_capacity = omega arith;
      spans_capacity = omega arith;
      alternatives_capacity = omega arith;
    }
