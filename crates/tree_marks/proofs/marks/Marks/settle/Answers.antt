-- The new nodes are marked as what doesn't stand, and then the grown node is spread.
use Rattle.std.proofs.Common.{◌++◌, ◌-◌, true, false, length, replicate, refl, ap, ◌∙◌, arith}
use Rattle.tree_marks.specs.TreeMarks.{MarksRoom}
use Rattle.tree_marks.proofs.Settling.{sizes, begins, knows_begins, settled_as, written_back, length-extended}
use Rattle.tree_marks.proofs.marks.Marks.settle.Goals as goal

pub overflow_sub-self : goal.overflow_sub-self
overflow_sub-self c = let known = sizes c.args.shape.now.shape c.args.node c.args.self.now.marks c.requires.grown in
    let same = ap (λ (m : MarksRoom). length m.marks.proved) c.self.view_is in
    omega (arith, c.len-len.ensures.count)

pub extend-requires-clause-longer : goal.extend-requires-clause-longer
extend-requires-clause-longer c = let known = sizes c.args.shape.now.shape c.args.node c.args.self.now.marks c.requires.grown in
    let same = ap (λ (m : MarksRoom). length m.marks.proved) c.self.view_is in
    omega (arith, c.len-len.ensures.count)

pub extend-requires-2-clause-longer : goal.extend-requires-2-clause-longer
extend-requires-2-clause-longer c = let known = sizes c.args.shape.now.shape c.args.node c.args.self.now.marks c.requires.grown in
    let same = ap (λ (m : MarksRoom). length m.marks.stuck) c.self.view_is in
    omega (arith, c.len-len.ensures.count)

pub extend_known-requires-clause-longer : goal.extend_known-requires-clause-longer
extend_known-requires-clause-longer c = let known = sizes c.args.shape.now.shape c.args.node c.args.self.now.marks c.requires.grown in
    let same = ap (λ (m : MarksRoom). length m.marks.known) c.self.view_is in
    omega (arith, c.len-len.ensures.count)

pub grow_to-requires-clause-longer : goal.grow_to-requires-clause-longer
grow_to-requires-clause-longer c = let known = sizes c.args.shape.now.shape c.args.node c.args.self.now.marks c.requires.grown in
    let same = ap (λ (m : MarksRoom). length m.marks.relevant) c.self.view_is in
    omega (arith, c.len-len.ensures.count)

pub grow_to-requires-clause-room : goal.grow_to-requires-clause-room
grow_to-requires-clause-room c = let known = sizes c.args.shape.now.shape c.args.node c.args.self.now.marks c.requires.grown in
    let same = ap (λ (m : MarksRoom). length m.marks.relevant) c.self.view_is in
    let spare = ap (λ (m : MarksRoom). m.spare) c.self.view_is in
    omega (arith, c.len-len.ensures.count, c.requires.room)

pub spread-requires : goal.spread-requires
spread-requires c =
    let known = sizes c.args.shape.now.shape c.args.node c.args.self.now.marks c.requires.grown in
    let proved = ap (λ (m : MarksRoom). m.marks.proved) c.self.view_is in
    let stuck = ap (λ (m : MarksRoom). m.marks.stuck) c.self.view_is in
    let relevant = ap (λ (m : MarksRoom). m.marks.relevant) c.self.view_is in
    let numbers = ap (λ (m : MarksRoom). m.marks.known) c.self.view_is in
    let p = length-extended c.self.inside.proved.items _ c.len-len.result _ (omega (arith, known, ap length proved, c.len-len.ensures.count)) c.extend.ensures.items in
    let s = length-extended c.self.inside.stuck.items _ c.len-len.result _ (omega (arith, known, ap length stuck, c.len-len.ensures.count)) c.extend-2.ensures.items in
    let r = length-extended c.self.inside.relevance.fading.flags _ c.len-len.result _ (omega (arith, known, ap length relevant, c.len-len.ensures.count)) c.grow_to.ensures.flags in
    let k = length-extended c.self.inside.known.items _ c.len-len.result _ (omega (arith, known, ap length numbers, c.len-len.ensures.count)) c.extend_known.ensures.items in
    record {
      begins = begins c.args.shape.now.shape c.args.node c.args.self.now.marks _ _ _ _ _ _ c.requires.grown
          (c.deref_mut.ensures.value ∙ c.extend.ensures.items ∙ ap (λ flags. flags ++ replicate (c.len-len.result - length c.self.inside.proved.items) false) proved)
          (c.deref_mut-2.ensures.value ∙ c.extend-2.ensures.items ∙ ap (λ flags. flags ++ replicate (c.len-len.result - length c.self.inside.stuck.items) false) stuck)
          (c.grow_to.ensures.flags ∙ ap (λ flags. flags ++ replicate (c.len-len.result - length c.self.inside.relevance.fading.flags) true) relevant);
      proved_size = ap length c.deref_mut.ensures.value ∙ p ∙ c.len-len.ensures.count;
      stuck_size = ap length c.deref_mut-2.ensures.value ∙ s ∙ c.len-len.ensures.count;
      relevance_size = r ∙ c.len-len.ensures.count;
      idle = c.grow_to.ensures.pending ∙ c.self.invariant.4;
      stands = known.stands;
      known_size = ap length c.deref_mut-3.ensures.value ∙ k ∙ c.len-len.ensures.count;
      knows = knows_begins c.args.shape.now.shape c.args.node c.args.self.now.marks _ _ _ _ _ _ c.requires.grown
          (c.deref_mut.ensures.value ∙ c.extend.ensures.items ∙ ap (λ flags. flags ++ replicate (c.len-len.result - length c.self.inside.proved.items) false) proved)
          (c.deref_mut-2.ensures.value ∙ c.extend-2.ensures.items ∙ ap (λ flags. flags ++ replicate (c.len-len.result - length c.self.inside.stuck.items) false) stuck)
          (c.deref_mut-3.ensures.value ∙ c.extend_known.ensures.items ∙ ap (λ pairs. pairs ++ replicate (c.len-len.result - length c.self.inside.known.items) (0, 0)) numbers);
    }

pub returns-clause-settled : goal.returns-clause-settled
returns-clause-settled c = settled_as c.args.shape.now.shape c.spread.new.proved c.spread.new.stuck c.spread.new.relevance.fading.flags c.spread.new.known _ _ _ _ c.spread.ensures.settled
    (written_back c.spread.new.proved _ _ (omega (arith, c.deref_mut.ensures.len)))
    (written_back c.spread.new.stuck _ _ (omega (arith, c.deref_mut-2.ensures.len)))
    refl
    (written_back c.spread.new.known _ _ (omega (arith, c.deref_mut-3.ensures.len)))

pub returns-clause-spare : goal.returns-clause-spare
returns-clause-spare c = let known = sizes c.args.shape.now.shape c.args.node c.args.self.now.marks c.requires.grown in
    let same = ap (λ (m : MarksRoom). length m.marks.proved) c.self.view_is in
    let spare = ap (λ (m : MarksRoom). m.spare) c.self.view_is in
    omega (arith, c.len-len.ensures.count)
