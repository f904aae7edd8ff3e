use Rattle.std.proofs.Common.{◌≡◌, ◌+◌, ◌∙◌, sym, length, false, arith}
use Rattle.std.proofs.lemmas.List.Sorted.{length_permutation}
use Rattle.tree_runs.specs.Marks.{is_relevant}
use Rattle.tree_queue.proofs.Drops.{first_is_best, DropsIrrelevant-more, first_stands, no_first}
use Rattle.tree_queue.proofs.queue.Queue.best.Goals as goal

pub returns-then-relevant-clause-best : goal.returns-then-relevant-clause-best
returns-then-relevant-clause-best c =
    first_is_best c.args.shape.now.shape c.loop-entry.self.entries c.in-Some.entry c.loop-entry.invariant.queue (sym c.first.ensures ∙ c.in-Some.is)

pub loop-entry-smaller : goal.loop-entry-smaller
loop-entry-smaller c =
    let taken = c.take.ensures.taken c.in-Some.entry (sym c.first.ensures ∙ c.in-Some.is) in
    let fewer : length c.take.new.self.entries + 1 ≡ length c.loop-entry.self.entries = omega (arith, length_permutation _ _ taken) in
    omega (arith, fewer)

pub loop-entry-preserved : goal.loop-entry-preserved
loop-entry-preserved c =
    let before = c.loop-entry.invariant in
    let first = sym c.first.ensures ∙ c.in-Some.is in
    let shape = c.args.shape.now.shape in
    let stands = first_stands shape c.loop-entry.self.entries c.in-Some.entry before.queue first in
    let irrelevant : is_relevant shape c.in-Some.entry.node ≡ false = sym (c.requires.marks.relevant_is c.in-Some.entry.node) ∙ (sym c.relevant.ensures ∙ c.if-relevant.false) in
    record {
      queue = c.take.ensures.queue;
      dropped = DropsIrrelevant-more shape c.args.self.now.entries c.loop-entry.self.entries c.take.new.self.entries c.in-Some.entry before.dropped irrelevant (c.take.ensures.taken c.in-Some.entry first);
      spare = omega (arith, c.take.ensures.spare, before.spare);
    }

pub returns-clause-none : goal.returns-clause-none
returns-clause-none c = no_first c.loop-entry.self.entries (sym c.first.ensures ∙ c.in_default.is)
