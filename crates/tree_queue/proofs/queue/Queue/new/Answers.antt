use Rattle.std.proofs.lemmas.Map.Made.{IsDistinct-from_count}
use Rattle.std.proofs.lemmas.Cmp.{nat_eq_equiv}
use Rattle.std.proofs.Common.{refl, arith, ap, ◌∙◌, length, [], sym, IsSome, count_by, is_some}
use Rattle.std.proofs.lemmas.List.Elements.{All-nil}
use Rattle.slab.specs.Slab.{get}
use Rattle.tree_queue.proofs.queue.Queue.new.Goals as goal

pub invariant_of-result : goal.invariant_of-result
invariant_of-result c =
    let keys = c.new.ensures.items in
    let slots = c.new-2.ensures.empty in
    record {
      apart = rw keys (IsDistinct-from_count nat_eq_equiv [] refl);
      held = rw keys (All-nil (λ key. IsSome (get c.new-2.result key)));
      count = ap (count_by is_some) slots ∙ sym (ap length keys);
      fits = rw keys (omega arith);
      values = omega arith;
      places = omega arith;
    }
