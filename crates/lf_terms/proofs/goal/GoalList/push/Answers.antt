use Rattle.lf_terms.proofs.GoalNumbers.{rise_pushed}
use Rattle.lf_terms.proofs.goal.GoalList.push.Goals as goal

pub invariant_of-self-else-not-follows : goal.invariant_of-self-else-not-follows
invariant_of-self-else-not-follows c =
    λ rises. rise_pushed c.self.inside.items.items c.as_slice.result.now c.push.new.self.items c.args.goal c.as_slice.ensures.value c.in_ok-push.ensures.items
    (c.is_past-follows.ensures c.if-not-follows.false) (c.self.invariant rises)
