use Rattle.std.proofs.Common.{◌≡◌, take}
use Rattle.rule_sets.specs.Refusals.{AreConstructors}
use Rattle.rule_sets.proofs.lists.first_fault_of_list.Given as goal

abbrev pub invariant-loop-i : goal.invariant-loop-i
invariant-loop-i l = record {
  passed_are : l.passed.keys ≡ take l.i l.items;
  good : AreConstructors l.sig l.family (take l.i l.items);
}
