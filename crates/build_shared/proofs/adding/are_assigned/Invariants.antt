use Rattle.std.proofs.Common.{◌≡◌, take}
use Rattle.std.specs.Prelude.{true, is_some}
use Rattle.std.specs.List.{list_all}
use Rattle.lf_terms.specs.declared.goal.Goal.{Goal}
use Rattle.meta_goals.specs.Bindings.{assigning}
use Rattle.build_shared.proofs.adding.are_assigned.Given as goal

abbrev pub invariant-loop-i : goal.invariant-loop-i
invariant-loop-i l = list_all (λ (x : Goal). is_some (assigning l.entries x.id)) (take l.i l.items) ≡ true
