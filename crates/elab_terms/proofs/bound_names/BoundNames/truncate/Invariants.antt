use Rattle.std.proofs.Common.{◌≡◌, ◌-◌, drop}
use Rattle.elab_terms.proofs.bound_names.BoundNames.truncate.Given as goal

abbrev pub invariant-loop : goal.invariant-loop
invariant-loop l = l.self ≡ drop (l.counter - l.count) l.initial.self
