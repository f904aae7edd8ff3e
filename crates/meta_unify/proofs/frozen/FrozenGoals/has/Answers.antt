use Rattle.std.proofs.Common.{ap, ◌∙◌}
use Rattle.unification.specs.Patterns.{has_number}
use Rattle.meta_unify.proofs.FrozenNumbers.{list_any-has_number}
use Rattle.meta_unify.proofs.frozen.FrozenGoals.has.Goals as goal

pub returns : goal.returns
returns c = c.contains.ensures ∙ list_any-has_number c.self.inside.numbers.keys c.args.goal ∙ ap (λ ns. has_number ns c.args.goal) c.self.view_is
