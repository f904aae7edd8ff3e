use Rattle.std.proofs.Common.{ap, ◌∙◌}
use Rattle.std.specs.Prelude.{nat_eq}
use Rattle.goal_expand.proofs.Turns.{none_by_length}
use Rattle.goal_expand.proofs.taking.closes.Goals as goal

pub returns : goal.returns
returns c = ap (λ n. nat_eq n 0) c.len.ensures ∙ none_by_length c.args.app.now.proofs
