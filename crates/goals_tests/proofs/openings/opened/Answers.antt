use Rattle.goals_tests.proofs.OpenedOnce.{example_is_openable}
use Rattle.goals_tests.proofs.openings.opened.Goals as goal

pub open_args-requires : goal.open_args-requires
open_args-requires c = example_is_openable _ _ _ _ c.in_ok-ctx.ensures c.in_ok-kept.ensures c.in_ok-fixed.ensures c.in_ok-ty.ensures
