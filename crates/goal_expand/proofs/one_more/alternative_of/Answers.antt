use Rattle.std.proofs.Common.{map}
use Rattle.build_shared.specs.Seen.{seen_label}
use Rattle.goal_expand.proofs.Turns.{may_build_on}
use Rattle.goal_expand.proofs.Found.{alternative_is}
use Rattle.goal_expand.proofs.one_more.alternative_of.Goals as goal

pub build_on-requires : goal.build_on-requires
build_on-requires c = may_build_on c.args.given.now c.requires.given c.args.reached.now c.requires.reached c.args.app c.requires.next

pub returns-clause-alternative : goal.returns-clause-alternative
returns-clause-alternative c =
    alternative_is c.args.given.now c.args.reached.now (map seen_label c.args.norm.items) c.args.percent c.args.app _ _ _ _ c.last_of-last.ensures c.in_ok-goals.ensures c.in_ok-build.ensures.build
