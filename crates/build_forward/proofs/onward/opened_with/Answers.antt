use Rattle.std.proofs.Common.{map}
use Rattle.meta_openings.specs.Results.{opened_type_of}
use Rattle.build_shared.specs.Seen.{seen_hypothesis}
use Rattle.build_forward.proofs.OpenedTuples.{is_openable, opened_is}
use Rattle.build_forward.proofs.onward.opened_with.Goals as goal

pub open_args-requires : goal.open_args-requires
open_args-requires c =
    is_openable c.args.onward.now c.requires.onward (map seen_hypothesis c.args.chosen.now) c.requires.chosen c.in_ok-kept.kept c.args.fixed.now c.in_ok-kept.ensures c.requires.fixed

pub returns : goal.returns
returns c =
    opened_is c.args.onward.now c.requires.onward (map seen_hypothesis c.args.chosen.now) c.requires.chosen c.in_ok-kept.kept c.args.fixed.now c.in_ok-kept.ensures c.requires.fixed
    (opened_type_of c.in_ok-opened.opened) c.in_ok-opened.ensures
