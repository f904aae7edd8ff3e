use Rattle.std.proofs.Common.{map}
use Rattle.meta_openings.specs.Results.{opened_type_of}
use Rattle.build_shared.specs.Seen.{seen_hypothesis}
use Rattle.build_forward.proofs.OpenedTuples.{has_shaped_terms}
use Rattle.build_forward.proofs.onward.candidate_of.Goals as goal

pub equations_for-requires-clause-shaped : goal.equations_for-requires-clause-shaped
equations_for-requires-clause-shaped c =
    has_shaped_terms c.args.onward.now c.requires.onward (map seen_hypothesis c.args.chosen.now) c.requires.chosen (opened_type_of c.in_ok-opened.opened) c.in_ok-opened.ensures
