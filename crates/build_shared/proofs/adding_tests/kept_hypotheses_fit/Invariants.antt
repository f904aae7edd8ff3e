use Rattle.std.proofs.Common.{◌≡◌, take, map}
use Rattle.std.specs.Prelude.{true}
use Rattle.lf_terms.specs.Types.{type_of}
use Rattle.applications.specs.Applications.{kept_types_are}
use Rattle.build_shared.specs.Added.{fits_beside}
use Rattle.build_shared.specs.Seen.{seen_hypothesis}
use Rattle.build_shared.proofs.adding_tests.kept_hypotheses_fit.Given as goal

abbrev pub invariant-loop-i : goal.invariant-loop-i
invariant-loop-i l = kept_types_are (fits_beside l.goal.ctx l.dropped (type_of l.fact)) l.kept (map seen_hypothesis (take l.i l.items)) ≡ true
