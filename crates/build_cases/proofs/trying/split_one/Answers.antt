use Rattle.std.proofs.Common.{sym, ◌∙◌}
use Rattle.build_shared.specs.Seen.{seen_hypothesis, seen_candidate}
use Rattle.build_cases.proofs.Offered.{usable}
use Rattle.build_cases.proofs.EachHypothesis.{passed_over, tried}
use Rattle.build_cases.proofs.trying.split_one.Goals as goal

pub returns-then-not-is_atomic-clause-found : goal.returns-then-not-is_atomic-clause-found
returns-then-not-is_atomic-clause-found c = passed_over c.args.split.now (seen_hypothesis c.args.hyp.now) c.args.found.now.items (sym c.is_atomic.ensures ∙ c.if-not-is_atomic.true)

pub candidate_of-requires-clause-may_split : goal.candidate_of-requires-clause-may_split
candidate_of-requires-clause-may_split c = c.requires.may_split (sym c.is_atomic.ensures ∙ c.if-not-is_atomic.false)

pub add_if_counts-requires-clause-usage : goal.add_if_counts-requires-clause-usage
add_if_counts-requires-clause-usage c = c.requires.is_split.usage

pub add_if_counts-requires-clause-candidate : goal.add_if_counts-requires-clause-candidate
add_if_counts-requires-clause-candidate c =
    usable c.args.split.now (seen_hypothesis c.args.hyp.now) (seen_candidate c.in_ok-candidate.candidate) (c.requires.may_split (sym c.is_atomic.ensures ∙ c.if-not-is_atomic.false)) c.in_ok-candidate.ensures

pub returns-clause-found : goal.returns-clause-found
returns-clause-found c =
    tried c.args.split.now (seen_hypothesis c.args.hyp.now) (seen_candidate c.in_ok-candidate.candidate) c.args.found.now.items _ (sym c.is_atomic.ensures ∙ c.if-not-is_atomic.false) c.in_ok-candidate.ensures
    c.in_ok-add_if_counts.ensures.found
