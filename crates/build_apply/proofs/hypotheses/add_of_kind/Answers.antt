use Rattle.std.proofs.Common.{sym, ap, ◌∙◌, subst}
use mathlib.Core.Bool.{beq}
use Rattle.std.specs.Prelude.{not}
use Rattle.std.proofs.lemmas.Result.{on_ok_weaker}
use Rattle.lf_terms.specs.Targets.{goal_of}
use Rattle.applications.specs.Candidates.{by_hypothesis}
use Rattle.build_shared.specs.RuleUses.{AddsWhatCounts}
use Rattle.build_shared.specs.Seen.{seen_hypothesis}
use Rattle.build_shared.proofs.AddedCandidates.{adds_nothing}
use Rattle.build_apply.proofs.Offers.{of_this_kind, of_other_kind}
use Rattle.build_apply.proofs.hypotheses.add_of_kind.Goals as goal

pub returns-then-is_atomic-atomic-clause-found : goal.returns-then-is_atomic-atomic-clause-found
returns-then-is_atomic-atomic-clause-found c =
    let u = c.args.usage.now in
    let found = c.args.found.now.items in
    let differ = ap (λ v. not (beq v c.args.atomic)) (sym c.is_atomic.ensures) ∙ c.if-is_atomic-atomic.true in
    subst (λ cs. AddsWhatCounts u cs found found) (sym (of_other_kind (by_hypothesis u.rule (goal_of u.goal.now) u.first) c.args.atomic (seen_hypothesis c.args.hypothesis.now) differ)) (adds_nothing u found)

pub returns-clause-found : goal.returns-clause-found
returns-clause-found c =
    let u = c.args.usage.now in
    let same = ap (λ v. not (beq v c.args.atomic)) (sym c.is_atomic.ensures) ∙ c.if-is_atomic-atomic.false in
    let is = sym (of_this_kind (by_hypothesis u.rule (goal_of u.goal.now) u.first) c.args.atomic (seen_hypothesis c.args.hypothesis.now) same) in
    on_ok_weaker c.add_hypothesis.result (subst (λ cs. AddsWhatCounts u cs c.args.found.now.items c.add_hypothesis.new.found.items) is) c.add_hypothesis.ensures.found
