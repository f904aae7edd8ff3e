use Rattle.std.proofs.Common.{map, sym, ap, ◌∙◌}
use Rattle.std.specs.Prelude.{option_map}
use Rattle.lf_terms.specs.Targets.{goal_of}
use Rattle.meta_goals.specs.GoalsOf.{goals_of}
use Rattle.build_shared.specs.Seen.{seen_application}
use Rattle.build_shared.proofs.WholeUses.{begins_use}
use Rattle.build_forward.proofs.WholeRules.{takes_atoms, all_applications, builder_adds}
use Rattle.build_forward.proofs.rule.applications.Goals as goal

pub go_onward-requires-clause-usage : goal.go_onward-requires-clause-usage
go_onward-requires-clause-usage c =
    let is = sym (ap (option_map (λ x. goal_of x.now)) c.in-Some.is) ∙ c.first_goal.ensures in
    begins_use _ c.is_formed.ensures c.requires.goals c.in_ok-first.ensures is

pub go_onward-requires-clause-atoms : goal.go_onward-requires-clause-atoms
go_onward-requires-clause-atoms c =
    let a = c.args in
    let read = c.rule-item.result.now in
    takes_atoms a.sig.now a.rules.now c.requires.over a.rule read c.rule-item.ensures (builder_adds a.rules.now a.rule read c.rule-item.ensures c.requires.rule)

pub returns-clause-found : goal.returns-clause-found
returns-clause-found c =
    let a = c.args in
    let read = c.rule-item.result.now in
    let is = sym (ap (option_map (λ x. goal_of x.now)) c.in-Some.is) ∙ c.first_goal.ensures in
    λ rule there.
    all_applications a.sig.now a.rules.now c.requires.over a.rule read c.rule-item.ensures (builder_adds a.rules.now a.rule read c.rule-item.ensures c.requires.rule)
    (goals_of a.goals.now) c.in_ok-first.first (goal_of c.in-Some.goal.now) c.drops_hypotheses-drops.result (map seen_application c.in_ok-found.found.items) rule c.in_ok-first.ensures is
    c.drops_hypotheses-drops.ensures there c.in_ok-found.ensures.found
