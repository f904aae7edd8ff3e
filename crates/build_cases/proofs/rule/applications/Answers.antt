use Rattle.std.proofs.Common.{map, sym, ap, ◌∙◌}
use Rattle.std.specs.Prelude.{option_map}
use Rattle.std.proofs.lemmas.Option.{slice_get_within}
use Rattle.lf_terms.specs.Targets.{goal_of}
use Rattle.meta_goals.specs.GoalsOf.{goals_of}
use Rattle.build_shared.specs.Seen.{seen_application}
use Rattle.build_shared.proofs.WholeUses.{begins_use}
use Rattle.build_cases.proofs.WholeRules.{builder_is, takes_atoms, all_applications}
use Rattle.build_cases.proofs.rule.applications.Goals as goal

pub rule-requires : goal.rule-requires
rule-requires c = let r = c.requires.rule in slice_get_within c.args.rules.now.rules c.args.rule r.rule r.rule_is

pub split_by-requires-clause-usage : goal.split_by-requires-clause-usage
split_by-requires-clause-usage c =
    let is = sym (ap (option_map (λ g. goal_of g.now)) c.in-Some.is) ∙ c.first_goal.ensures in
    begins_use _ c.is_formed.ensures c.requires.goals c.in_ok-first.ensures is

pub split_by-requires-clause-takes_atom : goal.split_by-requires-clause-takes_atom
split_by-requires-clause-takes_atom c =
    let a = c.args in
    let is = builder_is a.rules.now a.rule c.rule.result.now c.rule.ensures c.requires.rule in
    takes_atoms a.sig.now a.rules.now c.requires.over a.rule c.rule.result.now c.rule.ensures is

pub returns-clause-found : goal.returns-clause-found
returns-clause-found c =
    let a = c.args in
    let is = sym (ap (option_map (λ g. goal_of g.now)) c.in-Some.is) ∙ c.first_goal.ensures in
    let builds = builder_is a.rules.now a.rule c.rule.result.now c.rule.ensures c.requires.rule in
    λ rule here. all_applications a.sig.now a.rules.now c.requires.over a.rule (goals_of a.goals.now) c.in_ok-first.first (goal_of c.in-Some.goal.now) (map seen_application c.in_ok-found.found.items) c.rule.result.now rule
    c.in_ok-first.ensures is builds c.rule.ensures here c.in_ok-found.ensures.found
