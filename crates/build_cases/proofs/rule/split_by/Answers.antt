use Rattle.std.proofs.Common.{[], map, sym, ap, ◌∙◌, subst}
use Rattle.std.specs.Prelude.{option_map}
use Rattle.lf_definitions.specs.ShapedGoals.{scope_in, kind_shapes_in}
use Rattle.lf_definitions.specs.GoalLists.{all_goals}
use Rattle.lf_terms.specs.Targets.{goal_of}
use Rattle.lf_terms.specs.Types.{type_of}
use Rattle.meta_goals.specs.GoalsOf.{goals_of}
use Rattle.application_laws.specs.Conditions.{HasAtomAt}
use Rattle.rule_methods.specs.RuleMethods.{place_of_major}
use Rattle.build_shared.specs.RuleUses.{AddsWhatCounts}
use Rattle.build_shared.specs.Seen.{seen_hypothesis}
use Rattle.build_shared.proofs.WholeUses.{first_is_shaped}
use Rattle.build_cases.proofs.WholeRules.{place_is, offered_by_rule}
use Rattle.build_cases.proofs.rule.split_by.Goals as goal

pub hypotheses-requires : goal.hypotheses-requires
hypotheses-requires c =
    let u = c.args.usage.now in
    let goals = goals_of u.goals.now in
    (kind_shapes_in u.sig.now, scope_in u.sig.now (all_goals goals) [], (first_is_shaped u.sig.now goals u.first (goal_of u.goal.now) c.requires.usage.goals).0)

pub split_each-requires : goal.split_each-requires
split_each-requires c =
    let type = type_of c.in-Some.ty.now in
    let type_is = sym (sym (ap (option_map (λ t. type_of t.now)) c.in-Some.is) ∙ c.constant_type.ensures) in
    let place = place_is c.args.rule.now.major ∙ sym c.saturating_sub.ensures in
    record {
      usage = c.requires.usage;
      type_is = type_is;
      marks_are = c.as_slice.ensures.value ∙ c.in_ok-marks.ensures;
      takes_atom = subst (HasAtomAt type) place (c.requires.takes_atom type type_is);
      hypotheses_are = ap (map seen_hypothesis) c.as_slice-2.ensures.value ∙ c.in_ok-hyps.ensures;
    }

pub returns-clause-found : goal.returns-clause-found
returns-clause-found c =
    let u = c.args.usage.now in
    let r = c.args.rule.now in
    let type_is = sym (sym (ap (option_map (λ t. type_of t.now)) c.in-Some.is) ∙ c.constant_type.ensures) in
    let same = c.saturating_sub.ensures ∙ sym (place_is r.major) in
    subst (λ cs. AddsWhatCounts u cs [] c.in_ok-found.found.items)
    (offered_by_rule u.sig.now u.rule r.subject c.saturating_sub.result (place_of_major r.major) (goal_of u.goal.now) u.first (type_of c.in-Some.ty.now) type_is same) c.in_ok-found.ensures.found
