use Rattle.std.proofs.Common.{[], All, map, sym, ap, ◌∙◌, subst}
use Rattle.std.specs.Prelude.{option_map}
use Rattle.lf_terms.specs.Targets.{goal_of}
use Rattle.lf_terms.specs.Types.{type_of}
use Rattle.build_shared.specs.RuleUses.{AddsWhatCounts}
use Rattle.build_shared.specs.Seen.{seen_hypothesis}
use Rattle.build_forward.specs.Onwards.{marked_from, IsAtomIn}
use Rattle.build_forward.proofs.PremisePlaces.{marked-premises}
use Rattle.build_forward.proofs.WholeRules.{all_atoms, all_offered}
use Rattle.build_forward.proofs.rule.go_onward.Goals as goal

pub found_by-requires : goal.found_by-requires
found_by-requires c =
    let u = c.args.usage.now in
    let type = type_of c.in-Some.ty.now in
    let type_is = sym (sym (ap (option_map (λ t. type_of t.now)) c.in-Some.is) ∙ c.constant_type.ensures) in
    record {
      usage = c.requires.usage;
      type_is = type_is;
      marks_are = c.as_slice-2.ensures.value ∙ c.in_ok-marks.ensures;
      premises_are = c.in_ok-premises.ensures ∙ ap (marked_from 0) (c.as_slice.ensures.value ∙ c.in_ok-marks.ensures) ∙ marked-premises 0 type;
      take_atoms = c.requires.atoms type type_is;
      atoms = subst (All (IsAtomIn u)) (sym (ap (map seen_hypothesis) c.as_slice-3.ensures.value ∙ c.in_ok-hyps.ensures)) (all_atoms u c.requires.usage);
    }

pub returns-clause-found : goal.returns-clause-found
returns-clause-found c =
    let u = c.args.usage.now in
    let type = type_of c.in-Some.ty.now in
    let is = sym (ap (option_map (λ t. type_of t.now)) c.in-Some.is) ∙ c.constant_type.ensures in
    subst (λ cs. AddsWhatCounts u cs [] c.in_ok-found.found.items)
    (all_offered u.sig.now u.rule c.args.constant c.args.drops (goal_of u.goal.now) u.first type c.in_ok-premises.premises (map seen_hypothesis c.as_slice-3.result.now)
    (c.in_ok-premises.ensures ∙ ap (marked_from 0) (c.as_slice.ensures.value ∙ c.in_ok-marks.ensures) ∙ marked-premises 0 type)
    (ap (map seen_hypothesis) c.as_slice-3.ensures.value ∙ c.in_ok-hyps.ensures) is) c.in_ok-found.ensures.found
