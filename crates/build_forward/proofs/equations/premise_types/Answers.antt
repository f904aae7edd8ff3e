use Rattle.std.proofs.Common.{◌≤◌, All, length, map, drop, sym, ap, ◌∙◌, subst, arith}
use Rattle.std.proofs.lemmas.List.{at_drop_all}
use Rattle.std.proofs.lemmas.List.Elements.{All-get_or}
use Rattle.lf_terms.specs.Types.{type_of}
use Rattle.meta_openings.specs.Results.{opened_type_of}
use Rattle.applications.specs.Candidates.{argument_type}
use Rattle.application_laws.specs.Conditions.{HasAtomAt}
use Rattle.build_shared.specs.Seen.{seen_atom}
use Rattle.build_forward.proofs.PremisePlaces.{all_pushed}
use Rattle.build_forward.proofs.equations.premise_types.Goals as goal

pub argument_type-requires-clause-atomic : goal.argument_type-requires-clause-atomic
argument_type-requires-clause-atomic c =
    let type = type_of c.args.onward.now.ty.now in
    let are = c.as_slice-premises.ensures in
    All-get_or (HasAtomAt type) c.as_slice-premises.result.now c.loop-i.i 0 c.loop-i-test.true (subst (All (HasAtomAt type)) (sym (are ∙ c.requires.onward.premises_are)) c.requires.onward.take_atoms)

pub returns : goal.returns
returns c =
    let TypeOf = argument_type (type_of c.args.onward.now.ty.now) (opened_type_of c.args.opened.now) in
    let premises = c.as_slice-premises.result.now in
    let past : length premises ≤ c.loop-i.i = omega (arith, c.loop-i-test.false) in
    all_pushed (map seen_atom c.loop-i.types.items) (map TypeOf (drop c.loop-i.i premises)) _ (at_drop_all (map TypeOf) premises c.loop-i.i past) c.loop-i.invariant
    ∙ ap (map TypeOf) (c.as_slice-premises.ensures ∙ c.requires.onward.premises_are)
