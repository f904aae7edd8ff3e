use Rattle.std.proofs.Common.{◌≡◌, ◌<◌, Some, length, map, slice_get, sym, ap, subst, subst₂, arith}
use Rattle.std.proofs.lemmas.List.{length-map}
use Rattle.unification.specs.Equations.{numbered_from}
use Rattle.unification.specs.Patterns.{has_number}
use Rattle.unification.specs.Transitions.{Unifies}
use Rattle.meta_unify.specs.Endings.{ending_of}
use Rattle.meta_unify.specs.Walks.{IsShapedProblem, AnswerKnowsContexts}
use Rattle.build_shared.specs.Seen.{seen_atom, seen_hypothesis}
use Rattle.build_forward.specs.Onwards.{opening_for}
use Rattle.build_forward.proofs.PremisePlaces.{as_many, read_at}
use Rattle.build_forward.proofs.PassedTuples.{is_shaped_problem, refusal_means}
use Rattle.build_forward.proofs.ClashedTuples.{may_be_instantiated, clashes_come_to_nothing}
use Rattle.build_forward.proofs.refusal.awaited_after.Goals as goal

pub equations_between-requires : goal.equations_between-requires
equations_between-requires c =
    let s = c.args.sieve.now in
    let is = c.requires.sieve in
    let many = as_many s.onward.now is.onward s.premises.now (opening_for s.onward.now is.tuple) is.premises_are in
    omega (arith, c.requires.few, many)

pub unify-requires : goal.unify-requires
unify-requires c = subst IsShapedProblem (sym c.in_ok-equations.ensures) (is_shaped_problem c.args.sieve.now c.requires.sieve (map seen_hypothesis c.args.chosen.now) c.requires.chosen)

pub instantiate_atom-requires : goal.instantiate_atom-requires
instantiate_atom-requires c =
    let s = c.args.sieve.now in
    let is = c.requires.sieve in
    let chosen = map seen_hypothesis c.args.chosen.now in
    let x = c.index-premises-place.result in
    let many = as_many s.onward.now is.onward s.premises.now (opening_for s.onward.now is.tuple) is.premises_are in
    let within : length c.args.chosen.now < length s.premises.now = omega (arith, c.requires.few, many) in
    let counted = length-map c.args.chosen.now seen_hypothesis in
    let there = subst (λ n. slice_get (map seen_atom s.premises.now) n ≡ Some (seen_atom x)) (sym counted) (read_at s.premises.now (length c.args.chosen.now) x within c.index-premises-place.is) in
    let before = subst₂ (λ l e. Unifies (has_number s.frozen.now) (numbered_from 0 l) (ending_of e)) c.in_ok-equations.ensures c.in-Solved.is c.in_ok-unified.ensures.ending in
    may_be_instantiated s is chosen c.requires.chosen (seen_atom x) there c.in-Solved.assign before (subst₂ AnswerKnowsContexts c.in_ok-equations.ensures c.in-Solved.is c.in_ok-unified.ensures.contexts)
    (let premises = ap length is.onward.premises_are in omega (arith, c.requires.few, counted, premises))

pub returns : goal.returns
returns c =
    let s = c.args.sieve.now in
    let is = c.requires.sieve in
    let chosen = map seen_hypothesis c.args.chosen.now in
    let x = c.index-premises-place.result in
    let many = as_many s.onward.now is.onward s.premises.now (opening_for s.onward.now is.tuple) is.premises_are in
    let within : length c.args.chosen.now < length s.premises.now = omega (arith, c.requires.few, many) in
    let counted = length-map c.args.chosen.now seen_hypothesis in
    let there = subst (λ n. slice_get (map seen_atom s.premises.now) n ≡ Some (seen_atom x)) (sym counted) (read_at s.premises.now (length c.args.chosen.now) x within c.index-premises-place.is) in
    let before = subst₂ (λ l e. Unifies (has_number s.frozen.now) (numbered_from 0 l) (ending_of e)) c.in_ok-equations.ensures c.in-Solved.is c.in_ok-unified.ensures.ending in
    clashes_come_to_nothing s is chosen c.requires.chosen (seen_atom x) there c.in-Solved.assign before (seen_atom c.in_ok-atom.atom) c.in_ok-atom.ensures.result

pub returns-in_default : goal.returns-in_default
returns-in_default c =
    refusal_means c.args.sieve.now c.requires.sieve (map seen_hypothesis c.args.chosen.now) c.requires.chosen c.in_ok-equations.equations c.in_ok-unified.unified c.in_ok-equations.ensures
    c.in_ok-unified.ensures.ending c.in_default.not-Solved
