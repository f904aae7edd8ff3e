use Rattle.std.proofs.Common.{◌<◌, ℕ, All, length, map, replicate, ap, ap₂, sym, ◌∙◌, subst, arith}
use Rattle.meta_openings.specs.Results.{opened_type_of}
use Rattle.build_shared.specs.declared.hypotheses.Hypothesis.{Hypothesis}
use Rattle.build_shared.specs.Seen.{seen_atom, seen_hypothesis}
use Rattle.build_forward.specs.Onwards.{IsAtomIn, opening_for, premise_types}
use Rattle.build_forward.proofs.OpenedTuples.{has_shaped_terms}
use Rattle.build_forward.proofs.PassedTuples.{tuple_atoms, tuple_length}
use Rattle.build_forward.proofs.rule.found_by.Goals as goal

pub opened_for-requires-clause-chosen : goal.opened_for-requires-clause-chosen
opened_for-requires-clause-chosen c =
    let o = c.args.onward.now in
    let h = c.index-onward-0.result in
    let some : 0 < length o.hyps.now = omega (arith, c.if-onward-eq0.false) in
    let are = c.in_ok-tuple.ensures ∙ ap₂ (λ (n : ℕ) (x : Hypothesis). replicate n (seen_hypothesis x)) c.len-count.ensures (sym c.index-onward-0.is) in
    subst (All (IsAtomIn o.usage.now)) (ap (map seen_hypothesis) (sym c.as_slice-2.ensures.value)) (tuple_atoms o c.requires h some c.index-onward-0.is c.in_ok-tuple.tuple.items are)

pub go_on-requires-clause-sieve : goal.go_on-requires-clause-sieve
go_on-requires-clause-sieve c =
    let o = c.args.onward.now in
    let h = c.index-onward-0.result in
    let some : 0 < length o.hyps.now = omega (arith, c.if-onward-eq0.false) in
    let are = c.in_ok-tuple.ensures ∙ ap₂ (λ (n : ℕ) (x : Hypothesis). replicate n (seen_hypothesis x)) c.len-count.ensures (sym c.index-onward-0.is) in
    let many = tuple_length o c.requires h some c.index-onward-0.is c.in_ok-tuple.tuple.items are in
    let premises = ap length c.requires.premises_are in
    record {
      onward = c.requires;
      tuple = map seen_hypothesis c.in_ok-tuple.tuple.items;
      atoms = tuple_atoms o c.requires h some c.index-onward-0.is c.in_ok-tuple.tuple.items are;
      enough = omega (arith, many, premises);
      premises_are = ap (map seen_atom) c.as_slice-3.ensures.value ∙ c.in_ok-premises.ensures ∙ ap (premise_types o) (c.in_ok-opened.ensures ∙ ap (λ items. opening_for o (map seen_hypothesis items)) c.as_slice-2.ensures.value);
      frozen_are = c.in_ok-frozen.ensures;
    }

pub premise_types-requires-clause-shaped : goal.premise_types-requires-clause-shaped
premise_types-requires-clause-shaped c =
    let o = c.args.onward.now in
    let h = c.index-onward-0.result in
    let some : 0 < length o.hyps.now = omega (arith, c.if-onward-eq0.false) in
    let are = c.in_ok-tuple.ensures ∙ ap₂ (λ (n : ℕ) (x : Hypothesis). replicate n (seen_hypothesis x)) c.len-count.ensures (sym c.index-onward-0.is) in
    has_shaped_terms o c.requires (map seen_hypothesis c.in_ok-tuple.tuple.items) (tuple_atoms o c.requires h some c.index-onward-0.is c.in_ok-tuple.tuple.items are) (opened_type_of c.in_ok-opened.opened)
    (c.in_ok-opened.ensures ∙ ap (λ items. opening_for o (map seen_hypothesis items)) c.as_slice-2.ensures.value)
