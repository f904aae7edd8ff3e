use Rattle.std.proofs.Common.{◌≡◌, ◌+◌, ◌++◌, ◌∷◌, [], All, map, length, sym, ap, ◌∙◌, subst, length-append, arith}
use Rattle.std.proofs.lemmas.List.{length-map}
use Rattle.std.proofs.lemmas.List.Elements.{All-push}
use Rattle.build_shared.specs.RuleUses.{AddsWhatCounts}
use Rattle.build_shared.specs.Seen.{seen_hypothesis}
use Rattle.build_forward.specs.Onwards.{IsAtomIn, tuple_offers}
use Rattle.build_forward.specs.Sieves.{Awaits}
use Rattle.build_forward.proofs.OfferedTuples.{less_left, one_longer}
use Rattle.build_forward.proofs.PassedTuples.{passed_over, nothing_awaited}
use Rattle.build_forward.proofs.PremisePlaces.{read_holds}
use Rattle.build_forward.proofs.tuples.+go_on.Goals as goal

pub go_on-returns-in_default-clause-found : goal.go_on-returns-in_default-clause-found
go_on-returns-in_default-clause-found t c =
    let a = c.args in
    let o = a.sieve.now.onward.now in
    let chosen = map seen_hypothesis a.chosen.now in
    let many = length-map a.chosen.now seen_hypothesis in
    let count : length chosen + a.left ≡ length o.premises.now = omega (arith, c.requires.count, many) in
    passed_over o c.requires.sieve.onward chosen a.left (nothing_awaited o chosen _ c.in_default.not-Some c.in_ok-awaited.ensures) count a.found.now.items

pub go_on-go_on_with-requires : goal.go_on-go_on_with-requires
go_on-go_on_with-requires t c =
    let a = c.args in
    let o = a.sieve.now.onward.now in
    let chosen = map seen_hypothesis a.chosen.now in
    let hyp = read_holds (IsAtomIn o.usage.now) o.hyps.now c.loop-i.i c.index-hyps-i.result c.requires.sieve.onward.atoms c.loop-i-test.true c.index-hyps-i.is in (
      omega (arith, c.decreases, c.if-left-eq0.false),
      (c.requires.sieve, (c.requires.chosen, (hyp, (subst (Awaits o chosen) c.in-Some.is c.in_ok-awaited.ensures, omega (arith, c.requires.count, c.if-left-eq0.false))))),
    )

pub go_on-loop-i-preserved : goal.go_on-loop-i-preserved
go_on-loop-i-preserved t c =
    let a = c.args in
    record {
      left = less_left a.sieve.now.onward.now a.left (map seen_hypothesis a.chosen.now) a.found.now.items c.loop-i.i c.index-hyps-i.result c.loop-i.found.items c.go_on_with.new.found.items c.loop-i-test.true
          c.index-hyps-i.is c.loop-i.invariant.left c.in_ok-go_on_with.ensures.found;
      shapes = λ before. c.in_ok-go_on_with.ensures.shapes (c.loop-i.invariant.shapes before);
    }

pub go_on_with-returns-then-atoms_clash-clause-found : goal.go_on_with-returns-then-atoms_clash-clause-found
go_on_with-returns-then-atoms_clash-clause-found t c =
    let a = c.args in
    let o = a.sieve.now.onward.now in
    let chosen = map seen_hypothesis a.chosen.now in
    let h = seen_hypothesis a.hyp.now in
    let many = length-map a.chosen.now seen_hypothesis in
    let more = length-append chosen (h ∷ []) in
    let count : length (chosen ++ h ∷ []) + a.left ≡ length o.premises.now = omega (arith, c.requires.count, many, more) in
    passed_over o c.requires.sieve.onward (chosen ++ h ∷ []) a.left (c.requires.awaited h c.requires.hyp (c.atoms_clash.ensures c.if-atoms_clash.true)) count a.found.now.items

pub go_on_with-go_on-requires : goal.go_on_with-go_on-requires
go_on_with-go_on-requires t c =
    let a = c.args in
    let o = a.sieve.now.onward.now in
    let are = ap (map seen_hypothesis) c.as_slice.ensures.value ∙ c.in_ok-longer.ensures in
    let longer = one_longer a.chosen.now c.as_slice.result.now a.hyp.now are in
    let atoms = subst (All (IsAtomIn o.usage.now)) (sym are) (All-push (IsAtomIn o.usage.now) (map seen_hypothesis a.chosen.now) (seen_hypothesis a.hyp.now) c.requires.chosen c.requires.hyp) in
    (omega (arith, c.decreases), (c.requires.sieve, (atoms, omega (arith, c.requires.count, longer))))

pub go_on_with-returns-clause-found : goal.go_on_with-returns-clause-found
go_on_with-returns-clause-found t c =
    let a = c.args in
    let o = a.sieve.now.onward.now in
    let are = ap (map seen_hypothesis) c.as_slice.ensures.value ∙ c.in_ok-longer.ensures in
    subst (λ hs. AddsWhatCounts o.usage.now (tuple_offers o a.left hs) a.found.now.items c.go_on.new.found.items) are c.in_ok-go_on.ensures.found
