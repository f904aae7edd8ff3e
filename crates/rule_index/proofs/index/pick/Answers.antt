use Rattle.std.proofs.Common.{◌≡◌, Bool, List, ℕ, ◌+◌, map, get_or, length, Some, refl, sym, ap, ◌∙◌, subst₂, inl, inr, option_map, slice_get, arith}
use Rattle.std.proofs.lemmas.List.{length-map}
use Rattle.std.proofs.lemmas.Option.{slice_get-get_or, slice_get-map, slice_get_read}
use Rattle.rule_index.specs.Keys.{KeyedRule, is_compatible}
use Rattle.rule_index.specs.Stored.{keyed, target_atom}
use Rattle.rule_index.proofs.Picking.{HasPicked, place_skipped, rule_picked, rule_left, picking_ends}
use Rattle.rule_index.proofs.index.pick.Goals as goal
use Rattle.rule_index.proofs.index.pick.Goals.{then-place-passed+then-place-entries, then-is_compatible+in_ok-push, else-is_compatible, else-place-passed, else-place-passed-via-then-place-passed+else-place-entries, else-place-passed-via-else-place-passed}

pub loop-place-preserved : goal.loop-place-preserved
loop-place-preserved c =
    let entries = c.args.entries.now in
    let places = c.args.places.now in
    let i = c.loop-place.place-index in
    let place = get_or places i 0 in
    let place_is = slice_get-get_or places i 0 c.loop-place-test.true in
    let good : KeyedRule → Bool = λ rule. is_compatible rule.key (target_atom c.args.target.now) in
    let rules = map keyed entries in
    let P : ℕ → List ℕ → Type 0 = λ passed numbers. HasPicked good rules places (i + 1) passed numbers in
    let passed = c.loop-place.passed in
    let numbers = c.loop-place.numbers in
    elim c.if-place-passed.branch [
      | then-place-passed+then-place-entries w ↦ (
          let entry = w.index-entries-place.result in
          let entry_is : slice_get rules place ≡ Some (keyed entry) = slice_get-map keyed entries place ∙ ap (option_map keyed) (slice_get_read entries (length entries) place entry refl w.if-place-entries.true w.index-entries-place.is) in
          elim w.if-is_compatible.branch [
            | then-is_compatible+in_ok-push v ↦ subst₂ P (sym w.passed-is) (sym (w.numbers-is ∙ v.numbers-is))
                (rule_picked good rules places i passed numbers place place_is c.loop-place.invariant c.requires.sorted w.if-place-passed.true (keyed entry) entry_is (sym w.is_compatible.ensures ∙ v.if-is_compatible.true) v.push.new.self v.in_ok-push.ensures.ok)
            | else-is_compatible v ↦ subst₂ P (sym w.passed-is) (sym (w.numbers-is ∙ v.numbers-is))
                (rule_left good rules places i passed numbers place place_is c.loop-place.invariant c.requires.sorted w.if-place-passed.true (keyed entry) entry_is (sym w.is_compatible.ensures ∙ v.if-is_compatible.false))
          ])
      | else-place-passed w ↦ (
          elim w.else-place-passed.branch [
            | else-place-passed-via-then-place-passed+else-place-entries v ↦ subst₂ P (sym w.passed-is) (sym w.numbers-is) (place_skipped good rules places i passed numbers place place_is c.loop-place.invariant (inr (omega (arith, length-map entries keyed, v.if-place-entries.false))))
            | else-place-passed-via-else-place-passed v ↦ subst₂ P (sym w.passed-is) (sym w.numbers-is) (place_skipped good rules places i passed numbers place place_is c.loop-place.invariant (inl v.if-place-passed.false))
          ])
    ]

pub returns : goal.returns
returns c =
    picking_ends (λ rule. is_compatible rule.key (target_atom c.args.target.now)) (map keyed c.args.entries.now) c.args.places.now c.loop-place.place-index c.loop-place.passed c.loop-place.numbers c.loop-place-test.false c.loop-place.invariant
