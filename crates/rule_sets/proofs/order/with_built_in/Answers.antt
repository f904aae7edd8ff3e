use Rattle.std.proofs.Common.{◌≡◌, sym, ◌∙◌, subst, List, ℕ, take_all, ◌+◌, take}
use Rattle.std.specs.Prelude.{None}
use Rattle.basics.specs.Places.{place_of}
use Rattle.basics.proofs.Membership.{new_name}
use Rattle.rule_sets.proofs.Tested.{failed}
use Rattle.rule_sets.proofs.Sets.{AreNames, name_had, name_added, all_names}
use Rattle.rule_sets.proofs.order.with_built_in.Goals as goal
use Rattle.rule_sets.proofs.order.with_built_in.Goals.{then-not-has+in_ok-add-2, else-not-has}

pub add-requires-then-not-has : goal.add-requires-then-not-has
add-requires-then-not-has c =
    let P : List ℕ → Type 0 = λ name. place_of c.loop-set.names name ≡ None in
    subst P (sym c.as_bytes.ensures) (new_name c.loop-set.names c.set-item.result (failed _ _ c.has.ensures c.if-not-has.true))

pub loop-set-preserved : goal.loop-set-preserved
loop-set-preserved c =
    let items = c.as_slice-items.result.now in
    let P : List (List ℕ) → Type 0 = AreNames (take (c.loop-set.set-index + 1) items) in
    elim c.if-not-has.branch [
      | then-not-has+in_ok-add-2 w ↦ subst P (sym w.names-is)
          (name_added items c.loop-set.names c.loop-set.set-index c.set-item.result c.loop-set-test.true c.set-item.is c.loop-set.invariant _ w.as_bytes.result.now w.as_bytes.ensures w.in_ok-add-2.ensures.ok)
      | else-not-has w ↦ subst P (sym w.names-is)
          (name_had items c.loop-set.names c.loop-set.set-index c.set-item.result c.loop-set-test.true c.set-item.is c.loop-set.invariant (c.has.ensures.0 w.if-not-has.false))
    ]

pub returns : goal.returns
returns c =
    all_names c.as_slice-items.result.now c.args.sets.now c.loop-set.names c.loop-set.set-index
    (take_all c.loop-set.set-index c.as_slice-items.result.now c.loop-set-test.false ∙ c.as_slice-items.ensures) c.loop-set.invariant
