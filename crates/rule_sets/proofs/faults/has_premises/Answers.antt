use Rattle.std.proofs.Common.{◌≡◌, true, false, arith, sym, ◌∙◌, ◌+◌, ◌<◌, ◌≤◌, get_or, subst, ℕ}
use Rattle.std.proofs.lemmas.Bool.{leb-true, le-leb}
use Rattle.std.proofs.lemmas.List.{get_or_default}
use Rattle.rule_sets.proofs.Premises.{PremisesSoFar, marked_more, unmarked_more, as_many_marks, not_with_binders, premises_found, premises_counted}
use Rattle.rule_sets.proofs.Tested.{falsely, failed}
use Rattle.rule_sets.proofs.faults.has_premises.Goals as goal
use Rattle.rule_sets.proofs.faults.has_premises.Goals.{then-not-index+else-not-is_atomic, else-not-index, then-count-ge1, else-count-ge1}

none : (n : ℕ) → n < 1 → 1 ≤ n → ⊥
none n few some = omega arith

pub index-requires : goal.index-requires
index-requires c =
    let ty = c.args.ty.now in
    omega (arith, c.in_ok-marks.marks.ok, as_many_marks c.as_slice-binders.result.now ty.binders ty.family ty.args c.in_ok-marks.marks.items c.as_slice-binders.ensures c.in_ok-marks.ensures)

pub returns-then-not-is_atomic : goal.returns-then-not-is_atomic
returns-then-not-is_atomic c =
    let ty = c.args.ty.now in
    let many = as_many_marks c.as_slice-binders.result.now ty.binders ty.family ty.args c.in_ok-marks.marks.items c.as_slice-binders.ensures c.in_ok-marks.ensures in
    let free : get_or c.in_ok-marks.marks.items c.loop-i.i true ≡ false =
    get_or_default c.in_ok-marks.marks.items c.loop-i.i true c.index.result.now (omega (arith, many)) ∙ sym c.index.ensures ∙ c.if-not-index.true in (
      falsely,
      λ has. absurd (not_with_binders c.as_slice-binders.result.now ty.binders ty.family ty.args c.in_ok-marks.marks.items c.as_slice-binders.ensures c.in_ok-marks.ensures
          c.loop-i.i c.index-binders-i.result c.loop-i-test.true c.index-binders-i.is free (failed _ _ c.is_atomic.ensures c.if-not-is_atomic.true) has),
    )

pub loop-i-preserved : goal.loop-i-preserved
loop-i-preserved c =
    let ty = c.args.ty.now in
    let ts = c.as_slice-binders.result.now in
    let ms = c.in_ok-marks.marks.items in
    let many = as_many_marks ts ty.binders ty.family ty.args ms c.as_slice-binders.ensures c.in_ok-marks.ensures in
    let P : ℕ → Type 0 = PremisesSoFar ts ms (c.loop-i.i + 1) in
    elim c.if-not-index.branch [
      | then-not-index+else-not-is_atomic w ↦ subst P (sym w.count-is)
          (unmarked_more ts ms c.loop-i.i c.loop-i.count w.index-binders-i.result c.index.result.now c.loop-i-test.true (omega (arith, many)) w.index-binders-i.is c.index.ensures
          c.loop-i.invariant w.if-not-index.true (w.is_atomic.ensures.0 w.if-not-is_atomic.false))
      | else-not-index w ↦ subst P (sym w.count-is)
          (marked_more ts ms c.loop-i.i c.loop-i.count (get_or ts c.loop-i.i ty) c.index.result.now c.loop-i-test.true (omega (arith, many)) (get_or_default ts c.loop-i.i ty (get_or ts c.loop-i.i ty) c.loop-i-test.true) c.index.ensures
          c.loop-i.invariant w.if-not-index.false)
    ]

pub returns : goal.returns
returns c =
    let ty = c.args.ty.now in
    let ts = c.as_slice-binders.result.now in
    let ms = c.in_ok-marks.marks.items in
    let found = premises_found ts ty.binders ty.family ty.args ms c.as_slice-binders.ensures c.in_ok-marks.ensures c.loop-i.i c.loop-i.count c.loop-i-test.false c.loop-i.invariant in
    let counted = premises_counted ts ty.binders ty.family ty.args ms c.as_slice-binders.ensures c.in_ok-marks.ensures c.loop-i.i c.loop-i.count c.loop-i-test.false c.loop-i.invariant in
    elim c.if-count-ge1.branch [
      | then-count-ge1 w ↦ (λ yes. found w.if-count-ge1.true (leb-true _ _ (sym w.result-is ∙ yes)), λ has. w.result-is ∙ le-leb _ _ (counted has).1)
      | else-count-ge1 w ↦ (λ yes. absurd (none c.loop-i.count w.if-count-ge1.false (leb-true _ _ (sym w.result-is ∙ yes))), λ has. absurd (none c.loop-i.count w.if-count-ge1.false (counted has).0))
    ]
