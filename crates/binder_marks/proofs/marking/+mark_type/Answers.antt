use Rattle.std.proofs.Common.{◌≡◌, ◌+◌, arith, sym, ap, ◌∙◌, subst, List, Bool, ℕ, length, take, ◌∷◌, ◌++◌, []}
use Rattle.std.proofs.lemmas.List.{take_at}
use Rattle.std.proofs.lemmas.Result.{on_ok_weaker}
use Rattle.lf_definitions.specs.Syntax.{types_size}
use Rattle.lf_terms.specs.TypeSizes.{binders_size}
use Rattle.lf_terms.proofs.TypeLists.{item_size}
use Rattle.binder_marks.specs.Marks.{ArePlaces, with_marks}
use Rattle.binder_marks.specs.Mentions.{mentions_in_spine}
use Rattle.binder_marks.proofs.PlacedMarks.{length-with_marks}
use Rattle.binder_marks.proofs.MarkSteps.{pushed_marks, none_so_far, binder_step, binders_placed, binders_marked}
use Rattle.binder_marks.proofs.marking.+mark_type.Goals as goal

pub loop-binder-init : goal.loop-binder-init
loop-binder-init t c = none_so_far _ _ _ _ c.requires

pub mark_type-requires : goal.mark_type-requires
mark_type-requires t c =
    let ty = c.args.ty.now in (
      omega (
        arith,
        c.decreases,
        binders_size ty.binders ty.family ty.args,
        ap types_size c.as_slice-binders.ensures,
        item_size c.as_slice-binders.result.now c.loop-binder.binder-index c.binder-item.result c.loop-binder-test.true c.binder-item.is,
      ),
      pushed_marks c.loop-binder.places.items c.loop-binder.marks.items c.push.new.self.items c.in_ok-push.ensures.items c.loop-binder.invariant.are_places,
    )

pub loop-binder-preserved : goal.loop-binder-preserved
loop-binder-preserved t c =
    let ps = c.loop-binder.places.items in
    let around : length ps ≡ c.len-around.result = omega (arith, c.len-around.ensures) in
    let back : c.truncate.new.self.items ≡ ps =
    c.truncate.ensures.items ∙ ap (take c.len-around.result) c.in_ok-mark_type.ensures.places ∙ take_at ps _ c.len-around.result around in
    binder_step _ _ c.loop-binder.binder-index _ _ _ _ _ _ _ c.binder-item.result c.len-place.result c.loop-binder-test.true c.binder-item.is c.loop-binder.invariant (omega (arith, c.len-place.ensures))
    c.in_ok-push.ensures.items c.in_ok-mark_type.ensures.marks (c.in_ok-push-2.ensures.items ∙ ap (λ l. l ++ c.len-place.result ∷ []) back)

pub mark_terms-requires : goal.mark_terms-requires
mark_terms-requires t c =
    let P : List ℕ → Type 0 = λ ps. ArePlaces ps c.deref_mut.result.now in
    let Q : List Bool → Type 0 = λ ms. ArePlaces c.loop-binder.places.items ms in
    subst P (sym c.deref.ensures.value) (subst Q (sym c.deref_mut.ensures.value) c.loop-binder.invariant.are_places)

pub returns-clause-marks : goal.returns-clause-marks
returns-clause-marks t c =
    let ty = c.args.ty.now in
    let ps = c.loop-binder.places.items in
    let ms = c.loop-binder.marks.items in
    let F : List ℕ → List Bool → List Bool = λ qs l. with_marks qs (λ n. mentions_in_spine (0 + n) ty.args) l in
    on_ok_weaker c.mark_terms.result (λ e.
    let here : c.mark_terms.new.marks ≡ F ps ms = e ∙ ap (λ qs. F qs c.deref_mut.result.now) c.deref.ensures.value ∙ ap (F ps) c.deref_mut.ensures.value in
    let as_many : length ms ≡ c.loop-binder.marks.len = sym (ap length c.deref_mut.ensures.value) ∙ c.deref_mut.ensures.len in
    take_at c.mark_terms.new.marks _ c.loop-binder.marks.len (ap length here ∙ length-with_marks ps (λ n. mentions_in_spine (0 + n) ty.args) ms ∙ as_many)
    ∙ binders_marked _ ty.binders ty.family ty.args c.loop-binder.binder-index _ _ ps ms c.loop-binder-test.false c.as_slice-binders.ensures c.loop-binder.invariant c.mark_terms.new.marks here)
    c.mark_terms.ensures

pub returns-clause-places : goal.returns-clause-places
returns-clause-places t c =
    let ty = c.args.ty.now in
    on_ok_weaker c.mark_terms.result
    (λ e. binders_placed _ ty.binders ty.family ty.args c.loop-binder.binder-index _ _ c.loop-binder.places.items _ c.loop-binder-test.false c.as_slice-binders.ensures c.loop-binder.invariant)
    c.mark_terms.ensures
