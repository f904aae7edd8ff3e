use Rattle.std.proofs.Common.{List, Bool, ℕ, sym, ap, ◌∙◌, subst}
use Rattle.std.proofs.lemmas.Result.{IfOk-weaker}
use Rattle.lf_terms.specs.Types.{type_of}
use Rattle.binder_marks.specs.Marks.{ArePlaces, marks_at}
use Rattle.binder_marks.specs.Mentions.{AreMentions}
use Rattle.binder_marks.proofs.BinderPlaces.{are_mentions, are_places, whole_marked, whole_placed}
use Rattle.binder_marks.proofs.marking.mentioned_binders.Goals as goal

pub read_marks-requires : goal.read_marks-requires
read_marks-requires c =
    let marks = c.as_slice.result.now in
    let have = whole_marked (type_of c.args.ty.now) _ _ c.new-places.ensures.items c.new-marks.ensures.items marks (c.as_slice.ensures.value ∙ c.in_ok-mark_type.ensures.marks) in
    let places = whole_placed (type_of c.args.ty.now) _ _ c.new-places.ensures.items c.new-marks.ensures.items _ (c.as_slice-2.ensures.value ∙ c.in_ok-mark_type.ensures.places) in
    let P : List ℕ → Type 0 = λ ps. ArePlaces ps marks in
    subst P (sym places) (are_places marks 0 (type_of c.args.ty.now) have)

pub returns : goal.returns
returns c =
    let a = type_of c.args.ty.now in
    let marks = c.as_slice.result.now in
    let have = whole_marked a _ _ c.new-places.ensures.items c.new-marks.ensures.items marks (c.as_slice.ensures.value ∙ c.in_ok-mark_type.ensures.marks) in
    let places = whole_placed a _ _ c.new-places.ensures.items c.new-marks.ensures.items _ (c.as_slice-2.ensures.value ∙ c.in_ok-mark_type.ensures.places) in
    let P : List Bool → Type 0 = AreMentions a in
    IfOk-weaker c.read_marks.result _ _ (λ read is. subst P (sym (is ∙ ap (λ ps. marks_at ps marks) places)) (are_mentions marks 0 a have)) c.read_marks.ensures
