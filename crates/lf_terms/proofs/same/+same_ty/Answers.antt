use Rattle.std.proofs.Common.{◌≡◌, arith, sym, ap, ap₂, ◌∙◌, Bool, false, IsTrue}
use Rattle.lf_definitions.specs.Syntax.{family, pis, types_size}
use Rattle.lf_terms.specs.TypeSizes.{binders_size}
use Rattle.lf_terms.specs.Types.{type_of}
use Rattle.lf_terms.proofs.TypeLists.{item_size, same_types_more, same_type_at, length_of_types, pis_inj}
use Rattle.lf_terms.proofs.same.+same_ty.Goals as goal

falsely : {A : Type 0} → IsTrue false → A
falsely h = absurd cc

not_both : {b : Bool} → b ≡ false → IsTrue b → ⊥
not_both e h = cc

pub same_ty-returns-then-a-b : goal.same_ty-returns-then-a-b
same_ty-returns-then-a-b t c =
    let a = c.args.a.now in
    let b = c.args.b.now in
    (falsely, λ e. absurd (c.if-a-b.true (pis_inj a.binders b.binders a.family b.family a.args b.args e).1))

pub same_ty-same_tys-requires : goal.same_ty-same_tys-requires
same_ty-same_tys-requires t c =
    let a = c.args.a.now in
    (omega (arith, c.decreases, binders_size a.binders a.family a.args), tt)

pub same_ty-returns-then-not-same_tys : goal.same_ty-returns-then-not-same_tys
same_ty-returns-then-not-same_tys t c =
    let a = c.args.a.now in
    let b = c.args.b.now in
    (falsely, λ e. absurd (not_both c.if-not-same_tys.true (c.same_tys.ensures.1 (pis_inj a.binders b.binders a.family b.family a.args b.args e).0)))

pub same_ty-returns : goal.same_ty-returns
same_ty-returns t c =
    let a = c.args.a.now in
    let b = c.args.b.now in (
      λ h. ap₂ pis (c.same_tys.ensures.0 c.if-not-same_tys.false) (ap₂ family c.if-a-b.false (c.same_terms.ensures.0 h)),
      λ e. c.same_terms.ensures.1 (pis_inj a.binders b.binders a.family b.family a.args b.args e).2,
    )

pub same_tys-returns-then-types-others : goal.same_tys-returns-then-types-others
same_tys-returns-then-types-others t c =
    (falsely, λ e. absurd (c.if-types-others.true (length_of_types _ _ (c.as_slice-types.ensures ∙ e ∙ sym c.as_slice-others.ensures))))

pub same_tys-same_ty-requires : goal.same_tys-same_ty-requires
same_tys-same_ty-requires t c =
    (omega (arith, c.decreases, ap types_size c.as_slice-types.ensures, item_size c.as_slice-types.result.now c.loop-i.i c.index-types-i.result c.loop-i-test.true c.index-types-i.is), tt)

pub same_tys-returns-then-not-same_ty : goal.same_tys-returns-then-not-same_ty
same_tys-returns-then-not-same_ty t c =
    let differ : type_of c.index-types-i.result ≡ type_of c.index-others-i.result → ⊥ = λ e. not_both c.if-not-same_ty.true (c.same_ty.ensures.1 e) in (
      falsely,
      λ e. absurd (differ (same_type_at c.as_slice-types.result.now c.as_slice-others.result.now c.loop-i.i c.index-types-i.result c.index-others-i.result
          c.loop-i-test.true c.if-types-others.false c.index-types-i.is c.index-others-i.is (c.as_slice-types.ensures ∙ e ∙ sym c.as_slice-others.ensures))),
    )

pub same_tys-loop-i-preserved : goal.same_tys-loop-i-preserved
same_tys-loop-i-preserved t c =
    same_types_more c.as_slice-types.result.now c.as_slice-others.result.now c.loop-i.i c.index-types-i.result c.index-others-i.result c.loop-i-test.true c.if-types-others.false
    c.index-types-i.is c.index-others-i.is c.loop-i.invariant (c.same_ty.ensures.0 c.if-not-same_ty.false)
