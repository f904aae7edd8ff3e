use Rattle.std.proofs.Common.{◌≡◌, arith, refl, sym, ap, ◌∙◌, subst, Bool, false, IsTrue}
use Rattle.lf_definitions.specs.Syntax.{lams, arrows, base, term_size, spine_size}
use Rattle.lf_definitions.specs.Shaping.{Shaped, ShapedSpine, globals}
use Rattle.lf_terms.specs.Terms.{head_of, term_of, spine_of}
use Rattle.lf_terms.specs.Shapes.{simple_type_of, simple_types_of}
use Rattle.lf_terms.specs.LocalShapes.{scope_under}
use Rattle.lf_terms.specs.Putting.{HasLams}
use Rattle.lf_terms.proofs.Spines.{item_size}
use Rattle.lf_terms.proofs.Abstractions.{term_size-lams}
use Rattle.lf_terms.proofs.LocalShapes.{lengths_differ, rest_more, rest_refused, rest_end, known_head, body_found, body_missing}
use Rattle.lf_terms.proofs.shaped.+shaped.Goals as goal

falsely : {A : Type 0} → IsTrue false → A
falsely h = absurd cc

not_both : {b : Bool} → b ≡ false → IsTrue b → ⊥
not_both e h = cc

pub shaped_args-returns-then-terms-shapes : goal.shaped_args-returns-then-terms-shapes
shaped_args-returns-then-terms-shapes t c =
    let a = c.args in (
      falsely,
      λ p. absurd (lengths_differ (scope_under (globals a.sig.now a.metas.now) a.scope.now) c.as_slice-terms.result.now c.as_slice-shapes.result.now a.args.now a.shapes.now
          c.as_slice-terms.ensures c.as_slice-shapes.ensures c.if-terms-shapes.true p),
    )

pub shaped_args-shaped_in-requires : goal.shaped_args-shaped_in-requires
shaped_args-shaped_in-requires t c =
    (omega (arith, c.decreases, ap spine_size c.as_slice-terms.ensures, item_size c.as_slice-terms.result.now c.loop-i.i c.index-terms-i.result c.loop-i-test.true c.index-terms-i.is), tt)

pub shaped_args-returns-then-not-shaped_in : goal.shaped_args-returns-then-not-shaped_in
shaped_args-returns-then-not-shaped_in t c =
    let a = c.args in
    let Γ = scope_under (globals a.sig.now a.metas.now) a.scope.now in
    let ts = c.as_slice-terms.result.now in
    let ss = c.as_slice-shapes.result.now in
    let refused : Shaped Γ (term_of c.index-terms-i.result) (simple_type_of c.index-shapes-i.result) → ⊥ = λ p. not_both c.if-not-shaped_in.true (c.shaped_in.ensures.1 (subst (Shaped Γ (term_of c.index-terms-i.result)) (ap simple_type_of c.index-shapes-i.is) p)) in (
      falsely,
      λ p. absurd (rest_refused Γ ts ss c.loop-i.i c.index-terms-i.result c.index-shapes-i.result (ShapedSpine Γ (spine_of ts) (arrows (simple_types_of ss) base))
          c.loop-i-test.true c.if-terms-shapes.false c.index-terms-i.is c.index-shapes-i.is c.loop-i.invariant refused
          (subst (λ x. ShapedSpine Γ x (arrows (simple_types_of ss) base)) (sym c.as_slice-terms.ensures) (subst (λ l. ShapedSpine Γ a.args.now (arrows l base)) (sym c.as_slice-shapes.ensures) p))),
    )

pub shaped_args-loop-i-preserved : goal.shaped_args-loop-i-preserved
shaped_args-loop-i-preserved t c =
    let a = c.args in
    let Γ = scope_under (globals a.sig.now a.metas.now) a.scope.now in
    let ts = c.as_slice-terms.result.now in
    let ss = c.as_slice-shapes.result.now in
    rest_more Γ ts ss c.loop-i.i c.index-terms-i.result c.index-shapes-i.result (ShapedSpine Γ (spine_of ts) (arrows (simple_types_of ss) base))
    c.loop-i-test.true c.if-terms-shapes.false c.index-terms-i.is c.index-shapes-i.is c.loop-i.invariant
    (subst (Shaped Γ (term_of c.index-terms-i.result)) (sym (ap simple_type_of c.index-shapes-i.is)) (c.shaped_in.ensures.0 c.if-not-shaped_in.false))

pub shaped_args-returns : goal.shaped_args-returns
shaped_args-returns t c =
    let a = c.args in
    let Γ = scope_under (globals a.sig.now a.metas.now) a.scope.now in
    let ts = c.as_slice-terms.result.now in
    let ss = c.as_slice-shapes.result.now in
    let all = rest_end Γ ts ss c.loop-i.i (ShapedSpine Γ (spine_of ts) (arrows (simple_types_of ss) base)) (omega arith) c.if-terms-shapes.false c.loop-i.invariant in
    (λ h. subst (λ x. ShapedSpine Γ x (arrows a.shapes.now base)) c.as_slice-terms.ensures (subst (λ l. ShapedSpine Γ (spine_of ts) (arrows l base)) c.as_slice-shapes.ensures all), λ p. refl)

pub shaped_at-returns-in-Some : goal.shaped_at-returns-in-Some
shaped_at-returns-in-Some t c =
    let a = c.args in
    let Γ = scope_under (globals a.sig.now a.metas.now) a.scope.now in
    let known = known_head Γ (term_of a.body.now) (head_of c.in-At.head) c.in-At.args (arrows c.in-Some.shapes.now base) (ap term_of c.in-At.is) c.in-Some.ensures in
    (λ h. known.0 (c.shaped_args.ensures.0 h), λ p. c.shaped_args.ensures.1 (known.1 p))

pub shaped_in-shaped_at-requires : goal.shaped_in-shaped_at-requires
shaped_in-shaped_at-requires t c =
    (omega (arith, c.decreases, ap term_size c.in-Some.ensures, term_size-lams c.len.result (term_of c.in-Some.body.now)), tt)

pub shaped_in-returns-in-None : goal.shaped_in-returns-in-None
shaped_in-returns-in-None t c =
    let a = c.args in (
      falsely,
      λ p. absurd (body_missing (scope_under (globals a.sig.now a.metas.now) a.scope.now) (term_of a.term.now) a.shapes.now
          (subst (λ n. HasLams n (term_of a.term.now) → ⊥) c.len.ensures c.in-None.ensures) p),
    )

pub shaped_in-returns-in-Some : goal.shaped_in-returns-in-Some
shaped_in-returns-in-Some t c =
    let a = c.args in
    let found = body_found (scope_under (globals a.sig.now a.metas.now) a.scope.now) (term_of a.term.now) (term_of c.in-Some.body.now) a.shapes.now
    (c.in-Some.ensures ∙ ap (λ n. lams n (term_of c.in-Some.body.now)) c.len.ensures) in
    (λ h. found.0 (c.shaped_at.ensures.0 h), λ p. c.shaped_at.ensures.1 (found.1 p))
