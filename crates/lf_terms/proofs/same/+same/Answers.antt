use Rattle.std.proofs.Common.{◌≡◌, arith, sym, ap, ◌∙◌, Bool, false, IsTrue}
use Rattle.lf_definitions.specs.Syntax.{spine_size}
use Rattle.lf_terms.specs.Terms.{term_of}
use Rattle.lf_terms.proofs.Spines.{item_size, same_take_more, same_at, length_of_spine}
use Rattle.lf_terms.proofs.same.+same.Goals as goal

falsely : {A : Type 0} → IsTrue false → A
falsely h = absurd cc

not_both : {b : Bool} → b ≡ false → IsTrue b → ⊥
not_both e h = cc

pub same_terms-returns-then-xs-ys : goal.same_terms-returns-then-xs-ys
same_terms-returns-then-xs-ys t c =
    (falsely, λ e. absurd (c.if-xs-ys.true (length_of_spine _ _ (c.as_slice-xs.ensures ∙ e ∙ sym c.as_slice-ys.ensures))))

pub same_terms-same-requires : goal.same_terms-same-requires
same_terms-same-requires t c =
    (omega (arith, c.decreases, ap spine_size c.as_slice-xs.ensures, item_size c.as_slice-xs.result.now c.loop-i.i c.index-xs-i.result c.loop-i-test.true c.index-xs-i.is), tt)

pub same_terms-returns-then-not-same : goal.same_terms-returns-then-not-same
same_terms-returns-then-not-same t c =
    let differ : term_of c.index-xs-i.result ≡ term_of c.index-ys-i.result → ⊥ = λ e. not_both c.if-not-same.true (c.same.ensures.1 e) in (
      falsely,
      λ e. absurd (differ (same_at c.as_slice-xs.result.now c.as_slice-ys.result.now c.loop-i.i c.index-xs-i.result c.index-ys-i.result
          c.loop-i-test.true c.if-xs-ys.false c.index-xs-i.is c.index-ys-i.is (c.as_slice-xs.ensures ∙ e ∙ sym c.as_slice-ys.ensures))),
    )

pub same_terms-loop-i-preserved : goal.same_terms-loop-i-preserved
same_terms-loop-i-preserved t c =
    same_take_more c.as_slice-xs.result.now c.as_slice-ys.result.now c.loop-i.i c.index-xs-i.result c.index-ys-i.result c.loop-i-test.true c.if-xs-ys.false
    c.index-xs-i.is c.index-ys-i.is c.loop-i.invariant (c.same.ensures.0 c.if-not-same.false)
