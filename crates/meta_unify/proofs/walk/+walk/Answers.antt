use Rattle.std.proofs.Common.{sym, ap, ◌∙◌, arith}
use Rattle.std.proofs.lemmas.Result.{IfOk-weaker}
use Rattle.lf_definitions.specs.Syntax.{lam}
use Rattle.lf_terms.specs.Terms.{head_of, term_of}
use Rattle.head_laws.proofs.Heads.{same_head-true}
use Rattle.unification.specs.Patterns.{has_number}
use Rattle.meta_unify.proofs.Walking.{differ_heads, same_lengths, workable_lams, workable_full, lams_pass, lams_stay, args_walked, heads_stop, full_walked, workable_item, args_pass_more, args_stay, args_pass_all}
use Rattle.meta_unify.proofs.walk.+walk.Goals as goal

pub unify_heads-unify_terms-requires : goal.unify_heads-unify_terms-requires
unify_heads-unify_terms-requires t c =
    (omega (arith, c.decreases), workable_lams _ (term_of c.args.left.now) (term_of c.args.right.now) _ _ (ap term_of c.in-Lam-Lam.is-0 ∙ ap lam (sym c.term.ensures)) (ap term_of c.in-Lam-Lam.is-1 ∙ ap lam (sym c.term-in-Lam-Lam.ensures)) c.requires.workable)

pub unify_heads-returns-in-None : goal.unify_heads-returns-in-None
unify_heads-returns-in-None t c =
    lams_pass (has_number c.args.frozen.now) c.args.late.now c.unify_terms.new.late (term_of c.args.left.now) (term_of c.args.right.now) _ _ c.in_ok-unify_terms-in-Lam-Lam.field-0
    (ap term_of c.in-Lam-Lam.is-0 ∙ ap lam (sym c.term.ensures)) (ap term_of c.in-Lam-Lam.is-1 ∙ ap lam (sym c.term-in-Lam-Lam.ensures)) c.in-None.is c.in_ok-unify_terms-in-Lam-Lam.ensures

pub unify_heads-returns-in_ok-stop_in-in-Some : goal.unify_heads-returns-in_ok-stop_in-in-Some
unify_heads-returns-in_ok-stop_in-in-Some t c =
    lams_stay (has_number c.args.frozen.now) c.args.late.now c.unify_terms.new.late (term_of c.args.left.now) (term_of c.args.right.now) _ _ c.in_ok-unify_terms-in-Lam-Lam.field-0 c.in-Some.stop c.in_ok-stop_in-in-Some.field-0
    (ap term_of c.in-Lam-Lam.is-0 ∙ ap lam (sym c.term.ensures)) (ap term_of c.in-Lam-Lam.is-1 ∙ ap lam (sym c.term-in-Lam-Lam.ensures)) c.in-Some.is c.in_ok-stop_in-in-Some.ensures.cause
    c.in_ok-stop_in-in-Some.ensures.steps c.in_ok-unify_terms-in-Lam-Lam.ensures

pub unify_heads-returns-then-is_same_head : goal.unify_heads-returns-then-is_same_head
unify_heads-returns-then-is_same_head t c =
    IfOk-weaker c.unify_args.result _ _
    (λ r w. args_walked (has_number c.args.frozen.now) c.args.late.now c.unify_args.new.late (term_of c.args.left.now) (term_of c.args.right.now) (head_of c.in-At-At.h) (head_of c.in-At-At.k) c.in-At-At.ts c.in-At-At.us
    (ap term_of c.in-At-At.is-0) (ap term_of c.in-At-At.is-1) c.requires.left (same_head-true (head_of c.in-At-At.h) (head_of c.in-At-At.k) (sym c.is_same_head.ensures ∙ c.if-is_same_head.true)) r w)
    c.unify_args.ensures

pub unify_heads-returns-else-is_same_head : goal.unify_heads-returns-else-is_same_head
unify_heads-returns-else-is_same_head t c =
    heads_stop (has_number c.args.frozen.now) c.args.late.now c.args.late.now (term_of c.args.left.now) (term_of c.args.right.now) (head_of c.in-At-At.h) (head_of c.in-At-At.k) c.in-At-At.ts c.in-At-At.us c.stop_here.result
    (ap term_of c.in-At-At.is-0) (ap term_of c.in-At-At.is-1) c.requires.left c.requires.right (differ_heads (head_of c.in-At-At.h) (head_of c.in-At-At.k) (sym c.is_same_head.ensures ∙ c.if-is_same_head.false)) c.stop_here.ensures.cause c.stop_here.ensures.steps

pub unify_terms-settle-requires-clause-workable : goal.unify_terms-settle-requires-clause-workable
unify_terms-settle-requires-clause-workable t c =
    workable_full c.args.late.now (term_of c.args.left.now) (term_of c.args.right.now) (term_of c.in_ok-left.left) (term_of c.in_ok-right.right) c.requires c.in_ok-left.ensures.instance c.in_ok-right.ensures.instance

pub unify_terms-returns-then-is_flexible : goal.unify_terms-returns-then-is_flexible
unify_terms-returns-then-is_flexible t c =
    IfOk-weaker c.settle.result _ _
    (full_walked (has_number c.args.frozen.now) c.args.late.now c.settle.new.late (term_of c.args.left.now) (term_of c.args.right.now) (term_of c.in_ok-left.left) (term_of c.in_ok-right.right) c.in_ok-left.ensures.instance
    c.in_ok-right.ensures.instance c.in_ok-left.ensures.full c.in_ok-right.ensures.full)
    c.settle.ensures

pub unify_terms-unify_heads-requires-2 : goal.unify_terms-unify_heads-requires-2
unify_terms-unify_heads-requires-2 t c = (
  omega (arith, c.decreases, c.if-room-eq0.false),
  (
    workable_full c.args.late.now (term_of c.args.left.now) (term_of c.args.right.now) (term_of c.in_ok-left.left) (term_of c.in_ok-right.right) c.requires c.in_ok-left.ensures.instance c.in_ok-right.ensures.instance,
    (sym c.is_flexible-2.ensures ∙ c.if-is_flexible.false, sym c.is_flexible-else-is_flexible.ensures ∙ c.if-is_flexible-2.false),
  ),
)

pub unify_terms-returns : goal.unify_terms-returns
unify_terms-returns t c =
    IfOk-weaker c.unify_heads-2.result _ _
    (full_walked (has_number c.args.frozen.now) c.args.late.now c.unify_heads-2.new.late (term_of c.args.left.now) (term_of c.args.right.now) (term_of c.in_ok-left.left) (term_of c.in_ok-right.right) c.in_ok-left.ensures.instance
    c.in_ok-right.ensures.instance c.in_ok-left.ensures.full c.in_ok-right.ensures.full)
    c.unify_heads-2.ensures

pub unify_args-unify_terms-requires : goal.unify_args-unify_terms-requires
unify_args-unify_terms-requires t c = (
  omega (arith, c.decreases),
  workable_item (has_number c.args.frozen.now) c.args.late.now c.loop-i.late c.args.left.now c.args.right.now c.as_slice-ts.result.now c.as_slice-us.result.now c.loop-i.i c.index-ts-i.result c.index-us-i.result c.as_slice-ts.ensures
      c.as_slice-us.ensures c.loop-i-test.true (same_lengths c.as_slice-ts.result.now c.as_slice-us.result.now c.as_slice-ts.ensures c.as_slice-us.ensures c.requires) c.index-ts-i.is c.index-us-i.is c.requires c.loop-i.invariant,
)

pub unify_args-loop-i-preserved : goal.unify_args-loop-i-preserved
unify_args-loop-i-preserved t c =
    args_pass_more (has_number c.args.frozen.now) c.args.late.now c.loop-i.late c.unify_terms.new.late c.as_slice-ts.result.now c.as_slice-us.result.now c.loop-i.i c.index-ts-i.result c.index-us-i.result
    c.in_ok-unify_terms.field-0 c.loop-i-test.true (same_lengths c.as_slice-ts.result.now c.as_slice-us.result.now c.as_slice-ts.ensures c.as_slice-us.ensures c.requires) c.index-ts-i.is c.index-us-i.is c.loop-i.invariant c.in-None.is c.in_ok-unify_terms.ensures

pub unify_args-returns-in-Some : goal.unify_args-returns-in-Some
unify_args-returns-in-Some t c =
    args_stay (has_number c.args.frozen.now) c.args.late.now c.loop-i.late c.unify_terms.new.late c.args.left.now c.args.right.now c.as_slice-ts.result.now c.as_slice-us.result.now c.loop-i.i c.index-ts-i.result
    c.index-us-i.result c.in_ok-unify_terms.field-0 c.in-Some.stop c.in_ok-stop_in-in-Some.field-0 c.as_slice-ts.ensures c.as_slice-us.ensures c.loop-i-test.true (same_lengths c.as_slice-ts.result.now c.as_slice-us.result.now c.as_slice-ts.ensures c.as_slice-us.ensures c.requires) c.index-ts-i.is c.index-us-i.is
    c.loop-i.invariant c.in-Some.is c.in_ok-stop_in-in-Some.ensures.cause c.in_ok-stop_in-in-Some.ensures.steps c.in_ok-unify_terms.ensures

pub unify_args-returns : goal.unify_args-returns
unify_args-returns t c =
    args_pass_all (has_number c.args.frozen.now) c.args.late.now c.loop-i.late c.args.left.now c.args.right.now c.as_slice-ts.result.now c.as_slice-us.result.now c.loop-i.i c.as_slice-ts.ensures c.as_slice-us.ensures
    (same_lengths c.as_slice-ts.result.now c.as_slice-us.result.now c.as_slice-ts.ensures c.as_slice-us.ensures c.requires) c.loop-i-test.false c.loop-i.invariant

pub unify_args-bounds-us-i : goal.unify_args-bounds-us-i
unify_args-bounds-us-i t c = omega (arith, c.loop-i-test.true, same_lengths c.as_slice-ts.result.now c.as_slice-us.result.now c.as_slice-ts.ensures c.as_slice-us.ensures c.requires)
