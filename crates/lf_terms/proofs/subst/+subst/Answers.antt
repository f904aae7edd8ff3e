use Rattle.std.proofs.Common.{◌≡◌, arith, refl, sym, ap, ap₂, ◌∙◌, subst, subst₂, length, ◌-◌, ◌+◌, take, take_all, Some}
use Rattle.std.proofs.lemmas.Result.{IfOk-weaker}
use Rattle.lf_definitions.specs.Syntax.{bound, constant, metavariable, lam, at, lams, args_count, arg_at, no_args}
use Rattle.lf_definitions.specs.Substitution.{Substituted, substituted_stays, SubstitutedSpine, substituted_none}
use Rattle.lf_terms.specs.Putting.{putting, PutAt, Puts, TermShaped, HeadShaped, HasLams}
use Rattle.lf_terms.specs.Terms.{head_of, term_of, spine_of}
use Rattle.lf_terms.specs.Shapes.{simple_types_of}
use Rattle.lf_terms.proofs.Spines.{args_count-spine_of, arg_at-spine_of, take_more_spine, spine_of-append}
use Rattle.lf_terms.proofs.Putting.{term_cost, put_under, puts_under, under_cost, puts_args, args_below, puts_arg, arg_below, put_arg, puts_head, head_below, put_head, put_constant, put_metavariable, put_local, put_greater, replaced_here, places_agree, replaced_lams, puts_nested, nested_cost, put_nested}
use Rattle.lf_terms.specs.Extents.{StaysWithin, InTerm}
use Rattle.lf_terms.proofs.Extents.{term_unchanged, spine_unchanged}
use Rattle.lf_terms.proofs.subst.+subst.Goals as goal

pub put_at-returns-then-number-depth : goal.put_at-returns-then-number-depth
put_at-returns-then-number-depth t c =
    let images = c.args.images.now in
    put_local (spine_of images.sub.now) images.by c.args.depth c.args.number c.args.args c.if-number-depth.true

pub put_at-returns-then-outside-sub : goal.put_at-returns-then-outside-sub
put_at-returns-then-outside-sub t c =
    let a = c.args in
    let images = a.images.now in
    let count = args_count-spine_of images.sub.now in
    subst (λ m. PutAt (putting (spine_of images.sub.now) images.by a.depth) (bound a.number) a.args (at (bound ((a.number - m) + images.by)) a.args)) count
    (put_greater (spine_of images.sub.now) images.by a.depth a.number a.args c.if-number-depth.false (omega (arith, count, c.if-outside-sub.true)))

pub put_at-bounds-shapes-place : goal.put_at-bounds-shapes-place
put_at-bounds-shapes-place t c =
    let a = c.args in
    let images = a.images.now in
    omega (
      arith,
      c.if-outside-sub.false,
      places_agree (spine_of images.sub.now) (simple_types_of images.shapes.now) images.by a.depth (HeadShaped (bound a.number) a.args) images.sub.now images.shapes.now c.requires
          refl refl,
    )

pub put_at-stripped-body-requires : goal.put_at-stripped-body-requires
put_at-stripped-body-requires t c =
    let a = c.args in
    let images = a.images.now in
    let xs = images.sub.now in
    let k = length xs - 1 - (a.number - a.depth) in
    let x = c.index-sub-place.result in
    let s = c.index-shapes-place.result in
    let found = replaced_here (spine_of images.sub.now) (simple_types_of images.shapes.now) images.by a.depth a.number k a.args xs images.shapes.now x s c.requires refl refl
    c.if-number-depth.false c.if-outside-sub.false refl c.index-sub-place.is c.index-shapes-place.is in
    subst (λ n. HasLams n (term_of x)) (sym c.len.ensures) (replaced_lams (spine_of images.sub.now) (simple_types_of images.shapes.now) images.by a.depth a.number k a.args (term_of x) s.args found)

pub put_at-put_in-requires : goal.put_at-put_in-requires
put_at-put_in-requires t c =
    let a = c.args in
    let images = a.images.now in
    let xs = images.sub.now in
    let k = length xs - 1 - (a.number - a.depth) in
    let x = c.index-sub-place.result in
    let s = c.index-shapes-place.result in
    let b = term_of c.stripped-body.result.now in
    let found = replaced_here (spine_of images.sub.now) (simple_types_of images.shapes.now) images.by a.depth a.number k a.args xs images.shapes.now x s c.requires refl refl
    c.if-number-depth.false c.if-outside-sub.false refl c.index-sub-place.is c.index-shapes-place.is in
    let is : term_of x ≡ lams (args_count a.args) b = c.stripped-body.ensures ∙ ap (λ n. lams n b) c.len.ensures in (
      omega (
        arith,
        c.decreases,
        nested_cost (spine_of images.sub.now) (simple_types_of images.shapes.now) images.by a.depth a.number k a.args (term_of x) s.args found b is,
        ap₂ (λ vs l. term_cost vs l a.depth 0 b) c.as_slice-2.ensures c.as_slice.ensures,
      ),
      subst₂ (λ vs l. Puts vs l a.depth 0 (TermShaped b)) (sym c.as_slice-2.ensures) (sym c.as_slice.ensures)
          (puts_nested (spine_of images.sub.now) (simple_types_of images.shapes.now) images.by a.depth a.number k a.args (term_of x) s.args found b is),
    )

pub put_at-returns : goal.put_at-returns
put_at-returns t c =
    let a = c.args in
    let images = a.images.now in
    let xs = images.sub.now in
    let k = length xs - 1 - (a.number - a.depth) in
    let x = c.index-sub-place.result in
    let s = c.index-shapes-place.result in
    let b = term_of c.stripped-body.result.now in
    let found = replaced_here (spine_of images.sub.now) (simple_types_of images.shapes.now) images.by a.depth a.number k a.args xs images.shapes.now x s c.requires refl refl
    c.if-number-depth.false c.if-outside-sub.false refl c.index-sub-place.is c.index-shapes-place.is in
    let is : term_of x ≡ lams (args_count a.args) b = c.stripped-body.ensures ∙ ap (λ n. lams n b) c.len.ensures in
    IfOk-weaker c.put_in.result _ _
    (λ r p. put_nested (spine_of images.sub.now) (simple_types_of images.shapes.now) images.by a.depth a.number k a.args (term_of x) s.args found b (term_of r) is
    (subst (λ vs. Substituted (putting vs a.depth 0) b (term_of r)) c.as_slice-2.ensures p))
    c.put_in.ensures

pub put_in-put_in-requires : goal.put_in-put_in-requires
put_in-put_in-requires t c =
    let a = c.args in
    let images = a.images.now in
    let b = term_of c.term.result.now in
    let is : term_of a.term.now ≡ lam b = ap term_of c.in-Lam.is ∙ ap lam (sym c.term.ensures) in (
      omega (arith, c.decreases, ap (term_cost (spine_of images.sub.now) (simple_types_of images.shapes.now) images.by a.depth) is, under_cost (spine_of images.sub.now) (simple_types_of images.shapes.now) images.by a.depth b),
      puts_under (spine_of images.sub.now) (simple_types_of images.shapes.now) images.by a.depth b (subst (λ x. Puts (spine_of images.sub.now) (simple_types_of images.shapes.now) images.by a.depth (TermShaped x)) is c.requires),
    )

pub put_in-put_in_all-requires : goal.put_in-put_in_all-requires
put_in-put_in_all-requires t c =
    let a = c.args in
    let images = a.images.now in
    let h = head_of c.in-At.head in
    let is : term_of a.term.now ≡ at h c.in-At.args = ap term_of c.in-At.is in (
      omega (arith, c.decreases, ap (term_cost (spine_of images.sub.now) (simple_types_of images.shapes.now) images.by a.depth) is, args_below (spine_of images.sub.now) (simple_types_of images.shapes.now) images.by a.depth h c.in-At.args),
      puts_args (spine_of images.sub.now) (simple_types_of images.shapes.now) images.by a.depth h c.in-At.args (subst (λ x. Puts (spine_of images.sub.now) (simple_types_of images.shapes.now) images.by a.depth (TermShaped x)) is c.requires),
    )

pub put_in-put_at-requires : goal.put_in-put_at-requires
put_in-put_at-requires t c =
    let a = c.args in
    let images = a.images.now in
    let h = bound c.in-Bound.number in
    let is : term_of a.term.now ≡ at h c.in-At.args = ap term_of c.in-At.is ∙ ap (λ k. at (head_of k) c.in-At.args) c.in-Bound.is in
    let puts = subst (λ x. Puts (spine_of images.sub.now) (simple_types_of images.shapes.now) images.by a.depth (TermShaped x)) is c.requires in
    let results = c.in_ok-args-in-At.ensures in (
      omega (arith, c.decreases, ap (term_cost (spine_of images.sub.now) (simple_types_of images.shapes.now) images.by a.depth) is, head_below (spine_of images.sub.now) (simple_types_of images.shapes.now) images.by a.depth h c.in-At.args c.in_ok-args-in-At.args puts results),
      puts_head (spine_of images.sub.now) (simple_types_of images.shapes.now) images.by a.depth h c.in-At.args c.in_ok-args-in-At.args puts results,
    )

pub put_in-returns-in_ok-new-in-Lam : goal.put_in-returns-in_ok-new-in-Lam
put_in-returns-in_ok-new-in-Lam t c =
    let a = c.args in
    let images = a.images.now in
    let is : term_of a.term.now ≡ lam (term_of c.term.result.now) = ap term_of c.in-Lam.is ∙ ap lam (sym c.term.ensures) in
    subst₂ (Substituted (putting (spine_of images.sub.now) images.by a.depth)) (sym is) (ap lam (sym c.in_ok-new-in-Lam.ensures)) (put_under (spine_of images.sub.now) images.by a.depth _ _ c.in_ok-body-in-Lam.ensures)

pub put_in-returns-in-Bound : goal.put_in-returns-in-Bound
put_in-returns-in-Bound t c =
    let a = c.args in
    let images = a.images.now in
    let σ = putting (spine_of images.sub.now) images.by a.depth in
    let h = bound c.in-Bound.number in
    let is : term_of a.term.now ≡ at h c.in-At.args = ap term_of c.in-At.is ∙ ap (λ k. at (head_of k) c.in-At.args) c.in-Bound.is in
    IfOk-weaker c.put_at.result _ _
    (λ r p. subst (λ x. Substituted σ x (term_of r)) (sym is) (put_head σ h c.in-At.args c.in_ok-args-in-At.args (term_of r) c.in_ok-args-in-At.ensures p))
    c.put_at.ensures

pub put_in-returns-in-Const : goal.put_in-returns-in-Const
put_in-returns-in-Const t c =
    let a = c.args in
    let images = a.images.now in
    let h = constant c.in-Const.constant in
    let is : term_of a.term.now ≡ at h c.in-At.args = ap term_of c.in-At.is ∙ ap (λ k. at (head_of k) c.in-At.args) c.in-Const.is in
    subst (λ x. Substituted (putting (spine_of images.sub.now) images.by a.depth) x (at h c.in_ok-args-in-At.args)) (sym is)
    (substituted_stays (put_constant (spine_of images.sub.now) images.by a.depth c.in-Const.constant) c.in_ok-args-in-At.ensures)

pub put_in-returns-in-Meta : goal.put_in-returns-in-Meta
put_in-returns-in-Meta t c =
    let a = c.args in
    let images = a.images.now in
    let h = metavariable c.in-Meta.goal in
    let is : term_of a.term.now ≡ at h c.in-At.args = ap term_of c.in-At.is ∙ ap (λ k. at (head_of k) c.in-At.args) c.in-Meta.is in
    subst (λ x. Substituted (putting (spine_of images.sub.now) images.by a.depth) x (at h c.in_ok-args-in-At.args)) (sym is)
    (substituted_stays (put_metavariable (spine_of images.sub.now) images.by a.depth c.in-Meta.goal) c.in_ok-args-in-At.ensures)

pub put_in_all-put_in-requires : goal.put_in_all-put_in-requires
put_in_all-put_in-requires t c =
    let a = c.args in
    let images = a.images.now in
    let x = c.index-items-i.result in
    let is : arg_at a.terms.now c.loop-i.i ≡ Some (term_of x) =
    subst (λ l. arg_at l c.loop-i.i ≡ Some (term_of x)) c.as_slice-items.ensures (arg_at-spine_of c.as_slice-items.result.now c.loop-i.i x c.loop-i-test.true c.index-items-i.is) in (
      omega (arith, c.decreases, arg_below (spine_of images.sub.now) (simple_types_of images.shapes.now) images.by a.depth a.terms.now c.loop-i.i (term_of x) is),
      puts_arg (spine_of images.sub.now) (simple_types_of images.shapes.now) images.by a.depth a.terms.now c.loop-i.i (term_of x) c.requires is,
    )

pub put_in_all-loop-i-preserved : goal.put_in_all-loop-i-preserved
put_in_all-loop-i-preserved t c =
    let a = c.args in
    let images = a.images.now in
    put_arg (putting (spine_of images.sub.now) images.by a.depth) _ _ _ _ _ _
    (take_more_spine c.as_slice-items.result.now c.loop-i.i c.index-items-i.result c.loop-i-test.true c.index-items-i.is)
    (ap spine_of c.in_ok-push.ensures.items ∙ spine_of-append _ _)
    c.loop-i.invariant c.in_ok-put_in.ensures

pub put_in_all-returns : goal.put_in_all-returns
put_in_all-returns t c =
    let a = c.args in
    let images = a.images.now in
    let all : spine_of (take c.loop-i.i c.as_slice-items.result.now) ≡ a.terms.now =
    ap spine_of (take_all c.loop-i.i c.as_slice-items.result.now (omega arith)) ∙ c.as_slice-items.ensures in
    IfOk-weaker c.from_vec.result _ _
    (λ r made. subst₂ (SubstitutedSpine (putting (spine_of images.sub.now) images.by a.depth)) all (sym made) c.loop-i.invariant)
    c.from_vec.ensures

pub put_in_all-loop-i-init : goal.put_in_all-loop-i-init
put_in_all-loop-i-init t c =
    let images = c.args.images.now in
    subst (λ l. SubstitutedSpine (putting (spine_of images.sub.now) images.by c.args.depth) no_args (spine_of l)) (sym c.in_ok-results.ensures.items) substituted_none

pub put_in-returns-then-is_within : goal.put_in-returns-then-is_within
put_in-returns-then-is_within t c =
    let a = c.args in
    let images = a.images.now in
    let inside : StaysWithin (a.depth + 1) (InTerm c.in-Lam.body) = c.is_within.ensures c.if-is_within.true in
    subst₂ (Substituted (putting (spine_of images.sub.now) images.by a.depth)) (sym (ap term_of c.in-Lam.is)) (ap lam (sym c.in_ok-copy-in-Lam.ensures))
    (put_under (spine_of images.sub.now) images.by a.depth _ _ (term_unchanged (spine_of images.sub.now) images.by (a.depth + 1) c.in-Lam.body inside))

pub put_in_all-returns-then-is_within : goal.put_in_all-returns-then-is_within
put_in_all-returns-then-is_within t c =
    let a = c.args in
    let images = a.images.now in
    let σ = putting (spine_of images.sub.now) images.by a.depth in
    IfOk-weaker c.copy.result _ _
    (λ r same. subst (SubstitutedSpine σ a.terms.now) (sym same) (spine_unchanged (spine_of images.sub.now) images.by a.depth a.terms.now (c.is_within.ensures c.if-is_within.true)))
    c.copy.ensures
