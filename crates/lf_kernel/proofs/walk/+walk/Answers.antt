use Rattle.std.proofs.Common.{◌≡◌, ◌+◌, arith, sym, ap, ◌∙◌, subst, subst₂, ◌∷◌, length, reverse}
use Rattle.lf_definitions.specs.Syntax.{family, term_size, spine_size}
use Rattle.lf_definitions.specs.Renaming.{next_by, rename_context}
use Rattle.lf_definitions.specs.Substitution.{stays}
use Rattle.lf_definitions.specs.Typing.{Typed, TypedSpine, with_context}
use Rattle.lf_definitions.specs.Failures.{FailsTerm, FailsSpine}
use Rattle.lf_definitions.specs.Signatures.{kinds_in}
use Rattle.lf_definitions.specs.ShapedGoals.{ShapedContext, kind_shapes_in}
use Rattle.lf_terms.specs.Terms.{head_of, term_of}
use Rattle.lf_terms.specs.Types.{type_of, types_of}
use Rattle.lf_terms.proofs.Spines.{item_size}
use Rattle.lf_terms.proofs.Abstractions.{term_size-lams}
use Rattle.lf_kernel.specs.Heads.{typing_of, seen_type}
use Rattle.lf_kernel.specs.ShapedPlaces.{binders_scope}
use Rattle.lf_kernel.proofs.Arguments.{typed_start, typed_more, typed_end, argument_fails, length-take_within}
use Rattle.lf_kernel.proofs.Expected.{terms_and_types, shapes_and_types, shapes_of_read, puts_binder, binder_expected}
use Rattle.lf_kernel.proofs.Spines.{lam_fails, head_fails, count_fails, argument_of_spine_fails, binders_shaped, puts_result, spine_is_typed, result_fails, gives_it, gives_another}
use Rattle.lf_kernel.proofs.Paths.{reverse-step, well, ill, typed_whole, fails_early, fails_under}
use Rattle.lf_kernel.proofs.Under.{under_binders, count_of}
use Rattle.lf_kernel.proofs.walk.+walk.Goals as goal

pub walk_args-loop-i-init : goal.walk_args-loop-i-init
walk_args-loop-i-init t c =
    let a = c.args in
    typed_start (typing_of a.place.now) (next_by a.raise) c.as_slice-terms.result.now c.as_slice-types.result.now

pub walk_args-slice_bounds-put_type-end : goal.walk_args-slice_bounds-put_type-end
walk_args-slice_bounds-put_type-end t c =
    let a = c.args in
    let lengths = terms_and_types c.as_slice-terms.result.now c.as_slice-types.result.now a.args.now a.binders.now c.as_slice-terms.ensures c.as_slice-types.ensures c.requires.count in
    let shapes = shapes_and_types c.as_slice-shapes.result.now c.as_slice-types.result.now a.shapes.now a.binders.now c.as_slice-shapes.ensures c.as_slice-types.ensures c.requires.shapes in
    sym (length-take_within c.as_slice-shapes.result.now c.loop-i.i (omega (arith, c.loop-i-test.true)))

pub walk_args-bounds-types-i : goal.walk_args-bounds-types-i
walk_args-bounds-types-i t c =
    let a = c.args in
    omega (arith, c.loop-i-test.true, terms_and_types c.as_slice-terms.result.now c.as_slice-types.result.now a.args.now a.binders.now c.as_slice-terms.ensures c.as_slice-types.ensures c.requires.count)

pub walk_args-put_type-requires : goal.walk_args-put_type-requires
walk_args-put_type-requires t c =
    let a = c.args in
    let Γ = typing_of a.place.now in
    let terms = c.as_slice-terms.result.now in
    let types = c.as_slice-types.result.now in
    let lengths = terms_and_types terms types a.args.now a.binders.now c.as_slice-terms.ensures c.as_slice-types.ensures c.requires.count in
    let shapes = shapes_of_read c.as_slice-shapes.result.now types a.shapes.now a.binders.now c.as_slice-shapes.ensures c.as_slice-types.ensures c.requires.shapes in
    puts_binder (kind_shapes_in a.place.now.sig.now) Γ a.raise terms types c.as_slice-shapes.result.now c.loop-i.i c.index-types-i.result (omega (arith, c.loop-i-test.true)) c.index-types-i.is shapes
    (subst (ShapedContext (kind_shapes_in a.place.now.sig.now) (binders_scope Γ a.raise)) (sym c.as_slice-types.ensures) c.requires.shaped) c.loop-i.invariant

pub walk_args-walk_term-requires : goal.walk_args-walk_term-requires
walk_args-walk_term-requires t c =
    let a = c.args in
    let Γ = typing_of a.place.now in
    let terms = c.as_slice-terms.result.now in
    let types = c.as_slice-types.result.now in
    let lengths = terms_and_types terms types a.args.now a.binders.now c.as_slice-terms.ensures c.as_slice-types.ensures c.requires.count in
    let shapes = shapes_of_read c.as_slice-shapes.result.now types a.shapes.now a.binders.now c.as_slice-shapes.ensures c.as_slice-types.ensures c.requires.shapes in (
      omega (arith, c.decreases, ap spine_size c.as_slice-terms.ensures, item_size terms c.loop-i.i c.index-terms-i.result c.loop-i-test.true c.index-terms-i.is),
      (
        c.requires.typing,
        binder_expected (kind_shapes_in a.place.now.sig.now) Γ a.raise terms types c.as_slice-shapes.result.now c.loop-i.i c.index-types-i.result (type_of c.in_ok-ty.ty) (omega (arith, c.loop-i-test.true)) c.index-types-i.is shapes
            (subst (ShapedContext (kind_shapes_in a.place.now.sig.now) (binders_scope Γ a.raise)) (sym c.as_slice-types.ensures) c.requires.shaped) c.loop-i.invariant c.in_ok-ty.ensures.result,
      ),
    )

pub walk_args-returns-in-Some : goal.walk_args-returns-in-Some
walk_args-returns-in-Some t c =
    let a = c.args in
    let Γ = typing_of a.place.now in
    let terms = c.as_slice-terms.result.now in
    let types = c.as_slice-types.result.now in
    let x = c.index-terms-i.result in
    let ty = type_of c.in_ok-ty.ty in
    let lengths = terms_and_types terms types a.args.now a.binders.now c.as_slice-terms.ensures c.as_slice-types.ensures c.requires.count in
    let fails = ill (Typed Γ (term_of x) ty) (FailsTerm Γ (term_of x) ty) c.in_ok-walk_term.field-0 c.in-Some.path c.in-Some.is c.in_ok-walk_term.ensures in
    subst (FailsSpine Γ stays a.args.now (rename_context (next_by a.raise) a.binders.now) a.first) (sym (reverse-step c.in-Some.path c.in_ok-step-in-Some.field-0 (a.first + c.loop-i.i) c.in_ok-step-in-Some.ensures))
    (subst₂ (λ ts bs. FailsSpine Γ stays ts (rename_context (next_by a.raise) bs) a.first ((a.first + c.loop-i.i) ∷ reverse c.in-Some.path)) c.as_slice-terms.ensures c.as_slice-types.ensures
    (argument_fails Γ (next_by a.raise) terms types c.loop-i.i x c.index-types-i.result ty a.first (reverse c.in-Some.path) c.loop-i-test.true lengths c.index-terms-i.is c.index-types-i.is c.loop-i.invariant
    c.in_ok-ty.ensures.result fails))

pub walk_args-loop-i-preserved : goal.walk_args-loop-i-preserved
walk_args-loop-i-preserved t c =
    let a = c.args in
    let Γ = typing_of a.place.now in
    let terms = c.as_slice-terms.result.now in
    let types = c.as_slice-types.result.now in
    let x = c.index-terms-i.result in
    let ty = type_of c.in_ok-ty.ty in
    let lengths = terms_and_types terms types a.args.now a.binders.now c.as_slice-terms.ensures c.as_slice-types.ensures c.requires.count in
    typed_more Γ (next_by a.raise) terms types c.loop-i.i x c.index-types-i.result ty c.loop-i-test.true lengths c.index-terms-i.is c.index-types-i.is c.loop-i.invariant
    c.in_ok-ty.ensures.result (well (Typed Γ (term_of x) ty) (FailsTerm Γ (term_of x) ty) c.in_ok-walk_term.field-0 c.in-None.is c.in_ok-walk_term.ensures)

pub walk_args-returns : goal.walk_args-returns
walk_args-returns t c =
    let a = c.args in
    let Γ = typing_of a.place.now in
    let terms = c.as_slice-terms.result.now in
    let types = c.as_slice-types.result.now in
    let lengths = terms_and_types terms types a.args.now a.binders.now c.as_slice-terms.ensures c.as_slice-types.ensures c.requires.count in
    subst₂ (λ ts bs. TypedSpine Γ stays ts (rename_context (next_by a.raise) bs)) c.as_slice-terms.ensures c.as_slice-types.ensures
    (typed_end Γ (next_by a.raise) terms types c.loop-i.i (omega (arith, c.loop-i-test.false)) lengths c.loop-i.invariant)

pub walk_body-returns-in-Lam : goal.walk_body-returns-in-Lam
walk_body-returns-in-Lam t c =
    let a = c.args in
    lam_fails (typing_of a.place.now) (term_of a.body.now) c.in-Lam.field-0 a.ty.now.family a.ty.now.args c.new.result (ap term_of c.in-Lam.is) c.new.ensures

pub walk_spine-returns-in_default : goal.walk_spine-returns-in_default
walk_spine-returns-in_default t c =
    let a = c.args in
    let Γ = typing_of a.place.now in
    head_fails Γ (head_of a.head) a.args.now a.ty.now.args a.ty.now.family c.new.result (subst (λ o. seen_type o ≡ Γ (head_of a.head)) c.in_default.is c.in_ok-found.ensures) c.new.ensures

pub walk_spine-returns-then-len : goal.walk_spine-returns-then-len
walk_spine-returns-then-len t c =
    let a = c.args in
    let Γ = typing_of a.place.now in
    let h = head_of a.head in
    count_fails Γ h c.in-Some.found (subst (λ o. seen_type o ≡ Γ h) c.in-Some.is c.in_ok-found.ensures) a.args.now a.ty.now.args a.ty.now.family c.new-then-len.result
    (λ e. c.if-len.true (c.len.ensures ∙ e ∙ sym c.len-2.ensures)) c.new-then-len.ensures

pub walk_spine-binder_shapes-requires : goal.walk_spine-binder_shapes-requires
walk_spine-binder_shapes-requires t c =
    let a = c.args in
    subst (λ o. seen_type o ≡ typing_of a.place.now (head_of a.head)) c.in-Some.is c.in_ok-found.ensures

pub walk_spine-walk_args-requires : goal.walk_spine-walk_args-requires
walk_spine-walk_args-requires t c =
    let a = c.args in
    let Γ = typing_of a.place.now in
    let h = head_of a.head in (
      omega (arith, c.decreases),
      (
        c.requires.typing,
        (
          binders_shaped Γ h c.in-Some.found (subst (λ o. seen_type o ≡ Γ h) c.in-Some.is c.in_ok-found.ensures) (kinds_in a.place.now.sig.now) c.requires.typing,
          (c.in_ok-shapes.ensures, sym c.len.ensures ∙ c.if-len.false ∙ c.len-2.ensures),
        ),
      ),
    )

pub walk_spine-returns-in-Some-2 : goal.walk_spine-returns-in-Some-2
walk_spine-returns-in-Some-2 t c =
    let a = c.args in
    let Γ = typing_of a.place.now in
    let h = head_of a.head in
    let found = c.in-Some.found in
    let bs = rename_context (next_by found.raise) found.binders.now in
    let fails = ill (TypedSpine Γ stays a.args.now bs) (FailsSpine Γ stays a.args.now bs 0) c.in_ok-path.field-0 c.in-Some-2.path c.in-Some-2.is c.in_ok-path.ensures in
    argument_of_spine_fails Γ h found (subst (λ o. seen_type o ≡ Γ h) c.in-Some.is c.in_ok-found.ensures) a.args.now a.ty.now.args a.ty.now.family (reverse c.in-Some-2.path)
    (sym c.len.ensures ∙ c.if-len.false ∙ c.len-2.ensures) fails

pub walk_spine-gives-requires : goal.walk_spine-gives-requires
walk_spine-gives-requires t c =
    let a = c.args in
    let Γ = typing_of a.place.now in
    let h = head_of a.head in
    let found = c.in-Some.found in
    let bs = rename_context (next_by found.raise) found.binders.now in
    let typed = well (TypedSpine Γ stays a.args.now bs) (FailsSpine Γ stays a.args.now bs 0) c.in_ok-path.field-0 c.in-None.is c.in_ok-path.ensures in
    puts_result Γ h found (subst (λ o. seen_type o ≡ Γ h) c.in-Some.is c.in_ok-found.ensures) (kinds_in a.place.now.sig.now) a.args.now c.in_ok-shapes.shapes c.requires.typing c.in_ok-shapes.ensures typed

pub walk_spine-returns-then-branch : goal.walk_spine-returns-then-branch
walk_spine-returns-then-branch t c =
    let a = c.args in
    let Γ = typing_of a.place.now in
    let h = head_of a.head in
    let found = c.in-Some.found in
    let bs = rename_context (next_by found.raise) found.binders.now in
    let typed = well (TypedSpine Γ stays a.args.now bs) (FailsSpine Γ stays a.args.now bs 0) c.in_ok-path.field-0 c.in-None.is c.in_ok-path.ensures in
    let given = gives_it found a.args.now (family a.ty.now.family a.ty.now.args) c.in_ok-gives-in-None.field-0 c.if-branch.true c.in_ok-gives-in-None.ensures in
    spine_is_typed Γ h found (subst (λ o. seen_type o ≡ Γ h) c.in-Some.is c.in_ok-found.ensures) a.args.now given.0 a.ty.now.args a.ty.now.family typed given.1 given.2

pub walk_spine-returns : goal.walk_spine-returns
walk_spine-returns t c =
    let a = c.args in
    let Γ = typing_of a.place.now in
    let h = head_of a.head in
    let found = c.in-Some.found in
    let bs = rename_context (next_by found.raise) found.binders.now in
    let typed = well (TypedSpine Γ stays a.args.now bs) (FailsSpine Γ stays a.args.now bs 0) c.in_ok-path.field-0 c.in-None.is c.in_ok-path.ensures in
    let given = gives_another found a.args.now (family a.ty.now.family a.ty.now.args) c.in_ok-gives-in-None.field-0 c.if-branch.false c.in_ok-gives-in-None.ensures in
    result_fails Γ h found (subst (λ o. seen_type o ≡ Γ h) c.in-Some.is c.in_ok-found.ensures) a.args.now given.0 a.ty.now.args a.ty.now.family c.new-else-branch.result typed given.1 given.2 c.new-else-branch.ensures

pub walk_term-walk_body-requires-in-Ok : goal.walk_term-walk_body-requires-in-Ok
walk_term-walk_body-requires-in-Ok t c =
    let a = c.args in
    let Γ = typing_of a.place.now in (
      omega (arith, c.decreases, ap term_size c.in-Ok.ensures, term_size-lams (length c.as_slice-binders.result.now) (term_of c.in-Ok.body.now)),
      under_binders (kinds_in a.place.now.sig.now) Γ c.as_slice-binders.result.now a.ty.now.binders (family a.ty.now.family a.ty.now.args) c.as_slice-binders.ensures c.requires.typing c.requires.shaped,
    )

pub walk_term-returns-in_ok-under-in-Err : goal.walk_term-returns-in_ok-under-in-Err
walk_term-returns-in_ok-under-in-Err t c =
    let a = c.args in
    let types = c.as_slice-binders.result.now in
    fails_early a.ty.now.binders (typing_of a.place.now) (term_of a.term.now) (family a.ty.now.family a.ty.now.args) (length types) c.in-Err.depth c.new.result c.in_ok-under-in-Err.field-0
    c.in-Err.ensures (count_of types a.ty.now.binders c.as_slice-binders.ensures) c.new.ensures c.in_ok-under-in-Err.ensures

pub walk_term-returns-in-None : goal.walk_term-returns-in-None
walk_term-returns-in-None t c =
    let a = c.args in
    let Γ = typing_of a.place.now in
    let types = c.as_slice-binders.result.now in
    let end = family a.ty.now.family a.ty.now.args in
    let b = term_of c.in-Ok.body.now in
    let inside = with_context (types_of types) Γ in
    typed_whole a.ty.now.binders Γ (term_of a.term.now) b end (length types) c.in-Ok.ensures (count_of types a.ty.now.binders c.as_slice-binders.ensures)
    (subst (λ bs. Typed (with_context bs Γ) b end) c.as_slice-binders.ensures (well (Typed inside b end) (FailsTerm inside b end) c.in_ok-walk_body-in-Ok.field-0 c.in-None.is c.in_ok-walk_body-in-Ok.ensures))

pub walk_term-returns-in_ok-under-in-Some : goal.walk_term-returns-in_ok-under-in-Some
walk_term-returns-in_ok-under-in-Some t c =
    let a = c.args in
    let Γ = typing_of a.place.now in
    let types = c.as_slice-binders.result.now in
    let end = family a.ty.now.family a.ty.now.args in
    let b = term_of c.in-Ok.body.now in
    let inside = with_context (types_of types) Γ in
    let fails = ill (Typed inside b end) (FailsTerm inside b end) c.in_ok-walk_body-in-Ok.field-0 c.in-Some.path c.in-Some.is c.in_ok-walk_body-in-Ok.ensures in
    fails_under a.ty.now.binders Γ (term_of a.term.now) b end (length types) c.in-Some.path c.in_ok-under-in-Some.field-0 c.in-Ok.ensures (count_of types a.ty.now.binders c.as_slice-binders.ensures) c.in_ok-under-in-Some.ensures
    (subst (λ bs. FailsTerm (with_context bs Γ) b end (reverse c.in-Some.path)) c.as_slice-binders.ensures fails)
