use Rattle.std.proofs.Common.{◌≡◌, ◌∷◌, ◌≤◌, ◌+◌, [], Some, option_map, rules, arith, refl, sym, ap, ◌∙◌, subst, subst₂, length, take, take_all, length-append}
use Rattle.std.specs.Prelude.{slice_get}
use Rattle.std.proofs.lemmas.Bool.{false≢true}
use Rattle.std.proofs.lemmas.List.{length-take-le}
use Rattle.std.proofs.lemmas.Option.{slice_get_within}
use Rattle.lf_definitions.specs.Syntax.{family, pis, arrows, base, shapes_of_types}
use Rattle.lf_definitions.specs.Renaming.{next_by, lifted_by, rename_context, rename_spine}
use Rattle.lf_definitions.specs.Substitution.{stays, SubstitutedType}
use Rattle.lf_definitions.specs.Typing.{with_context, shapes_of, TypedSpine}
use Rattle.lf_definitions.specs.Signatures.{kinds_in}
use Rattle.lf_definitions.specs.ShapedGoals.{ShapedContext, kind_shapes_in}
use Rattle.lf_definitions.proofs.Typing.{ShapedSpine-TypedSpine}
use Rattle.lf_definitions.proofs.TypedSpines.{length-rename_context}
use Rattle.lf_definitions.proofs.ShapedGoals.{ShapedTyping-head, ShapedContext-pis}
use Rattle.lf_terms.specs.Putting.{putting, Puts, TypeShaped}
use Rattle.lf_terms.specs.Terms.{head_of, term_of, spine_of}
use Rattle.lf_terms.specs.Shapes.{simple_types_of}
use Rattle.lf_terms.specs.Types.{type_of, types_of}
use Rattle.lf_terms.proofs.Spines.{args_count-spine_of}
use Rattle.lf_terms.proofs.ShapeLists.{length-simple_types_of}
use Rattle.lf_terms.proofs.TypeLists.{length-types_of}
use Rattle.lf_kernel.specs.Heads.{typing_at, seen_type}
use Rattle.lf_kernel.specs.ShapedPlaces.{binders_scope}
use Rattle.lf_kernel.proofs.Expected.{shapes_and_types, shapes_of_read, puts_binder, binder_expected}
use Rattle.lf_kernel.proofs.Spines.{seen, binders_shaped}
use Rattle.file_trees.specs.Trees.{tree_size}
use Rattle.file_trees.specs.TermViews.{tree_of}
use Rattle.elab_terms.specs.Applied.{arguments_of}
use Rattle.elab_terms.specs.KnownTypes.{KnownAt}
use Rattle.elab_terms.specs.Names.{binder_name}
use Rattle.elab_terms.specs.Names as names
use Rattle.elab_terms.specs.Domains.{left_of}
use Rattle.elab_terms.specs.Readers.{whole_text, typing_by}
use Rattle.elab_terms.specs.Terms.{ReadsTerm, ReadsArguments, reads_none, RefusesTerm, refuses_name, refuses_extra, refuses_in_argument, RefusesArguments}
use Rattle.elab_terms.specs.declared.elab_fault.ElabFault.TheVariants.{IllTyped}
use Rattle.elab_terms.proofs.Applications.{argument_size, base_size, never_applied}
use Rattle.elab_terms.proofs.Applying.{typed_before, argument_read, argument_refused, arguments_read, type_after_puts}
use Rattle.elab_terms.proofs.Expanding.{length-shapes_of_types}
use Rattle.elab_terms.proofs.Reading.{IsRefusal-map, first_binder, some_binder, known_under, wanted_binder, wanted_under, abstraction_ill, abstraction_redex, abstraction_read, abstraction_refused, head_typed, head_is, arguments_typed, shaped_take, result_seen, application_read, application_differs}
use Rattle.elab_terms.proofs.terms.+read.Goals as goal

pub read_term-unreachable-requires : goal.read_term-unreachable-requires
read_term-unreachable-requires t c =
    never_applied (tree_of c.args.tree.now) c.in-App.field-0 c.in-App.field-1 (ap tree_of (sym c.in-App.is) ∙ c.base.ensures)

pub read_abstraction-returns-then-binders-eq0-clause-refused : goal.read_abstraction-returns-then-binders-eq0-clause-refused
read_abstraction-returns-then-binders-eq0-clause-refused t c =
    let a = c.args in
    abstraction_ill c.requires.base a.wanted.now c.as_slice-binders.result.now c.in-Err.field-0 c.in-Err.ensures c.as_slice-binders.ensures c.if-binders-eq0.true

pub read_abstraction-returns-in-Ok-clause-refused : goal.read_abstraction-returns-in-Ok-clause-refused
read_abstraction-returns-in-Ok-clause-refused t c = abstraction_redex c.requires.base c.in-Ok.ensures

pub read_abstraction-left_type-requires : goal.read_abstraction-left_type-requires
read_abstraction-left_type-requires t c = some_binder c.as_slice-binders.result.now c.args.wanted.now.binders c.as_slice-binders.ensures c.if-binders-eq0.false

pub read_abstraction-read_term-requires : goal.read_abstraction-read_term-requires
read_abstraction-read_term-requires t c =
    let a = c.args in
    let Γ = typing_by a.reader.now a.scope.now in
    let Δ = with_context (types_of (take 1 c.as_slice-binders.result.now)) Γ in
    let left = c.in_ok-left-in-Err.left in
    let fb = first_binder c.as_slice-binders.result.now a.wanted.now left c.as_slice-binders.ensures c.if-binders-eq0.false c.in_ok-left-in-Err.ensures in
    let typing = ap (λ ctx. with_context ctx Γ) fb.2 in
    let names = c.in_ok-push-in-Err.ensures.ok ∙ ap (λ n. Some n ∷ a.names.now) c.text-name.ensures in (
      omega (arith, c.decreases, base_size (tree_of a.abstraction.now.tree.now), ap tree_size c.requires.base),
      (
        c.requires.closed,
        (
          known_under a.reader.now.sig.now Γ Δ a.names.now c.push.new.self (binder_name (whole_text a.reader.now) a.abstraction.now.binder) fb.0 typing names c.requires.known
              (wanted_binder a.reader.now.sig.now Γ (type_of a.wanted.now) fb.0 (type_of left) fb.1 c.requires.wanted),
          wanted_under a.reader.now.sig.now Γ Δ (type_of a.wanted.now) fb.0 (type_of left) typing fb.1 c.requires.wanted,
        ),
      ),
    )

pub read_abstraction-returns-in-Err-read_term-clause-refused : goal.read_abstraction-returns-in-Err-read_term-clause-refused
read_abstraction-returns-in-Err-read_term-clause-refused t c =
    let a = c.args in
    let text = whole_text a.reader.now in
    let Γ = typing_by a.reader.now a.scope.now in
    let Δ = with_context (types_of (take 1 c.as_slice-binders.result.now)) Γ in
    let left = c.in_ok-left-in-Err.left in
    let fb = first_binder c.as_slice-binders.result.now a.wanted.now left c.as_slice-binders.ensures c.if-binders-eq0.false c.in_ok-left-in-Err.ensures in
    let typing = ap (λ ctx. with_context ctx Γ) fb.2 in
    let known = c.in_ok-push-in-Err.ensures.ok ∙ ap (λ n. Some n ∷ a.names.now) c.text-name.ensures in
    IsRefusal-map (RefusesTerm text a.reader.now.sig.now c.push.new.self Δ (tree_of a.abstraction.now.body.now) (type_of left)) (RefusesTerm text a.reader.now.sig.now a.names.now Γ (tree_of a.abstraction.now.tree.now) (type_of a.wanted.now))
    (λ fault p. abstraction_refused c.requires.base c.in-Err.field-0 c.in-Err.ensures known typing fb.1 fault p)
    c.in-Err-read_term.fault c.in-Err-read_term.ensures.refused

pub read_abstraction-returns-clause-read : goal.read_abstraction-returns-clause-read
read_abstraction-returns-clause-read t c =
    let a = c.args in
    let text = whole_text a.reader.now in
    let Γ = typing_by a.reader.now a.scope.now in
    let Δ = with_context (types_of (take 1 c.as_slice-binders.result.now)) Γ in
    let left = c.in_ok-left-in-Err.left in
    let fb = first_binder c.as_slice-binders.result.now a.wanted.now left c.as_slice-binders.ensures c.if-binders-eq0.false c.in_ok-left-in-Err.ensures in
    let typing = ap (λ ctx. with_context ctx Γ) fb.2 in
    let known = c.in_ok-push-in-Err.ensures.ok ∙ ap (λ n. Some n ∷ a.names.now) c.text-name.ensures in
    abstraction_read c.requires.base c.in-Err.field-0 c.in-Err.ensures known typing fb.1 c.in_ok-new-in-Ok-read_term.ensures c.in-Ok-read_term.ensures.read

pub read_application-returns-in_default-clause-refused : goal.read_application-returns-in_default-clause-refused
read_application-returns-in_default-clause-refused t c =
    let a = c.args in
    refuses_name a.names.now (typing_by a.reader.now a.scope.now) (tree_of a.tree.now) a.span (arguments_of (tree_of a.tree.now) []) (type_of a.wanted.now) (c.requires.base, refl)
    (ap (names.named_head a.reader.now.sig.now a.names.now) (sym c.text.ensures) ∙ sym c.head_named.ensures ∙ ap (option_map head_of) c.in_default.is)

pub read_application-unreachable-requires : goal.read_application-unreachable-requires
read_application-unreachable-requires t c =
    let a = c.args in
    let h = head_of c.in-Some.head in
    let resolved = ap (names.named_head a.reader.now.sig.now a.names.now) (sym c.text.ensures) ∙ sym c.head_named.ensures ∙ ap (option_map head_of) c.in-Some.is in
    let none = subst₂ (λ o ms. seen_type o ≡ typing_at a.reader.now.sig.now ms a.scope.now h) c.in_default-2.is c.requires.closed c.in_ok-found.ensures in
    head_is (typing_by a.reader.now a.scope.now) h (head_typed a.reader.now.sig.now a.scope.now a.names.now _ h c.requires.known resolved) none

pub read_application-returns-in-Ok-clause-refused : goal.read_application-returns-in-Ok-clause-refused
read_application-returns-in-Ok-clause-refused t c =
    let a = c.args in
    let Γ = typing_by a.reader.now a.scope.now in
    let h = head_of c.in-Some.head in
    let found = c.in-Some-2.found in
    let domains = rename_context (next_by found.raise) found.binders.now in
    let args = rename_spine (lifted_by (length found.binders.now) (next_by found.raise)) found.args.now in
    let arguments = arguments_of (tree_of a.tree.now) [] in
    let resolved = ap (names.named_head a.reader.now.sig.now a.names.now) (sym c.text.ensures) ∙ sym c.head_named.ensures ∙ ap (option_map head_of) c.in-Some.is in
    let known = subst₂ (λ o ms. seen_type o ≡ typing_at a.reader.now.sig.now ms a.scope.now h) c.in-Some-2.is c.requires.closed c.in_ok-found.ensures in
    let place : c.len.result ≡ length domains = c.len.ensures ∙ sym (length-rename_context (next_by found.raise) found.binders.now) in
    subst (λ n. RefusesTerm (whole_text a.reader.now) a.reader.now.sig.now a.names.now Γ (tree_of a.tree.now) (type_of a.wanted.now) (IllTyped n)) (sym c.place.ensures)
    (refuses_extra a.names.now Γ (tree_of a.tree.now) (tree_of c.in-Ok.extra.now) a.span arguments h domains found.family args (type_of a.wanted.now) (c.requires.base, refl) resolved (seen Γ h found known)
    (subst (λ n. slice_get arguments n ≡ Some (tree_of c.in-Ok.extra.now)) place c.in-Ok.ensures))

pub read_application-read_arguments-requires : goal.read_application-read_arguments-requires
read_application-read_arguments-requires t c =
    let a = c.args in
    let Γ = typing_by a.reader.now a.scope.now in
    let h = head_of c.in-Some.head in
    let found = c.in-Some-2.found in
    let domains = rename_context (next_by found.raise) found.binders.now in
    let args = rename_spine (lifted_by (length found.binders.now) (next_by found.raise)) found.args.now in
    let known = subst₂ (λ o ms. seen_type o ≡ typing_at a.reader.now.sig.now ms a.scope.now h) c.in-Some-2.is c.requires.closed c.in_ok-found.ensures in
    let shaped = c.requires.known.founded.shaped in (
      omega (arith, c.decreases),
      (
        c.requires.closed,
        (
          c.requires.known,
          (
            record {
              declared = binders_shaped Γ h found known (kinds_in a.reader.now.sig.now) shaped;
              seen = ShapedContext-pis domains (family found.family args) (ShapedTyping-head (kinds_in a.reader.now.sig.now) Γ shaped h (pis domains (family found.family args)) (seen Γ h found known));
            },
            (c.in_ok-shapes.ensures, omega (arith, c.in_default-argument.ensures, c.len.ensures)),
          ),
        ),
      ),
    )

pub read_application-returns-in-Err-clause-refused : goal.read_application-returns-in-Err-clause-refused
read_application-returns-in-Err-clause-refused t c =
    let a = c.args in
    let text = whole_text a.reader.now in
    let Γ = typing_by a.reader.now a.scope.now in
    let h = head_of c.in-Some.head in
    let found = c.in-Some-2.found in
    let domains = rename_context (next_by found.raise) found.binders.now in
    let args = rename_spine (lifted_by (length found.binders.now) (next_by found.raise)) found.args.now in
    let tree = tree_of a.tree.now in
    let arguments = arguments_of tree [] in
    let resolved = ap (names.named_head a.reader.now.sig.now a.names.now) (sym c.text.ensures) ∙ sym c.head_named.ensures ∙ ap (option_map head_of) c.in-Some.is in
    let known = subst₂ (λ o ms. seen_type o ≡ typing_at a.reader.now.sig.now ms a.scope.now h) c.in-Some-2.is c.requires.closed c.in_ok-found.ensures in
    let few : length arguments ≤ length domains = omega (arith, c.in_default-argument.ensures, c.len.ensures, length-rename_context (next_by found.raise) found.binders.now) in
    IsRefusal-map (RefusesArguments text a.reader.now.sig.now a.names.now Γ stays arguments domains) (RefusesTerm text a.reader.now.sig.now a.names.now Γ tree (type_of a.wanted.now))
    (λ fault p. refuses_in_argument a.names.now Γ tree a.span arguments h domains found.family args (type_of a.wanted.now) fault (c.requires.base, refl) resolved (seen Γ h found known) few p)
    c.in-Err.fault c.in-Err.ensures.refused

pub read_application-slice_bounds-type_after-end : goal.read_application-slice_bounds-type_after-end
read_application-slice_bounds-type_after-end t c =
    let a = c.args in
    let found = c.in-Some-2.found in
    let terms = c.in-Ok-read_arguments.terms in
    let shapes = c.as_slice.result.now in
    let count : length shapes ≡ length found.binders.now =
    sym (length-simple_types_of shapes) ∙ ap length (c.as_slice.ensures ∙ c.in_ok-shapes.ensures) ∙ length-shapes_of_types found.binders.now in
    sym (length-take-le c.len-count.result shapes (omega (arith, count, c.in_default-argument.ensures, c.len.ensures, c.len-count.ensures, terms.ok.0, c.in-Ok-read_arguments.ensures.count)))

pub read_application-type_after-requires-clause-puts : goal.read_application-type_after-requires-clause-puts
read_application-type_after-requires-clause-puts t c =
    let a = c.args in
    let text = whole_text a.reader.now in
    let Γ = typing_by a.reader.now a.scope.now in
    let h = head_of c.in-Some.head in
    let found = c.in-Some-2.found in
    let domains = rename_context (next_by found.raise) found.binders.now in
    let args = rename_spine (lifted_by (length found.binders.now) (next_by found.raise)) found.args.now in
    let arguments = arguments_of (tree_of a.tree.now) [] in
    let terms = c.in-Ok-read_arguments.terms in
    let slice = c.as_slice-in-Ok-read_arguments.result.now in
    let value : slice ≡ terms.items = c.as_slice-in-Ok-read_arguments.ensures.value in
    let known = subst₂ (λ o ms. seen_type o ≡ typing_at a.reader.now.sig.now ms a.scope.now h) c.in-Some-2.is c.requires.closed c.in_ok-found.ensures in
    let shaped = c.requires.known.founded.shaped in
    let whole = ShapedContext-pis domains (family found.family args) (ShapedTyping-head (kinds_in a.reader.now.sig.now) Γ shaped h (pis domains (family found.family args)) (seen Γ h found known)) in
    let typed = arguments_typed c.requires.known.founded
    (shaped_take (kind_shapes_in a.reader.now.sig.now) (shapes_of Γ) domains (length arguments) whole) c.in-Ok-read_arguments.ensures.read in
    type_after_puts a.reader.now.sig.now Γ h found shaped known slice (length arguments) c.len-count.result c.as_slice.result.now (subst (λ xs. TypedSpine Γ stays (spine_of xs) (take (length arguments) domains)) (sym value) typed)
    (ap length value ∙ c.in-Ok-read_arguments.ensures.count) (omega (arith, c.len-count.ensures, terms.ok.0, c.in-Ok-read_arguments.ensures.count)) (c.as_slice.ensures ∙ c.in_ok-shapes.ensures)

pub read_application-returns-then-not-same_ty-clause-refused : goal.read_application-returns-then-not-same_ty-clause-refused
read_application-returns-then-not-same_ty-clause-refused t c =
    let a = c.args in
    let text = whole_text a.reader.now in
    let Γ = typing_by a.reader.now a.scope.now in
    let h = head_of c.in-Some.head in
    let found = c.in-Some-2.found in
    let domains = rename_context (next_by found.raise) found.binders.now in
    let args = rename_spine (lifted_by (length found.binders.now) (next_by found.raise)) found.args.now in
    let arguments = arguments_of (tree_of a.tree.now) [] in
    let terms = c.in-Ok-read_arguments.terms in
    let made = type_of c.in_ok-made-in-Ok-read_arguments.made in
    let resolved = ap (names.named_head a.reader.now.sig.now a.names.now) (sym c.text.ensures) ∙ sym c.head_named.ensures ∙ ap (option_map head_of) c.in-Some.is in
    let known = subst₂ (λ o ms. seen_type o ≡ typing_at a.reader.now.sig.now ms a.scope.now h) c.in-Some-2.is c.requires.closed c.in_ok-found.ensures in
    let count = c.in-Ok-read_arguments.ensures.count in
    let result = subst (λ n. SubstitutedType (putting (spine_of terms.items) found.raise 0) (left_of found n) made) count
    (subst (λ xs. SubstitutedType (putting (spine_of xs) found.raise 0) (left_of found (length xs)) made) c.as_slice-in-Ok-read_arguments.ensures.value c.in_ok-made-in-Ok-read_arguments.ensures) in
    subst (λ n. RefusesTerm text a.reader.now.sig.now a.names.now Γ (tree_of a.tree.now) (type_of a.wanted.now) (IllTyped n)) (sym c.place-then-not-same_ty.ensures)
    (application_differs domains found.family args c.requires.base resolved (seen Γ h found known)
    c.in-Ok-read_arguments.ensures.read
    (result_seen found (spine_of terms.items) (length arguments) made (omega (arith, c.in_default-argument.ensures, c.len.ensures)) (args_count-spine_of terms.items ∙ count) result)
    (λ e. false≢true (sym c.if-not-same_ty.true ∙ c.same_ty.ensures.1 e)))

pub read_application-expand-requires : goal.read_application-expand-requires
read_application-expand-requires t c =
    let a = c.args in
    let text = whole_text a.reader.now in
    let Γ = typing_by a.reader.now a.scope.now in
    let h = head_of c.in-Some.head in
    let found = c.in-Some-2.found in
    let domains = rename_context (next_by found.raise) found.binders.now in
    let args = rename_spine (lifted_by (length found.binders.now) (next_by found.raise)) found.args.now in
    let arguments = arguments_of (tree_of a.tree.now) [] in
    let terms = c.in-Ok-read_arguments.terms in
    let known = subst₂ (λ o ms. seen_type o ≡ typing_at a.reader.now.sig.now ms a.scope.now h) c.in-Some-2.is c.requires.closed c.in_ok-found.ensures in
    let shaped = c.requires.known.founded.shaped in
    let whole = ShapedContext-pis domains (family found.family args) (ShapedTyping-head (kinds_in a.reader.now.sig.now) Γ shaped h (pis domains (family found.family args)) (seen Γ h found known)) in
    let typed = arguments_typed c.requires.known.founded
    (shaped_take (kind_shapes_in a.reader.now.sig.now) (shapes_of Γ) domains (length arguments) whole) c.in-Ok-read_arguments.ensures.read in
    (shapes_of Γ, arrows (shapes_of_types (take (length arguments) domains)) base, ShapedSpine-TypedSpine typed)

pub read_application-returns-clause-read : goal.read_application-returns-clause-read
read_application-returns-clause-read t c =
    let a = c.args in
    let text = whole_text a.reader.now in
    let Γ = typing_by a.reader.now a.scope.now in
    let h = head_of c.in-Some.head in
    let found = c.in-Some-2.found in
    let domains = rename_context (next_by found.raise) found.binders.now in
    let args = rename_spine (lifted_by (length found.binders.now) (next_by found.raise)) found.args.now in
    let arguments = arguments_of (tree_of a.tree.now) [] in
    let terms = c.in-Ok-read_arguments.terms in
    let made = type_of c.in_ok-made-in-Ok-read_arguments.made in
    let resolved = ap (names.named_head a.reader.now.sig.now a.names.now) (sym c.text.ensures) ∙ sym c.head_named.ensures ∙ ap (option_map head_of) c.in-Some.is in
    let known = subst₂ (λ o ms. seen_type o ≡ typing_at a.reader.now.sig.now ms a.scope.now h) c.in-Some-2.is c.requires.closed c.in_ok-found.ensures in
    let count = c.in-Ok-read_arguments.ensures.count in
    let result = subst (λ n. SubstitutedType (putting (spine_of terms.items) found.raise 0) (left_of found n) made) count
    (subst (λ xs. SubstitutedType (putting (spine_of xs) found.raise 0) (left_of found (length xs)) made) c.as_slice-in-Ok-read_arguments.ensures.value c.in_ok-made-in-Ok-read_arguments.ensures) in
    application_read domains found.family args c.requires.base resolved (seen Γ h found known) c.in-Ok-read_arguments.ensures.read
    (result_seen found (spine_of terms.items) (length arguments) made (omega (arith, c.in_default-argument.ensures, c.len.ensures)) (args_count-spine_of terms.items ∙ count) result)
    (c.same_ty.ensures.0 c.if-not-same_ty.false) c.in_ok-expand-in-Ok-read_arguments.ensures

pub read_arguments-loop-i-init : goal.read_arguments-loop-i-init
read_arguments-loop-i-init t c =
    let a = c.args in
    let none : c.new-terms.result.items ≡ [] = search rules in record {
      count = ap length none;
      within = omega arith;
      read = subst (λ xs. ReadsArguments (whole_text a.reader.now) a.reader.now.sig.now a.names.now (typing_by a.reader.now a.scope.now) stays [] [] (spine_of xs)) (sym none) (reads_none a.names.now (typing_by a.reader.now a.scope.now) stays);
      names = refl;
    }

pub read_arguments-returns-in-Err-clause-read : goal.read_arguments-returns-in-Err-clause-read
read_arguments-returns-in-Err-clause-read t c =
    let a = c.args in
    let i = c.loop-i.invariant in
    arguments_read (arguments_of (tree_of a.tree.now) []) a.head_type.now.raise c.loop-i.i c.as_slice-types.result.now a.head_type.now.binders.now
    (omega (arith, c.in-Err.ensures, i.within)) c.as_slice-types.ensures i.read

pub read_arguments-slice_bounds-put_type-end : goal.read_arguments-slice_bounds-put_type-end
read_arguments-slice_bounds-put_type-end t c =
    let a = c.args in
    let lengths = shapes_and_types c.as_slice-shapes.result.now c.as_slice-types.result.now a.shapes.now a.head_type.now.binders.now c.as_slice-shapes.ensures c.as_slice-types.ensures c.requires.shapes in
    sym (length-take-le c.loop-i.i c.as_slice-shapes.result.now (omega (arith, lengths, c.loop-i-test.true)))

pub read_arguments-put_type-requires : goal.read_arguments-put_type-requires
read_arguments-put_type-requires t c =
    let a = c.args in
    let i = c.loop-i.invariant in
    let Γ = typing_by a.reader.now a.scope.now in
    let terms = c.loop-i.terms.items in
    let types = c.as_slice-types.result.now in
    let ss = c.as_slice-shapes.result.now in
    let ty = c.index-types-i.result in
    let shapes = shapes_of_read ss types a.shapes.now a.head_type.now.binders.now c.as_slice-shapes.ensures c.as_slice-types.ensures c.requires.shapes in
    let typed = typed_before (arguments_of (tree_of a.tree.now) []) a.head_type.now.raise c.loop-i.i types a.head_type.now.binders.now terms c.requires.known.founded c.as_slice-types.ensures c.requires.domains.seen i.count i.read in
    subst (λ xs. Puts (spine_of xs) (simple_types_of (take c.loop-i.i ss)) a.head_type.now.raise 0 (TypeShaped (type_of ty))) (take_all c.loop-i.i terms (omega (arith, i.count)) ∙ sym c.as_slice.ensures.value)
    (puts_binder (kind_shapes_in a.reader.now.sig.now) Γ a.head_type.now.raise terms types ss c.loop-i.i ty c.loop-i-test.true c.index-types-i.is shapes
    (subst (ShapedContext (kind_shapes_in a.reader.now.sig.now) (binders_scope Γ a.head_type.now.raise)) (sym c.as_slice-types.ensures) c.requires.domains.declared) typed)

pub read_arguments-read_term-requires : goal.read_arguments-read_term-requires
read_arguments-read_term-requires t c =
    let a = c.args in
    let i = c.loop-i.invariant in
    let Γ = typing_by a.reader.now a.scope.now in
    let terms = c.loop-i.terms.items in
    let types = c.as_slice-types.result.now in
    let ss = c.as_slice-shapes.result.now in
    let ty = c.index-types-i.result in
    let wanted = type_of c.in_ok-ty-in-Ok.ty in
    let shapes = shapes_of_read ss types a.shapes.now a.head_type.now.binders.now c.as_slice-shapes.ensures c.as_slice-types.ensures c.requires.shapes in
    let typed = typed_before (arguments_of (tree_of a.tree.now) []) a.head_type.now.raise c.loop-i.i types a.head_type.now.binders.now terms c.requires.known.founded c.as_slice-types.ensures c.requires.domains.seen i.count i.read in
    let result = subst (λ xs. SubstitutedType (putting (spine_of xs) a.head_type.now.raise 0) (type_of ty) wanted) (c.as_slice.ensures.value ∙ sym (take_all c.loop-i.i terms (omega (arith, i.count)))) c.in_ok-ty-in-Ok.ensures.result in (
      omega (arith, c.decreases, argument_size (tree_of a.tree.now) c.loop-i.i (tree_of c.in-Ok.found.now) c.in-Ok.ensures),
      (
        c.requires.closed,
        (
          subst (KnownAt a.reader.now.sig.now Γ) (sym i.names) c.requires.known,
          binder_expected (kind_shapes_in a.reader.now.sig.now) Γ a.head_type.now.raise terms types ss c.loop-i.i ty wanted c.loop-i-test.true c.index-types-i.is shapes
              (subst (ShapedContext (kind_shapes_in a.reader.now.sig.now) (binders_scope Γ a.head_type.now.raise)) (sym c.as_slice-types.ensures) c.requires.domains.declared) typed result,
        ),
      ),
    )

pub read_arguments-returns-in-Err-read_term-clause-refused : goal.read_arguments-returns-in-Err-read_term-clause-refused
read_arguments-returns-in-Err-read_term-clause-refused t c =
    let a = c.args in
    let i = c.loop-i.invariant in
    let text = whole_text a.reader.now in
    let Γ = typing_by a.reader.now a.scope.now in
    let terms = c.loop-i.terms.items in
    let types = c.as_slice-types.result.now in
    let ty = c.index-types-i.result in
    let wanted = type_of c.in_ok-ty-in-Ok.ty in
    let tree = tree_of c.in-Ok.found.now in
    let arguments = arguments_of (tree_of a.tree.now) [] in
    let result = subst (λ xs. SubstitutedType (putting (spine_of xs) a.head_type.now.raise 0) (type_of ty) wanted) c.as_slice.ensures.value c.in_ok-ty-in-Ok.ensures.result in
    IsRefusal-map (RefusesTerm text a.reader.now.sig.now c.loop-i.names Γ tree wanted) (RefusesArguments text a.reader.now.sig.now a.names.now Γ stays arguments (rename_context (next_by a.head_type.now.raise) a.head_type.now.binders.now))
    (λ fault p. argument_refused arguments a.head_type.now.raise c.loop-i.i types terms ty c.loop-i-test.true c.index-types-i.is c.in-Ok.ensures i.count result i.read a.head_type.now.binders.now c.as_slice-types.ensures fault
    (subst (λ b. RefusesTerm text a.reader.now.sig.now b Γ tree wanted fault) i.names p))
    c.in-Err-read_term.fault c.in-Err-read_term.ensures.refused

pub read_arguments-loop-i-preserved : goal.read_arguments-loop-i-preserved
read_arguments-loop-i-preserved t c =
    let a = c.args in
    let i = c.loop-i.invariant in
    let text = whole_text a.reader.now in
    let Γ = typing_by a.reader.now a.scope.now in
    let terms = c.loop-i.terms.items in
    let types = c.as_slice-types.result.now in
    let ty = c.index-types-i.result in
    let wanted = type_of c.in_ok-ty-in-Ok.ty in
    let tree = tree_of c.in-Ok.found.now in
    let term = c.in-Ok-read_term.term in
    let arguments = arguments_of (tree_of a.tree.now) [] in
    let result = subst (λ xs. SubstitutedType (putting (spine_of xs) a.head_type.now.raise 0) (type_of ty) wanted) c.as_slice.ensures.value c.in_ok-ty-in-Ok.ensures.result in
    let pushed = c.in_ok-push-in-Ok-read_term.ensures.items in record {
      count = ap length pushed ∙ length-append terms (term ∷ []) ∙ ap (λ n. n + 1) i.count;
      within = omega (arith, slice_get_within arguments c.loop-i.i tree c.in-Ok.ensures);
      read = argument_read arguments a.head_type.now.raise c.loop-i.i types terms ty c.loop-i-test.true c.index-types-i.is c.in-Ok.ensures i.count result i.read term c.push.new.self.items pushed
          (subst (λ b. ReadsTerm text a.reader.now.sig.now b Γ tree wanted (term_of term)) i.names c.in-Ok-read_term.ensures.read);
      names = c.in-Ok-read_term.ensures.names ∙ i.names;
    }

pub read_arguments-returns-clause-read : goal.read_arguments-returns-clause-read
read_arguments-returns-clause-read t c =
    let a = c.args in
    let i = c.loop-i.invariant in
    let count : length a.head_type.now.binders.now ≡ length c.as_slice-types.result.now = ap length (sym c.as_slice-types.ensures) ∙ length-types_of c.as_slice-types.result.now in
    arguments_read (arguments_of (tree_of a.tree.now) []) a.head_type.now.raise c.loop-i.i c.as_slice-types.result.now a.head_type.now.binders.now
    (omega (arith, c.loop-i-test.false, i.within, count, c.requires.few)) c.as_slice-types.ensures i.read

pub read_arguments-returns-clause-count : goal.read_arguments-returns-clause-count
read_arguments-returns-clause-count t c =
    let a = c.args in
    let i = c.loop-i.invariant in
    let count : length a.head_type.now.binders.now ≡ length c.as_slice-types.result.now = ap length (sym c.as_slice-types.ensures) ∙ length-types_of c.as_slice-types.result.now in
    omega (arith, i.count, c.loop-i-test.false, i.within, count, c.requires.few)
