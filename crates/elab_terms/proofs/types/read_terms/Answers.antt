use Rattle.std.proofs.Common.{◌≡◌, ◌∷◌, ◌+◌, [], arith, refl, sym, ap, ◌∙◌, subst, length, take, take_all, length-append}
use Rattle.std.proofs.lemmas.List.{length-take-le}
use Rattle.lf_definitions.specs.Substitution.{stays, SubstitutedType}
use Rattle.lf_definitions.specs.ShapedGoals.{ShapedContext, kind_shapes_in}
use Rattle.lf_terms.specs.Putting.{putting, Puts, TypeShaped}
use Rattle.lf_terms.specs.Terms.{term_of, spine_of}
use Rattle.lf_terms.specs.Shapes.{simple_types_of}
use Rattle.lf_terms.specs.Types.{type_of}
use Rattle.lf_terms.proofs.TypeLists.{length-types_of}
use Rattle.lf_kernel.specs.ShapedPlaces.{binders_scope}
use Rattle.lf_kernel.proofs.Expected.{shapes_and_types, shapes_of_read, puts_binder, binder_expected}
use Rattle.file_trees.specs.TermViews.{tree_of, trees_of}
use Rattle.elab_terms.specs.KnownTypes.{KnownAt}
use Rattle.elab_terms.specs.Readers.{whole_text, typing_by}
use Rattle.elab_terms.specs.Terms.{ReadsTerm, ReadsArguments, reads_none, RefusesTerm, RefusesArguments}
use Rattle.elab_terms.proofs.Applications.{length-trees_of, slice_get-trees_of}
use Rattle.elab_terms.proofs.Applying.{typed_before, argument_read, argument_refused, arguments_read}
use Rattle.elab_terms.proofs.Families.{not_raised}
use Rattle.elab_terms.proofs.Reading.{IsRefusal-map}
use Rattle.elab_terms.proofs.types.read_terms.Goals as goal

pub loop-i-init : goal.loop-i-init
loop-i-init c =
    let a = c.args in
    let none : c.new-terms.result.items ≡ [] = c.new-terms.ensures.items in record {
      count = ap length none;
      read = subst (λ xs. ReadsArguments (whole_text a.reader.now) a.reader.now.sig.now a.names.now (typing_by a.reader.now a.scope.now) stays [] [] (spine_of xs)) (sym none) (reads_none a.names.now (typing_by a.reader.now a.scope.now) stays);
      names = refl;
    }

pub slice_bounds-put_type-end : goal.slice_bounds-put_type-end
slice_bounds-put_type-end c =
    let a = c.args in
    let lengths = shapes_and_types c.as_slice-shapes.result.now c.as_slice-types.result.now a.shapes.now a.binders.now c.as_slice-shapes.ensures c.as_slice-types.ensures c.requires.shapes in
    sym (length-take-le c.loop-i.i c.as_slice-shapes.result.now (omega (arith, lengths, c.loop-i-test.true)))

pub put_type-requires : goal.put_type-requires
put_type-requires c =
    let a = c.args in
    let i = c.loop-i.invariant in
    let Γ = typing_by a.reader.now a.scope.now in
    let terms = c.loop-i.terms.items in
    let types = c.as_slice-types.result.now in
    let ss = c.as_slice-shapes.result.now in
    let ty = c.index-types-i.result in
    let shapes = shapes_of_read ss types a.shapes.now a.binders.now c.as_slice-shapes.ensures c.as_slice-types.ensures c.requires.shapes in
    let typed = typed_before (trees_of a.items.now) 0 c.loop-i.i types a.binders.now terms c.requires.known.founded c.as_slice-types.ensures c.requires.domains.seen i.count i.read in
    subst (λ xs. Puts (spine_of xs) (simple_types_of (take c.loop-i.i ss)) 0 0 (TypeShaped (type_of ty))) (take_all c.loop-i.i terms (omega (arith, i.count)) ∙ sym c.as_slice.ensures.value)
    (puts_binder (kind_shapes_in a.reader.now.sig.now) Γ 0 terms types ss c.loop-i.i ty c.loop-i-test.true c.index-types-i.is shapes
    (subst (ShapedContext (kind_shapes_in a.reader.now.sig.now) (binders_scope Γ 0)) (sym c.as_slice-types.ensures) c.requires.domains.declared) typed)

pub bounds-items-i : goal.bounds-items-i
bounds-items-i c =
    let count : length c.args.binders.now ≡ length c.as_slice-types.result.now = ap length (sym c.as_slice-types.ensures) ∙ length-types_of c.as_slice-types.result.now in
    omega (arith, c.requires.count, count, c.loop-i-test.true)

pub read_term-requires : goal.read_term-requires
read_term-requires c =
    let a = c.args in
    let i = c.loop-i.invariant in
    let Γ = typing_by a.reader.now a.scope.now in
    let terms = c.loop-i.terms.items in
    let types = c.as_slice-types.result.now in
    let ss = c.as_slice-shapes.result.now in
    let ty = c.index-types-i.result in
    let wanted = type_of c.in_ok-ty.ty in
    let shapes = shapes_of_read ss types a.shapes.now a.binders.now c.as_slice-shapes.ensures c.as_slice-types.ensures c.requires.shapes in
    let typed = typed_before (trees_of a.items.now) 0 c.loop-i.i types a.binders.now terms c.requires.known.founded c.as_slice-types.ensures c.requires.domains.seen i.count i.read in
    let result = subst (λ xs. SubstitutedType (putting (spine_of xs) 0 0) (type_of ty) wanted) (c.as_slice.ensures.value ∙ sym (take_all c.loop-i.i terms (omega (arith, i.count)))) c.in_ok-ty.ensures.result in record {
      closed = c.requires.closed;
      known = subst (KnownAt a.reader.now.sig.now Γ) (sym i.names) c.requires.known;
      wanted = binder_expected (kind_shapes_in a.reader.now.sig.now) Γ 0 terms types ss c.loop-i.i ty wanted c.loop-i-test.true c.index-types-i.is shapes
          (subst (ShapedContext (kind_shapes_in a.reader.now.sig.now) (binders_scope Γ 0)) (sym c.as_slice-types.ensures) c.requires.domains.declared) typed result;
    }

pub returns-in-Err-clause-refused : goal.returns-in-Err-clause-refused
returns-in-Err-clause-refused c =
    let a = c.args in
    let i = c.loop-i.invariant in
    let text = whole_text a.reader.now in
    let Γ = typing_by a.reader.now a.scope.now in
    let terms = c.loop-i.terms.items in
    let types = c.as_slice-types.result.now in
    let ty = c.index-types-i.result in
    let wanted = type_of c.in_ok-ty.ty in
    let item = c.index-items-i.result in
    let tree = tree_of item in
    let arguments = trees_of a.items.now in
    let count : length a.binders.now ≡ length types = ap length (sym c.as_slice-types.ensures) ∙ length-types_of types in
    let there = slice_get-trees_of a.items.now c.loop-i.i item (omega (arith, c.requires.count, count, c.loop-i-test.true)) c.index-items-i.is in
    let result = subst (λ xs. SubstitutedType (putting (spine_of xs) 0 0) (type_of ty) wanted) c.as_slice.ensures.value c.in_ok-ty.ensures.result in
    IsRefusal-map (RefusesTerm text a.reader.now.sig.now c.loop-i.names Γ tree wanted) (RefusesArguments text a.reader.now.sig.now a.names.now Γ stays arguments a.binders.now)
    (λ fault p. subst (λ ds. RefusesArguments text a.reader.now.sig.now a.names.now Γ stays arguments ds fault) (not_raised a.binders.now)
    (argument_refused arguments 0 c.loop-i.i types terms ty c.loop-i-test.true c.index-types-i.is there i.count result i.read a.binders.now c.as_slice-types.ensures fault
    (subst (λ b. RefusesTerm text a.reader.now.sig.now b Γ tree wanted fault) i.names p)))
    c.in-Err.fault c.in-Err.ensures.refused

pub loop-i-preserved : goal.loop-i-preserved
loop-i-preserved c =
    let a = c.args in
    let i = c.loop-i.invariant in
    let text = whole_text a.reader.now in
    let Γ = typing_by a.reader.now a.scope.now in
    let terms = c.loop-i.terms.items in
    let types = c.as_slice-types.result.now in
    let ty = c.index-types-i.result in
    let wanted = type_of c.in_ok-ty.ty in
    let item = c.index-items-i.result in
    let tree = tree_of item in
    let term = c.in-Ok.term in
    let arguments = trees_of a.items.now in
    let count : length a.binders.now ≡ length types = ap length (sym c.as_slice-types.ensures) ∙ length-types_of types in
    let there = slice_get-trees_of a.items.now c.loop-i.i item (omega (arith, c.requires.count, count, c.loop-i-test.true)) c.index-items-i.is in
    let result = subst (λ xs. SubstitutedType (putting (spine_of xs) 0 0) (type_of ty) wanted) c.as_slice.ensures.value c.in_ok-ty.ensures.result in
    let pushed = c.in_ok-push-in-Ok.ensures.items in record {
      count = ap length pushed ∙ length-append terms (term ∷ []) ∙ ap (λ n. n + 1) i.count;
      read = argument_read arguments 0 c.loop-i.i types terms ty c.loop-i-test.true c.index-types-i.is there i.count result i.read term c.push.new.self.items pushed
          (subst (λ b. ReadsTerm text a.reader.now.sig.now b Γ tree wanted (term_of term)) i.names c.in-Ok.ensures.read);
      names = c.in-Ok.ensures.names ∙ i.names;
    }

pub returns-clause-read : goal.returns-clause-read
returns-clause-read c =
    let a = c.args in
    let i = c.loop-i.invariant in
    let text = whole_text a.reader.now in
    let Γ = typing_by a.reader.now a.scope.now in
    let types = c.as_slice-types.result.now in
    let arguments = trees_of a.items.now in
    let count : length a.binders.now ≡ length types = ap length (sym c.as_slice-types.ensures) ∙ length-types_of types in
    let all : c.loop-i.i ≡ length arguments = omega (arith, c.loop-i-test.false, c.loop-i.auto.i-end, count, c.requires.count, length-trees_of a.items.now) in
    let read = arguments_read arguments 0 c.loop-i.i types a.binders.now all c.as_slice-types.ensures i.read in
    subst (λ ds. ReadsArguments text a.reader.now.sig.now a.names.now Γ stays arguments ds (spine_of c.loop-i.terms.items))
    (ap (take (length arguments)) (not_raised a.binders.now) ∙ take_all (length arguments) a.binders.now (omega (arith, c.requires.count, length-trees_of a.items.now))) read
