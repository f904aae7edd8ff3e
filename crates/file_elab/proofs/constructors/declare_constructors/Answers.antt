use Rattle.std.proofs.Common.{List, ℕ, Err, Ok, map, sym, ap, ◌∙◌, subst}
use Rattle.file_trees.specs.declared.span.Span.{Span}
use Rattle.file_trees.specs.declared.decl_tree.DeclTree.TheVariants as declarations
use Rattle.lf_definitions.specs.Signatures.{family_names}
use Rattle.basics.specs.Places.{place_of}
use Rattle.rule_sets.specs.Refusals.{AddsList}
use Rattle.rule_sets.proofs.Over.{list_keeps_over}
use Rattle.elab_terms.specs.KnownTypes.{IsRefusal}
use Rattle.file_elab.specs.ProgramParts.{RefusesInBook}
use Rattle.file_elab.specs.Programs.{refuses_listed_family}
use Rattle.file_elab.specs.Constructors.{number_in, HasPlaceIn, list_refused_as}
use Rattle.file_elab.proofs.ConstructorLists.{book_kept, family_within, adds_place_in, list_declared, list_refused}
use Rattle.file_elab.proofs.constructors.declare_constructors.Goals as goal

pub returns-in_default-clause-refused : goal.returns-in_default-clause-refused
returns-in_default-clause-refused c = λ theorems.
    refuses_listed_family c.args.name c.args.spans.now (ap (place_of (family_names c.args.sig.now)) (sym c.text.ensures) ∙ sym c.family_named.ensures ∙ c.in_default.is)

pub add_ctors-requires : goal.add_ctors-requires
add_ctors-requires c = family_within c.args.sig.now c.text.result.now c.in-Some.family (sym c.family_named.ensures ∙ c.in-Some.is)

pub returns-in-Ok-clause-declared : goal.returns-in-Ok-clause-declared
returns-in-Ok-clause-declared c =
    let a = c.args in
    let text = a.source.now in
    let P : List ℕ → Type 0 = λ numbers. AddsList a.sig.now a.book.now c.in-Some.family numbers (Ok tt) c.add_ctors.new.self in
    list_declared text a.sig.now a.book.now a.name a.spans.now c.in-Some.family (ap (place_of (family_names a.sig.now)) (sym c.text.ensures) ∙ sym c.family_named.ensures ∙ c.in-Some.is)
    c.add_ctors.new.self (subst P (c.in_ok-constants.ensures ∙ ap (map (number_in text a.sig.now)) c.as_slice.ensures) c.in-Ok.ensures)

pub returns-in-Ok-clause-over : goal.returns-in-Ok-clause-over
returns-in-Ok-clause-over c = λ over.
    let a = c.args in
    list_keeps_over a.sig.now a.book.now c.add_ctors.new.self c.in-Some.family c.in_ok-constants.constants (Ok tt)
    (family_within a.sig.now c.text.result.now c.in-Some.family (sym c.family_named.ensures ∙ c.in-Some.is)) over c.in-Ok.ensures

pub placed-requires : goal.placed-requires
placed-requires c =
    let a = c.args in
    let text = a.source.now in
    let P : List ℕ → Type 0 = λ numbers. AddsList a.sig.now a.book.now c.in-Some.family numbers (Err c.in-Err.fault) c.add_ctors.new.self in
    let Q : List Span → Type 0 = λ spans. HasPlaceIn spans c.in-Err.fault in
    subst Q (sym c.as_slice-in-Err.ensures)
    (adds_place_in text a.sig.now a.book.now a.name a.spans.now c.in-Some.family (ap (place_of (family_names a.sig.now)) (sym c.text.ensures) ∙ sym c.family_named.ensures ∙ c.in-Some.is)
    c.add_ctors.new.self c.in-Err.fault (subst P (c.in_ok-constants.ensures ∙ ap (map (number_in text a.sig.now)) c.as_slice.ensures) c.in-Err.ensures))

pub returns-in-Err-clause-refused : goal.returns-in-Err-clause-refused
returns-in-Err-clause-refused c =
    let a = c.args in
    let text = a.source.now in
    let P : List ℕ → Type 0 = λ numbers. AddsList a.sig.now a.book.now c.in-Some.family numbers (Err c.in-Err.fault) c.add_ctors.new.self in
    subst (IsRefusal (RefusesInBook text a.sig.now a.book.now (declarations.Ctors a.name a.spans.now)))
    (ap (λ spans. list_refused_as text a.sig.now a.name spans c.in-Err.fault) (sym c.as_slice-in-Err.ensures) ∙ sym c.placed.ensures)
    (list_refused text a.sig.now a.book.now a.name a.spans.now c.in-Some.family (ap (place_of (family_names a.sig.now)) (sym c.text.ensures) ∙ sym c.family_named.ensures ∙ c.in-Some.is)
    c.add_ctors.new.self c.in-Err.fault (subst P (c.in_ok-constants.ensures ∙ ap (map (number_in text a.sig.now)) c.as_slice.ensures) c.in-Err.ensures))

pub returns-in-Err-clause-err : goal.returns-in-Err-clause-err
returns-in-Err-clause-err c =
    book_kept c.args.sig.now c.args.book.now c.add_ctors.new.self c.in-Some.family c.in_ok-constants.constants c.in-Err.fault c.in-Err.ensures
