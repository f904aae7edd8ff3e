use Rattle.std.proofs.Common.{[], ◌∷◌, ◌++◌, sym, ap, ◌∙◌, subst}
use Rattle.lf_definitions.specs.Signatures.{family_entry, names_of, typing_in}
use Rattle.basics.specs.Places.{place_of}
use Rattle.basics.proofs.NamePlaces.{place_absent}
use Rattle.file_trees.specs.declared.decl_tree.DeclTree.TheVariants as declarations
use Rattle.file_elab.specs.ProgramParts.{program_with, RefusesSymbol}
use Rattle.basics.specs.Limits.{most_symbols}
use Rattle.file_elab.specs.Programs.{RefusesName, Declares, declares_family, refuses_family_name, refuses_family_kind}
use Rattle.elab_terms.specs.Types.{RefusesKind}
use Rattle.elab_terms.proofs.Reading.{IsRefusal-map}
use Rattle.file_elab.proofs.symbols.declare_family.Goals as goal

pub push_family-requires-clause-is_new : goal.push_family-requires-clause-is_new
push_family-requires-clause-is_new c =
    let names = names_of c.args.sig.now in
    place_absent c.in-Ok.word names (ap (place_of names) c.in-Ok.ensures.name ∙ c.in-Ok.ensures.new.new)

pub returns-in-Err-clause-refused : goal.returns-in-Err-clause-refused
returns-in-Err-clause-refused c =
    let a = c.args in
    let text = a.source.now in
    IsRefusal-map (RefusesName (names_of a.sig.now) most_symbols text a.name) (RefusesSymbol text a.sig.now (declarations.Family a.name a.tree.now))
    (λ fault p book theorems. refuses_family_name a.name a.tree.now fault p) c.in-Err.fault c.in-Err.ensures.refused

pub returns-in-Err-closed_kind-clause-refused : goal.returns-in-Err-closed_kind-clause-refused
returns-in-Err-closed_kind-clause-refused c =
    let a = c.args in
    let text = a.source.now in
    IsRefusal-map (RefusesKind text a.sig.now [] (typing_in a.sig.now [] []) a.tree.now) (RefusesSymbol text a.sig.now (declarations.Family a.name a.tree.now))
    (λ fault p book theorems. refuses_family_kind a.name a.tree.now fault c.in-Ok.ensures.new p) c.in-Err-closed_kind.fault c.in-Err-closed_kind.ensures.refused

pub returns-in-Ok-push_family-clause-declared : goal.returns-in-Ok-push_family-clause-declared
returns-in-Ok-push_family-clause-declared c = λ book theorems.
    let a = c.args in
    let text = a.source.now in
    let old = a.sig.now in
    subst (λ s. Declares text (program_with old book theorems) (declarations.Family a.name a.tree.now) (program_with s book theorems))
    (sym (c.in-Ok-push_family.ensures.ok ∙ ap (λ w. old ++ family_entry w c.in-Ok-closed_kind.kind.binders ∷ []) c.in-Ok.ensures.name))
    (declares_family a.name a.tree.now c.in-Ok-closed_kind.kind.binders c.in-Ok.ensures.new c.in-Ok-closed_kind.ensures.read)
