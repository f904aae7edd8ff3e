use Rattle.std.proofs.Common.{[], ◌∷◌, ◌++◌, sym, ap, ◌∙◌, subst}
use Rattle.lf_definitions.specs.Signatures.{constant_entry, names_of, typing_in}
use Rattle.basics.specs.Places.{place_of}
use Rattle.lf_terms.specs.Types.{type_of}
use Rattle.basics.proofs.NamePlaces.{place_absent}
use Rattle.file_trees.specs.declared.decl_tree.DeclTree.TheVariants as declarations
use Rattle.file_elab.specs.ProgramParts.{program_with, RefusesSymbol}
use Rattle.basics.specs.Limits.{most_symbols}
use Rattle.file_elab.specs.Programs.{RefusesName, Declares, declares_constant, refuses_constant_name, refuses_constant_type}
use Rattle.elab_terms.specs.Types.{RefusesType}
use Rattle.elab_terms.proofs.Reading.{IsRefusal-map}
use Rattle.file_elab.proofs.symbols.declare_constant.Goals as goal

pub push_const-requires-clause-is_new : goal.push_const-requires-clause-is_new
push_const-requires-clause-is_new c =
    let names = names_of c.args.sig.now in
    place_absent c.in-Ok.word names (ap (place_of names) c.in-Ok.ensures.name ∙ c.in-Ok.ensures.new.new)

pub returns-in-Err-clause-refused : goal.returns-in-Err-clause-refused
returns-in-Err-clause-refused c =
    let a = c.args in
    let text = a.source.now in
    IsRefusal-map (RefusesName (names_of a.sig.now) most_symbols text a.name) (RefusesSymbol text a.sig.now (declarations.Const a.name a.tree.now))
    (λ fault p book theorems. refuses_constant_name a.name a.tree.now fault p) c.in-Err.fault c.in-Err.ensures.refused

pub returns-in-Err-closed_type-clause-refused : goal.returns-in-Err-closed_type-clause-refused
returns-in-Err-closed_type-clause-refused c =
    let a = c.args in
    let text = a.source.now in
    IsRefusal-map (RefusesType text a.sig.now [] (typing_in a.sig.now [] []) 0 a.tree.now) (RefusesSymbol text a.sig.now (declarations.Const a.name a.tree.now))
    (λ fault p book theorems. refuses_constant_type a.name a.tree.now fault c.in-Ok.ensures.new p) c.in-Err-closed_type.fault c.in-Err-closed_type.ensures.refused

pub returns-in-Ok-push_const-clause-declared : goal.returns-in-Ok-push_const-clause-declared
returns-in-Ok-push_const-clause-declared c = λ book theorems.
    let a = c.args in
    let text = a.source.now in
    let old = a.sig.now in
    subst (λ s. Declares text (program_with old book theorems) (declarations.Const a.name a.tree.now) (program_with s book theorems))
    (sym (c.in-Ok-push_const.ensures.ok ∙ ap (λ w. old ++ constant_entry w (type_of c.in-Ok-closed_type.ty) ∷ []) c.in-Ok.ensures.name))
    (declares_constant a.name a.tree.now (type_of c.in-Ok-closed_type.ty) c.in-Ok.ensures.new c.in-Ok-closed_type.ensures.read)
