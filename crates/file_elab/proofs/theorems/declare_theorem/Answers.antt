use Rattle.std.proofs.Common.{[], ◌∷◌, ◌++◌, sym, ap, ◌∙◌, subst, map}
use Rattle.std.proofs.lemmas.List.Elements.{All-push}
use Rattle.lf_definitions.specs.Signatures.{kinds_in, typing_in}
use Rattle.lf_definitions.specs.Typing.{Formed}
use Rattle.lf_terms.specs.Types.{type_of}
use Rattle.file_trees.specs.declared.decl_tree.DeclTree.TheVariants as declarations
use Rattle.elab_terms.specs.Types.{RefusesType}
use Rattle.elab_terms.proofs.Reading.{IsRefusal-map}
use Rattle.file_elab.specs.Theorems.{LfTheorem, AreFormed}
use Rattle.file_elab.specs.ProgramParts.{program_with, RefusesTheorem}
use Rattle.basics.specs.Limits.{most_theorems}
use Rattle.file_elab.specs.Programs.{RefusesName, Declares, declares_theorem, refuses_theorem_name, refuses_theorem_type}
use Rattle.file_elab.proofs.theorems.declare_theorem.Goals as goal

pub returns-in-Err-clause-refused : goal.returns-in-Err-clause-refused
returns-in-Err-clause-refused c =
    let a = c.args in
    let text = a.source.now in
    IsRefusal-map (RefusesName (map (λ (theorem : LfTheorem). theorem.name) a.theorems.now) most_theorems text a.tree.now.name) (RefusesTheorem text a.sig.now a.theorems.now (declarations.Theorem a.tree.now))
    (λ fault p book. refuses_theorem_name a.tree.now fault p) c.in-Err.fault c.in-Err.ensures.refused

pub returns-in-Err-closed_type-clause-refused : goal.returns-in-Err-closed_type-clause-refused
returns-in-Err-closed_type-clause-refused c =
    let a = c.args in
    let text = a.source.now in
    IsRefusal-map (RefusesType text a.sig.now [] (typing_in a.sig.now [] []) 0 a.tree.now.statement) (RefusesTheorem text a.sig.now a.theorems.now (declarations.Theorem a.tree.now))
    (λ fault p book. refuses_theorem_type a.tree.now fault c.in-Ok.ensures.new p) c.in-Err-closed_type.fault c.in-Err-closed_type.ensures.refused

pub returns-in-Ok-push-clause-declared : goal.returns-in-Ok-push-clause-declared
returns-in-Ok-push-clause-declared c = λ book.
    let a = c.args in
    let text = a.source.now in
    let old = a.theorems.now in
    let type = type_of c.in-Ok-closed_type.ty in
    subst (λ theorems. Declares text (program_with a.sig.now book old) (declarations.Theorem a.tree.now) (program_with a.sig.now book theorems))
    (sym (c.in-Ok-push.ensures.ok ∙ ap (λ w. old ++ record { name = w; type = type } ∷ []) c.in-Ok.ensures.name))
    (declares_theorem a.tree.now type c.in-Ok.ensures.new c.in-Ok-closed_type.ensures.read)

pub returns-in-Ok-push-clause-formed : goal.returns-in-Ok-push-clause-formed
returns-in-Ok-push-clause-formed c = λ formed.
    let sig = c.args.sig.now in
    let old = c.args.theorems.now in
    let theorem : LfTheorem = record { name = c.in-Ok.word; type = type_of c.in-Ok-closed_type.ty } in
    subst (AreFormed sig) (sym c.in-Ok-push.ensures.ok)
    (All-push (λ (theorem : LfTheorem). Formed (kinds_in sig) (typing_in sig [] []) theorem.type) old theorem formed c.in-Ok-closed_type.ensures.formed)
