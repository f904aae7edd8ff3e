use Rattle.std.proofs.Common.{◌≡◌, ℕ, List, Result, Ok, Err, IfOk, subst}
use Rattle.file_trees.specs.declared.decl_tree.DeclTree.{DeclTree}
use Rattle.elab_terms.specs.declared.elab_fault.ElabFault.{ElabFault}
use Rattle.file_elab.specs.declared.program.Program.{Program}
use Rattle.file_elab.specs.GrammarNames.{HasGrammarNames}
use Rattle.file_elab.specs.Programs.{IsParsedFrom, IsProgram}
use Rattle.file_elab.specs.ProgramViews.{program_of}
use Rattle.file_elab.proofs.ProgramNames.{program_named}
use Rattle.file_elab.proofs.elaborating.elaborate.Goals as goal

names_hold : (bytes : List ℕ) (items declarations : List DeclTree) (result : Result Program ElabFault) → items ≡ declarations → IsParsedFrom bytes declarations →
    IfOk result (λ program. IsProgram bytes items (program_of program)) → IfOk result (λ program. HasGrammarNames (program_of program))
names_hold bytes items declarations (Ok program) same parsed is =
    program_named bytes declarations (program_of program) parsed (subst (λ l. IsProgram bytes l (program_of program)) same is)
names_hold bytes items declarations (Err fault) same parsed is = tt

pub returns-clause-names : goal.returns-clause-names
returns-clause-names c =
    names_hold c.args.bytes.now c.as_slice.result.now c.args.tree.now.decls c.declared.result c.as_slice.ensures c.requires c.declared.ensures.program

pub returns-clause-program : goal.returns-clause-program
returns-clause-program c =
    let P : List DeclTree → Type 0 = λ declarations. IfOk c.declared.result (λ program. IsProgram c.args.bytes.now declarations (program_of program)) in
    subst P c.as_slice.ensures c.declared.ensures.program
