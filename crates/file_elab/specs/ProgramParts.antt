-- Programs by their parts.
use Rattle.std.specs.Prelude.{List}
use Rattle.lf_definitions.specs.Signatures.{LfSignature}
use Rattle.rule_sets.specs.Books.{Book}
use Rattle.file_trees.specs.declared.decl_tree.DeclTree.{DeclTree}
use Rattle.elab_terms.specs.Names.{Text}
use Rattle.file_elab.specs.Theorems.{LfTheorem}
use Rattle.file_elab.specs.Programs.{LfProgram, Declares, Refuses}
use Rattle.elab_terms.specs.declared.elab_fault.ElabFault.{ElabFault}

abbrev pub program_with : LfSignature → Book → List LfTheorem → LfProgram
program_with sig book theorems = record { signature = sig; book = book; theorems = theorems }

-- A declaration of a family or a constant makes one signature of another, whatever the rules and the theorems are.
abbrev pub DeclaresSymbol : Text → LfSignature → DeclTree → LfSignature → Type 0
DeclaresSymbol text old declaration new = (book : Book) (theorems : List LfTheorem) → Declares text (program_with old book theorems) declaration (program_with new book theorems)

abbrev pub RefusesSymbol : Text → LfSignature → DeclTree → ElabFault → Type 0
RefusesSymbol text old declaration fault = (book : Book) (theorems : List LfTheorem) → Refuses text (program_with old book theorems) declaration fault

-- A declaration of a rule or of constructors makes one book of another, whatever the theorems are.
abbrev pub DeclaresInBook : Text → LfSignature → Book → DeclTree → Book → Type 0
DeclaresInBook text sig old declaration new = (theorems : List LfTheorem) → Declares text (program_with sig old theorems) declaration (program_with sig new theorems)

abbrev pub RefusesInBook : Text → LfSignature → Book → DeclTree → ElabFault → Type 0
RefusesInBook text sig old declaration fault = (theorems : List LfTheorem) → Refuses text (program_with sig old theorems) declaration fault

-- A declaration of a theorem adds one to the theorems, whatever the rules are.
abbrev pub DeclaresTheorem : Text → LfSignature → List LfTheorem → DeclTree → List LfTheorem → Type 0
DeclaresTheorem text sig old declaration new = (book : Book) → Declares text (program_with sig book old) declaration (program_with sig book new)

abbrev pub RefusesTheorem : Text → LfSignature → List LfTheorem → DeclTree → ElabFault → Type 0
RefusesTheorem text sig old declaration fault = (book : Book) → Refuses text (program_with sig book old) declaration fault
