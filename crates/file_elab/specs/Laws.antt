-- Laws of programs.
use Rattle.std.specs.Prelude.{◌≡◌, ℕ, List}
use Rattle.file_trees.specs.declared.decl_tree.DeclTree.{DeclTree}
use Rattle.elab_terms.specs.declared.elab_fault.ElabFault.{ElabFault}
use Rattle.file_elab.specs.Programs.{LfProgram, IsParsedFrom, IsProgram, IsRefused}
use Rattle.file_elab.specs.GrammarNames.{HasGrammarNames}

-- A file has one program at most, it is refused for no fault where it has one, and for one fault at most.
abbrev pub AFileHasOneProgram : Type 0
AFileHasOneProgram =
    (bytes : List ℕ) (declarations : List DeclTree) →
    ((program other : LfProgram) → IsProgram bytes declarations program → IsProgram bytes declarations other → program ≡ other)
    × ((program : LfProgram) (fault : ElabFault) → IsProgram bytes declarations program → IsRefused bytes declarations fault → ⊥)
    × ((fault other : ElabFault) → IsRefused bytes declarations fault → IsRefused bytes declarations other → fault ≡ other)

-- The names of the program of a file are names of the grammar.
abbrev pub ProgramsHaveGrammarNames : Type 0
ProgramsHaveGrammarNames =
    (bytes : List ℕ) (declarations : List DeclTree) (program : LfProgram) →
    IsParsedFrom bytes declarations → IsProgram bytes declarations program → HasGrammarNames program
