-- What there is to say of the declarations of a file: the program that they make, or why they make none.
use Rattle.std.specs.Prelude.{◌≡◌, ℕ, List}
use Rattle.file_trees.specs.declared.decl_tree.DeclTree.{DeclTree}
use Rattle.elab_terms.specs.declared.elab_fault.ElabFault.{ElabFault}
use Rattle.file_elab.specs.Programs.{LfProgram, IsProgram, IsRefused}

-- They make this program, or the first of them that is refused is so for this fault.
pub data Verdict : Type 0 where
  makes : LfProgram → Verdict
  refused_for : ElabFault → Verdict

-- The verdict is true of the declarations, with the bytes of their file.
abbrev pub IsVerdict : List ℕ → List DeclTree → Verdict → Type 0
IsVerdict bytes declarations (makes program) = IsProgram bytes declarations program
IsVerdict bytes declarations (refused_for fault) = IsRefused bytes declarations fault

-- One verdict is true of the declarations, and no other.
pub record HasOneVerdict (bytes : List ℕ) (declarations : List DeclTree) : Type 0 where
  pub verdict : Verdict
  pub holds : IsVerdict bytes declarations verdict
  pub alone : (other : Verdict) → IsVerdict bytes declarations other → other ≡ verdict

-- So any declarations have one verdict with any bytes, those of the bytes by the grammar among them.
abbrev pub DeclarationsHaveOneVerdict : Type 0
DeclarationsHaveOneVerdict = (bytes : List ℕ) (declarations : List DeclTree) → HasOneVerdict bytes declarations
