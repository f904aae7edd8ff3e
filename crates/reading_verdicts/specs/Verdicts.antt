-- What there is to say of the tree of a term, a type or a kind: what it is read as, or why it is refused.
use Rattle.std.specs.Prelude.{◌≡◌, ℕ, [], length}
use Rattle.lf_definitions.specs.Syntax.{LfType, Context}
use Rattle.lf_definitions.specs.Typing.{Formed, FormedContext}
use Rattle.lf_definitions.specs.Signatures.{LfSignature, kinds_in, typing_in, FormedSignature}
use Rattle.file_trees.specs.Trees.{Tree, Classifier}
use Rattle.elab_terms.specs.Names.{Text, Bound}
use Rattle.elab_terms.specs.Terms.{ReadsTerm, RefusesTerm}
use Rattle.elab_terms.specs.Types.{ReadsType, RefusesType, ReadsKind, RefusesKind}
use Rattle.elab_terms.specs.declared.elab_fault.ElabFault.{ElabFault}

-- The tree is read as this, or refused for this fault.
pub data Verdict (Read : Type 0) : Type 0 where
  read_as : Read → Verdict Read
  refused_for : ElabFault → Verdict Read

-- The verdict is true, by what the tree is read as and what it is refused for.
abbrev pub IsVerdict : {Read : Type 0} → (Read → Type 0) → (ElabFault → Type 0) → Verdict Read → Type 0
IsVerdict reads refuses (read_as result) = reads result
IsVerdict reads refuses (refused_for fault) = refuses fault

-- One verdict is true, and no other.
pub record HasOneVerdict {Read : Type 0} (reads : Read → Type 0) (refuses : ElabFault → Type 0) : Type 0 where
  pub verdict : Verdict Read
  pub holds : IsVerdict reads refuses verdict
  pub alone : (other : Verdict Read) → IsVerdict reads refuses other → other ≡ verdict

-- Binders stand around a tree, each with a variable of a well-formed context over a well-formed signature.
pub record AreAround (sig : LfSignature) (binders : Bound) (ctx : Context) : Type 0 where
  pub signature : FormedSignature sig
  pub context : FormedContext (kinds_in sig) (typing_in sig [] []) ctx
  pub count : length binders ≡ length ctx

-- So each tree has one verdict: as a term of any well-formed type, as a type after any number of binders, and as a kind.
abbrev pub TreesHaveOneVerdict : Type 0
TreesHaveOneVerdict =
    (text : Text) (sig : LfSignature) (binders : Bound) (ctx : Context) → AreAround sig binders ctx →
    ((tree : Tree) (wanted : LfType) → Formed (kinds_in sig) (typing_in sig [] ctx) wanted →
    HasOneVerdict (ReadsTerm text sig binders (typing_in sig [] ctx) tree wanted) (RefusesTerm text sig binders (typing_in sig [] ctx) tree wanted))
    × ((count : ℕ) (tree : Classifier) →
    HasOneVerdict (ReadsType text sig binders (typing_in sig [] ctx) count tree) (RefusesType text sig binders (typing_in sig [] ctx) count tree))
    × ((tree : Classifier) → HasOneVerdict (ReadsKind text sig binders (typing_in sig [] ctx) tree) (RefusesKind text sig binders (typing_in sig [] ctx) tree))
