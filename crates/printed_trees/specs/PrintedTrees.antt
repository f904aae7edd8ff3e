-- Trees that are those of printed terms and types: the names stand in the text where the tree says.
use Rattle.std.specs.Prelude.{◌≡◌, ℕ, suc, List, [], ◌∷◌, Bool, true, false, Option, Some, None}
use Rattle.lf_definitions.specs.Syntax.{LfHead, LfTerm, lam, at, Spine, no_args, arg, LfType, pi, family}
use Rattle.lf_definitions.specs.Signatures.{LfSignature, family_names, name_at}
use Rattle.file_trees.specs.declared.span.Span.{Span}
use Rattle.file_trees.specs.declared.span.BinderSpan.{BinderSpan}
use Rattle.file_trees.specs.Trees.{Tree, leaf, abstraction, Classifier}
use Rattle.file_trees.specs.Trees as trees
use Rattle.elab_terms.specs.Names.{Text, text_at, binder_name}
use Rattle.elab_terms.specs.Applied.{IsApplied}
use Rattle.elab_terms.specs.Types.{IsBinder}
use Rattle.binder_marks.specs.Mentions.{mentions}
use Rattle.file_print.specs.Texts.{variable_text, head_text}

mutual
  pub data IsPrintedTerm (text : Text) (sig : LfSignature) : (depth : ℕ) → LfTerm → Tree → Type 0 where
    printed_abstraction : (depth : ℕ) (b : LfTerm) (tree : Tree) (binder : BinderSpan) (body : Tree) → IsApplied tree [] (abstraction binder body) [] →
        binder_name text binder ≡ Some (variable_text depth) → IsPrintedTerm text sig (suc depth) b body → IsPrintedTerm text sig depth (lam b) tree
    printed_application : (depth : ℕ) (h : LfHead) (args : Spine) (tree : Tree) (span : Span) (arguments : List Tree) → IsApplied tree [] (leaf span) arguments →
        text_at text span ≡ head_text sig depth h → ArePrintedTerms text sig depth args arguments → IsPrintedTerm text sig depth (at h args) tree

  pub data ArePrintedTerms (text : Text) (sig : LfSignature) : (depth : ℕ) → Spine → List Tree → Type 0 where
    printed_none : (depth : ℕ) → ArePrintedTerms text sig depth no_args []
    printed_argument : (depth : ℕ) (t : LfTerm) (ts : Spine) (tree : Tree) (trees : List Tree) → IsPrintedTerm text sig depth t tree →
        ArePrintedTerms text sig depth ts trees → ArePrintedTerms text sig depth (arg t ts) (tree ∷ trees)

-- the name of a binder that is printed, if the rest mentions it
abbrev pub printed_name : Bool → ℕ → Option (List ℕ)
printed_name true depth = Some (variable_text depth)
printed_name false depth = None

pub data IsPrintedType (text : Text) (sig : LfSignature) : (depth : ℕ) → LfType → Classifier → Type 0 where
  printed_binder : (depth place : ℕ) (a b : LfType) (whole domain rest : Classifier) → IsBinder text whole place domain rest (printed_name (mentions 0 b) depth) →
      IsPrintedType text sig depth a domain → IsPrintedType text sig (suc depth) b rest → IsPrintedType text sig depth (pi a b) whole
  printed_family : (depth f : ℕ) (args : Spine) (span : Span) (arguments : List Tree) → text_at text span ≡ name_at (family_names sig) f →
      ArePrintedTerms text sig depth args arguments → IsPrintedType text sig depth (family f args) (trees.family span arguments)
