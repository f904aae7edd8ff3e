-- The grammar of files: which terminals are which terms, types, kinds, declarations and files. A constructor stands for a production.
-- `IsTerm terminals rest tree` says that the terminals are a term with this tree, and then `rest`.
use Rattle.std.specs.Prelude.{List, [], ◌∷◌, Option, Some, None}
use Rattle.file_trees.specs.declared.span.Span.{Span}
use Rattle.file_trees.specs.declared.span.BinderSpan.{BinderSpan}
use Rattle.file_syntax.specs.declared.terminal.Keyword.{Keyword}
use Rattle.file_syntax.specs.declared.terminal.Keyword.TheVariants.{Family as family_word, Const as const_word, Theorem as theorem_word, Data as data_word, Rule as rule_word, Norm as norm_word, Safe as safe_word, Unsafe as unsafe_word, Apply as apply_word, Constructors as constructors_word, Cases as cases_word, Forward as forward_word, Destruct as destruct_word, At as at_word, In as in_word}
use Rattle.file_syntax.specs.declared.terminal.Terminal.{Terminal}
use Rattle.file_syntax.specs.declared.terminal.Terminal.TheVariants.{TypeWord, Word, Var, Number, Colon, Dot, Equals, Arrow, LParen, RParen, LBrace, RBrace, LBracket, RBracket}
use Rattle.file_trees.specs.declared.decl_tree.PhaseWord.{PhaseWord}
use Rattle.file_trees.specs.declared.decl_tree.PhaseWord.TheVariants.{Norm, Safe, Unsafe}
use Rattle.file_trees.specs.declared.decl_tree.BuildWord.{BuildWord}
use Rattle.file_trees.specs.declared.decl_tree.BuildWord.TheVariants.{Apply, Constructors, Cases, Forward, Destruct}
use Rattle.file_trees.specs.declared.decl_tree.DeclTree.{DeclTree}
use Rattle.file_trees.specs.declared.decl_tree.DeclTree.TheVariants.{Family as family_tree, Const as const_tree, Theorem as theorem_tree, Rule as rule_tree, Ctors as ctors_tree}
use Rattle.file_trees.specs.Trees.{Tree, leaf, abstraction, applied, Classifier, pi, arrow, family, star}

-- bound = name | Var, at this span
pub data IsBound : Terminal → Span → Type 0 where
  a_name : (word : Keyword) (span : Span) → IsBound (Word word span) span
  a_variable : (span : Span) → IsBound (Var span) span

-- the binder that opens with a bracket or a brace, and binds a name
abbrev pub binder_of : Span → Span → BinderSpan
binder_of opening name = record { opening = opening.start; name = name }

mutual
  -- term = "[" bound "]" term | arg arg*
  pub data IsTerm : List Terminal → List Terminal → Tree → Type 0 where
    abstracts : (opening closing name : Span) (bound : Terminal) (inside rest : List Terminal) (body : Tree) →
        IsBound bound name → IsTerm inside rest body →
        IsTerm (LBracket opening ∷ bound ∷ RBracket closing ∷ inside) rest (abstraction (binder_of opening name) body)
    applies : (terminals after rest : List Terminal) (tree : Tree) (arguments : List Tree) →
        IsArgument terminals after tree → AreArguments after rest arguments →
        IsTerm terminals rest (applied tree arguments)

  -- arg = name | Var | "(" term ")"
  pub data IsArgument : List Terminal → List Terminal → Tree → Type 0 where
    name : (word : Keyword) (span : Span) (rest : List Terminal) → IsArgument (Word word span ∷ rest) rest (leaf span)
    variable : (span : Span) (rest : List Terminal) → IsArgument (Var span ∷ rest) rest (leaf span)
    term : (opening closing : Span) (inside rest : List Terminal) (tree : Tree) →
        IsTerm inside (RParen closing ∷ rest) tree →
        IsArgument (LParen opening ∷ inside) rest tree

  -- arg*
  pub data AreArguments : List Terminal → List Terminal → List Tree → Type 0 where
    no_more : (rest : List Terminal) → AreArguments rest rest []
    one_more : (terminals after rest : List Terminal) (tree : Tree) (arguments : List Tree) →
        IsArgument terminals after tree → AreArguments after rest arguments →
        AreArguments terminals rest (tree ∷ arguments)

mutual
  -- type = "{" bound ":" type "}" type | simple [ "->" type ]
  pub data IsType : List Terminal → List Terminal → Classifier → Type 0 where
    binds : (opening colon closing name : Span) (bound : Terminal) (inside after rest : List Terminal) (domain body : Classifier) →
        IsBound bound name → IsType inside (RBrace closing ∷ after) domain → IsType after rest body →
        IsType (LBrace opening ∷ bound ∷ Colon colon ∷ inside) rest (pi (binder_of opening name) domain body)
    ends : (terminals rest : List Terminal) (last : Classifier) → IsSimple terminals rest last → IsType terminals rest last
    goes_to : (terminals after rest : List Terminal) (span : Span) (left right : Classifier) →
        IsSimple terminals (Arrow span ∷ after) left → IsType after rest right →
        IsType terminals rest (arrow left right)

  -- simple = name arg* | "(" type ")"
  pub data IsSimple : List Terminal → List Terminal → Classifier → Type 0 where
    family_of : (word : Keyword) (span : Span) (terminals rest : List Terminal) (arguments : List Tree) →
        AreArguments terminals rest arguments →
        IsSimple (Word word span ∷ terminals) rest (family span arguments)
    group : (opening closing : Span) (inside rest : List Terminal) (classifier : Classifier) →
        IsType inside (RParen closing ∷ rest) classifier →
        IsSimple (LParen opening ∷ inside) rest classifier

-- kind = "type" | "{" bound ":" type "}" kind | simple "->" kind
pub data IsKind : List Terminal → List Terminal → Classifier → Type 0 where
  is_type : (span : Span) (rest : List Terminal) → IsKind (TypeWord span ∷ rest) rest (star span)
  kind_binds : (opening colon closing name : Span) (bound : Terminal) (inside after rest : List Terminal) (domain body : Classifier) →
      IsBound bound name → IsType inside (RBrace closing ∷ after) domain → IsKind after rest body →
      IsKind (LBrace opening ∷ bound ∷ Colon colon ∷ inside) rest (pi (binder_of opening name) domain body)
  kind_goes_to : (terminals after rest : List Terminal) (span : Span) (left right : Classifier) →
      IsSimple terminals (Arrow span ∷ after) left → IsKind after rest right →
      IsKind terminals rest (arrow left right)

-- phase = "norm" | "safe" | "unsafe"
pub data IsPhase : Keyword → PhaseWord → Type 0 where
  norm : IsPhase norm_word Norm
  safe : IsPhase safe_word Safe
  unsafe : IsPhase unsafe_word Unsafe

-- builder = "apply" | "constructors" | "cases" | "forward" | "destruct"
pub data IsBuilder : Keyword → BuildWord → Type 0 where
  apply : IsBuilder apply_word Apply
  constructors : IsBuilder constructors_word Constructors
  cases : IsBuilder cases_word Cases
  forward : IsBuilder forward_word Forward
  destruct : IsBuilder destruct_word Destruct

-- [ "at" Number ]
pub data IsMajorPart : List Terminal → List Terminal → Option Span → Type 0 where
  no_major : (rest : List Terminal) → IsMajorPart rest rest None
  major_at : (at_span span : Span) (rest : List Terminal) → IsMajorPart (Word at_word at_span ∷ Number span ∷ rest) rest (Some span)

-- [ "in" name ]
pub data IsSet : List Terminal → List Terminal → Option Span → Type 0 where
  no_set : (rest : List Terminal) → IsSet rest rest None
  set_in : (in_span : Span) (word : Keyword) (span : Span) (rest : List Terminal) →
      IsSet (Word in_word in_span ∷ Word word span ∷ rest) rest (Some span)

-- name*
pub data AreNames : List Terminal → List Terminal → List Span → Type 0 where
  no_name : (rest : List Terminal) → AreNames rest rest []
  one_name : (word : Keyword) (span : Span) (terminals rest : List Terminal) (names : List Span) →
      AreNames terminals rest names → AreNames (Word word span ∷ terminals) rest (span ∷ names)

-- decl = "family" name ":" kind "."  |  "const" name ":" type "."  |  "theorem" name ":" type "."
--      | "data" name "=" name* "."  |  "rule" name ":" phase Number builder name [ "at" Number ] [ "in" name ] "."
pub data IsDecl : List Terminal → List Terminal → DeclTree → Type 0 where
  a_family : (first name colon dot : Span) (word : Keyword) (terminals rest : List Terminal) (kind : Classifier) →
      IsKind terminals (Dot dot ∷ rest) kind →
      IsDecl (Word family_word first ∷ Word word name ∷ Colon colon ∷ terminals) rest (family_tree name kind)
  a_const : (first name colon dot : Span) (word : Keyword) (terminals rest : List Terminal) (classifier : Classifier) →
      IsType terminals (Dot dot ∷ rest) classifier →
      IsDecl (Word const_word first ∷ Word word name ∷ Colon colon ∷ terminals) rest (const_tree name classifier)
  a_theorem : (first name colon dot : Span) (word : Keyword) (terminals rest : List Terminal) (classifier : Classifier) →
      IsType terminals (Dot dot ∷ rest) classifier →
      IsDecl (Word theorem_word first ∷ Word word name ∷ Colon colon ∷ terminals) rest (theorem_tree (record { name = name; statement = classifier }))
  some_data : (first name equals dot : Span) (word : Keyword) (terminals rest : List Terminal) (names : List Span) →
      AreNames terminals (Dot dot ∷ rest) names →
      IsDecl (Word data_word first ∷ Word word name ∷ Equals equals ∷ terminals) rest (ctors_tree name names)
  a_rule : (first name colon phase_span number builder_span subject dot : Span) (word phase_word builder_word other : Keyword)
      (terminals after rest : List Terminal) (phase : PhaseWord) (builder : BuildWord) (major set : Option Span) →
      IsPhase phase_word phase → IsBuilder builder_word builder → IsMajorPart terminals after major → IsSet after (Dot dot ∷ rest) set →
      IsDecl (Word rule_word first ∷ Word word name ∷ Colon colon ∷ Word phase_word phase_span ∷ Number number
      ∷ Word builder_word builder_span ∷ Word other subject ∷ terminals) rest
      (rule_tree (record { name = name; phase = phase; number = number; builder = builder; subject = subject; major = major; set = set }))

-- file = decl*
pub data IsFile : List Terminal → List DeclTree → Type 0 where
  no_decl : IsFile [] []
  one_decl : (terminals rest : List Terminal) (declaration : DeclTree) (declarations : List DeclTree) →
      IsDecl terminals rest declaration → IsFile rest declarations →
      IsFile terminals (declaration ∷ declarations)
