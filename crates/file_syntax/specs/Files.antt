-- What the tokens of a text are: a file with its tree, or none, and then where the first token stands that no file has.
use Rattle.std.specs.Prelude.{◌≡◌, ℕ, ◌<◌, List, [], ◌∷◌, ◌++◌}
use Rattle.basics.specs.Limits.{deepest_nesting}
use Rattle.lex_text.specs.declared.token.Token.{Token}
use Rattle.file_syntax.specs.declared.terminal.Terminal.{Terminal}
use Rattle.file_trees.specs.declared.decl_tree.DeclTree.{DeclTree}
use Rattle.file_syntax.specs.declared.parse_fault.ParseFault.{ParseFault}
use Rattle.file_syntax.specs.declared.parse_fault.ParseFault.TheVariants.{Expected, TooDeep, NoMemory}
use Rattle.file_syntax.specs.Terminals.{terminal_of, terminals_of}
use Rattle.file_syntax.specs.Productions.{IsFile}
use Rattle.file_syntax.specs.Nesting.{nesting, IsShallow}

-- The tokens are a file with these declarations.
pub record IsParsed (bytes : List ℕ) (tokens : List Token) (declarations : List DeclTree) : Type 0 where
  pub file : IsFile (terminals_of bytes tokens) declarations
  pub shallow : IsShallow (terminals_of bytes tokens)

-- Some file begins with the terminals.
abbrev pub GoesOn : List Terminal → Type 0
GoesOn terminals = (more : List Terminal) × (declarations : List DeclTree) × IsFile (terminals ++ more) declarations

abbrev pub IsNoFile : List Terminal → Type 0
IsNoFile terminals = (declarations : List DeclTree) → IsFile terminals declarations → ⊥

-- No file goes on with the first of the tokens, or ends where there is none.
abbrev pub GoesNoFurther : List ℕ → List Terminal → List Token → Type 0
GoesNoFurther bytes terminals [] = IsNoFile terminals
GoesNoFurther bytes terminals (token ∷ rest) = GoesOn (terminals ++ terminal_of bytes token ∷ []) → ⊥

-- the place of the first token, or of the end
abbrev pub place_at : ℕ → List Token → ℕ
place_at size [] = size
place_at size (token ∷ rest) = token.start

-- At this place stands the first token that no file has after the tokens before it, and nothing before it is nested too deep.
pub record IsExpected (bytes : List ℕ) (tokens : List Token) (size place : ℕ) : Type 0 where
  pub prefix : List Token
  pub rest : List Token
  pub parts : tokens ≡ prefix ++ rest
  pub goes_on : GoesOn (terminals_of bytes prefix)
  pub no_further : GoesNoFurther bytes (terminals_of bytes prefix) rest
  pub shallow : IsShallow (terminals_of bytes prefix)
  pub place_is : place ≡ place_at size rest

-- At this place stands the first token that would be nested too deep, and some file has it after the tokens before it.
pub record IsTooDeep (bytes : List ℕ) (tokens : List Token) (place : ℕ) : Type 0 where
  pub prefix : List Token
  pub token : Token
  pub rest : List Token
  pub parts : tokens ≡ prefix ++ token ∷ rest
  pub goes_on : GoesOn (terminals_of bytes prefix ++ terminal_of bytes token ∷ [])
  pub shallow : IsShallow (terminals_of bytes prefix)
  pub deep : deepest_nesting < nesting (terminals_of bytes prefix ++ terminal_of bytes token ∷ [])
  pub place_is : place ≡ token.start

-- why the tokens of a text, which has this size, are no file
abbrev pub IsFaultOf : List ℕ → List Token → ℕ → ParseFault → Type 0
IsFaultOf bytes tokens size (Expected place) = IsExpected bytes tokens size place
IsFaultOf bytes tokens size (TooDeep place) = IsTooDeep bytes tokens place
IsFaultOf bytes tokens size NoMemory = Unit {0}

-- The tokens are a file in one way at most.
abbrev pub IsOneFile : List ℕ → List Token → Type 0
IsOneFile bytes tokens = (declarations other : List DeclTree) → IsParsed bytes tokens declarations → IsParsed bytes tokens other → declarations ≡ other
