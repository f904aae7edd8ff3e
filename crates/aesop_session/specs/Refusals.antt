-- Which bytes are accepted, with which program, and which are refused: for what, where, and with which line.
use Rattle.std.specs.Prelude.{◌≡◌, ℕ, List, ◌++◌, length, codes, decimal}
use Rattle.lex_text.specs.declared.token.Token.{Token}
use Rattle.lex_text.specs.Characters.{NotUtf8At}
use Rattle.lex_text.specs.Tokens.{TokensOf, WrongText, bad_character, long_name}
use Rattle.file_trees.specs.declared.decl_tree.DeclTree.{DeclTree}
use Rattle.file_syntax.specs.Files.{IsExpected, IsTooDeep}
use Rattle.elab_terms.specs.declared.elab_fault.ElabFault.{ElabFault}
use Rattle.elab_terms.specs.declared.elab_fault.ElabFault.TheVariants as faults
use Rattle.file_elab.specs.Programs.{LfProgram, IsParsedFrom, IsProgram, IsRefused}
use Rattle.answer_text.specs.Texts.{line}
use Rattle.aesop_session.specs.declared.refusal.RefusalKind.{RefusalKind}
use Rattle.aesop_session.specs.declared.refusal.RefusalKind.TheVariants.{NotUtf8, BadCharacter, LongName, Expected, TooDeep, Taken, TooMany, Unknown, Redex, IllTyped, BadRule}

-- The bytes are a file by the grammar, and this is its program.
abbrev pub IsAccepted : List ℕ → LfProgram → Type 0
IsAccepted bytes program = (declarations : List DeclTree) × IsParsedFrom bytes declarations × IsProgram bytes declarations program

-- The bytes are a file by the grammar, and this is the fault of the first of its declarations that is refused.
abbrev pub HasFault : List ℕ → ElabFault → Type 0
HasFault bytes fault = (declarations : List DeclTree) × IsParsedFrom bytes declarations × IsRefused bytes declarations fault

-- The bytes are refused at this place for this: the characters first, then the tokens, the grammar and the declarations.
abbrev pub RefusesText : List ℕ → (place : ℕ) → RefusalKind → Type 0
RefusesText bytes place NotUtf8 = NotUtf8At bytes place
RefusesText bytes place BadCharacter = WrongText bytes (bad_character place)
RefusesText bytes place LongName = WrongText bytes (long_name place)
RefusesText bytes place Expected = (tokens : List Token) × TokensOf bytes tokens × IsExpected bytes tokens (length bytes) place
RefusesText bytes place TooDeep = (tokens : List Token) × TokensOf bytes tokens × IsTooDeep bytes tokens place
RefusesText bytes place Taken = HasFault bytes (faults.Taken place)
RefusesText bytes place TooMany = HasFault bytes (faults.TooMany place)
RefusesText bytes place Unknown = HasFault bytes (faults.Unknown place)
RefusesText bytes place Redex = HasFault bytes (faults.Redex place)
RefusesText bytes place IllTyped = HasFault bytes (faults.IllTyped place)
RefusesText bytes place BadRule = HasFault bytes (faults.BadRule place)

abbrev pub fault_word : RefusalKind → List ℕ
fault_word NotUtf8 = codes "not utf-8"
fault_word BadCharacter = codes "bad character"
fault_word LongName = codes "long name"
fault_word Expected = codes "expected"
fault_word TooDeep = codes "too deep"
fault_word Taken = codes "taken"
fault_word TooMany = codes "too many"
fault_word Unknown = codes "unknown"
fault_word Redex = codes "redex"
fault_word IllTyped = codes "ill typed"
fault_word BadRule = codes "bad rule"

-- what is written of a refusal
abbrev pub line_of : RefusalKind → (place : ℕ) → List ℕ
line_of kind place = codes "refused at " ++ decimal place ++ codes ": " ++ line (fault_word kind)

-- The bytes are refused, and the text is the line that says so.
pub record IsRefusedAs (bytes text : List ℕ) : Type 0 where
  pub place : ℕ
  pub kind : RefusalKind
  pub refused : RefusesText bytes place kind
  pub line_is : text ≡ line_of kind place
