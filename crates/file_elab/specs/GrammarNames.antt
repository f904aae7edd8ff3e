-- The names of a program are names of the grammar.
use Rattle.std.specs.Prelude.{◌≢◌, ℕ, ◌≤◌, List, length, map, codes, All}
use Rattle.basics.specs.Limits.{longest_name}
use Rattle.lf_definitions.specs.Signatures.{names_of}
use Rattle.lex_text.specs.Characters.{Spells}
use Rattle.lex_text.specs.Tokens.{IsWord}
use Rattle.file_elab.specs.Programs.{LfProgram, rule_names, theorem_names}

-- A name is a word other than `type`, of at most 255 bytes.
pub record IsGrammarName (name : List ℕ) : Type 0 where
  pub characters : List ℕ
  pub spelled : Spells characters name
  pub word : IsWord characters
  pub short : length name ≤ longest_name
  pub other : name ≢ codes "type"

pub record HasGrammarNames (program : LfProgram) : Type 0 where
  pub symbols : All IsGrammarName (names_of program.signature)
  pub rules : All IsGrammarName (rule_names program)
  pub sets : All IsGrammarName (map (λ rule. rule.set) program.book.rules)
  pub theorems : All IsGrammarName (theorem_names program)
