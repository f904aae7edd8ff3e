-- The program of a file: its declarations are taken in order, each over those before it, up to the first that is refused.
use Rattle.std.specs.Prelude.{◌≡◌, ℕ, ◌<◌, ◌≤◌, List, [], ◌∷◌, ◌++◌, length, map, Some, None, Contains}
use Rattle.basics.specs.Limits.{most_symbols, most_rules, most_theorems}
use Rattle.lex_text.specs.declared.token.Token.{Token}
use Rattle.lex_text.specs.Tokens.{TokensOf}
use Rattle.basics.specs.Places.{place_of}
use Rattle.lf_definitions.specs.Syntax.{LfType, LfKind}
use Rattle.lf_definitions.specs.Signatures.{LfSignature, family_entry, constant_entry, names_of, family_names, constant_names, typing_in}
use Rattle.file_syntax.specs.Files.{IsParsed}
use Rattle.file_trees.specs.declared.span.Span.{Span}
use Rattle.file_trees.specs.declared.decl_tree.DeclTree.{DeclTree}
use Rattle.file_trees.specs.declared.decl_tree.DeclTree.TheVariants.{Family, Const, Theorem, Rule as rule_tree, Ctors}
use Rattle.file_trees.specs.declared.decl_tree.RuleTree.{RuleTree}
use Rattle.file_trees.specs.declared.decl_tree.TheoremTree.{TheoremTree}
use Rattle.file_trees.specs.Trees.{Classifier}
use Rattle.rule_sets.specs.declared.rule.Rule.{Rule}
use Rattle.rule_sets.specs.Books.{Book, first_book, list_of}
use Rattle.rule_sets.specs.Refusals.{HasFamily, AreConstructors}
use Rattle.elab_terms.specs.Names.{Text, text_at}
use Rattle.elab_terms.specs.Types.{ReadsType, RefusesType, ReadsKind, RefusesKind}
use Rattle.file_elab.specs.Rules.{ReadsRule, RefusesRule}
use Rattle.file_elab.specs.Theorems.{LfTheorem}
use Rattle.elab_terms.specs.declared.elab_fault.ElabFault.{ElabFault}
use Rattle.elab_terms.specs.declared.elab_fault.ElabFault.TheVariants.{Taken, TooMany, Unknown, BadRule}

pub record LfProgram : Type 0 where
  pub signature : LfSignature
  pub book : Book
  pub theorems : List LfTheorem

-- with no declaration
abbrev pub first_program : LfProgram
first_program = record { signature = []; book = first_book; theorems = [] }

-- the names of families and constants, of rules, and of theorems
abbrev pub rule_names : LfProgram → List (List ℕ)
rule_names program = map (λ rule. rule.name) program.book.rules

abbrev pub theorem_names : LfProgram → List (List ℕ)
theorem_names program = map (λ theorem. theorem.name) program.theorems

-- A name may be declared where it is none of these, and fewer of its sort stand than may.
pub record MayBeNamed (names : List (List ℕ)) (most : ℕ) (name : List ℕ) : Type 0 where
  pub new : place_of names name ≡ None
  pub room : length names < most

-- Otherwise it is refused at the name: first where it is taken.
pub data RefusesName (names : List (List ℕ)) (most : ℕ) (text : Text) (name : Span) : ElabFault → Type 0 where
  refuses_taken : (place_of names (text_at text name) ≡ None → ⊥) → RefusesName names most text name (Taken name.start)
  refuses_many : place_of names (text_at text name) ≡ None → most ≤ length names → RefusesName names most text name (TooMany name.start)

-- the constants of a list, by their names
pub data AreNumbers (text : Text) (sig : LfSignature) : List Span → List ℕ → Type 0 where
  no_number : AreNumbers text sig [] []
  one_number : (span : Span) (spans : List Span) (constant : ℕ) (constants : List ℕ) → place_of (constant_names sig) (text_at text span) ≡ Some constant →
      AreNumbers text sig spans constants → AreNumbers text sig (span ∷ spans) (constant ∷ constants)

-- A declaration makes one program of another.
pub data Declares (text : Text) (old : LfProgram) : DeclTree → LfProgram → Type 0 where
  declares_family : (name : Span) (tree : Classifier) (kind : LfKind) → MayBeNamed (names_of old.signature) most_symbols (text_at text name) →
      ReadsKind text old.signature [] (typing_in old.signature [] []) tree kind →
      Declares text old (Family name tree)
      (record { signature = old.signature ++ family_entry (text_at text name) kind ∷ []; book = old.book; theorems = old.theorems })
  declares_constant : (name : Span) (tree : Classifier) (type : LfType) → MayBeNamed (names_of old.signature) most_symbols (text_at text name) →
      ReadsType text old.signature [] (typing_in old.signature [] []) 0 tree type →
      Declares text old (Const name tree)
      (record { signature = old.signature ++ constant_entry (text_at text name) type ∷ []; book = old.book; theorems = old.theorems })
  declares_theorem : (tree : TheoremTree) (type : LfType) → MayBeNamed (theorem_names old) most_theorems (text_at text tree.name) →
      ReadsType text old.signature [] (typing_in old.signature [] []) 0 tree.statement type →
      Declares text old (Theorem tree)
      (record { signature = old.signature; book = old.book; theorems = old.theorems ++ record { name = text_at text tree.name; type = type } ∷ [] })
  declares_rule : (parts : RuleTree) (rule : Rule) → MayBeNamed (rule_names old) most_rules (text_at text parts.name) →
      ReadsRule text old.signature old.book parts rule →
      Declares text old (rule_tree parts)
      (record { signature = old.signature; book = record { rules = old.book.rules ++ rule ∷ []; lists = old.book.lists }; theorems = old.theorems })
  declares_constructors : (name : Span) (spans : List Span) (f : ℕ) (constants : List ℕ) → place_of (family_names old.signature) (text_at text name) ≡ Some f →
      list_of old.book.lists f ≡ None → AreNumbers text old.signature spans constants → AreConstructors old.signature f constants →
      Declares text old (Ctors name spans)
      (record {
        signature = old.signature;
        book = record { rules = old.book.rules; lists = old.book.lists ++ record { of_family = f; constants = constants } ∷ [] };
        theorems = old.theorems;
      })

-- A declaration is refused at the first thing that is wrong with it.
pub data Refuses (text : Text) (old : LfProgram) : DeclTree → ElabFault → Type 0 where
  refuses_family_name : (name : Span) (tree : Classifier) (fault : ElabFault) → RefusesName (names_of old.signature) most_symbols text name fault →
      Refuses text old (Family name tree) fault
  refuses_family_kind : (name : Span) (tree : Classifier) (fault : ElabFault) → MayBeNamed (names_of old.signature) most_symbols (text_at text name) →
      RefusesKind text old.signature [] (typing_in old.signature [] []) tree fault → Refuses text old (Family name tree) fault
  refuses_constant_name : (name : Span) (tree : Classifier) (fault : ElabFault) → RefusesName (names_of old.signature) most_symbols text name fault →
      Refuses text old (Const name tree) fault
  refuses_constant_type : (name : Span) (tree : Classifier) (fault : ElabFault) → MayBeNamed (names_of old.signature) most_symbols (text_at text name) →
      RefusesType text old.signature [] (typing_in old.signature [] []) 0 tree fault → Refuses text old (Const name tree) fault
  refuses_theorem_name : (tree : TheoremTree) (fault : ElabFault) → RefusesName (theorem_names old) most_theorems text tree.name fault →
      Refuses text old (Theorem tree) fault
  refuses_theorem_type : (tree : TheoremTree) (fault : ElabFault) → MayBeNamed (theorem_names old) most_theorems (text_at text tree.name) →
      RefusesType text old.signature [] (typing_in old.signature [] []) 0 tree.statement fault → Refuses text old (Theorem tree) fault
  refuses_rule_name : (parts : RuleTree) (fault : ElabFault) → RefusesName (rule_names old) most_rules text parts.name fault →
      Refuses text old (rule_tree parts) fault
  refuses_rule_part : (parts : RuleTree) (fault : ElabFault) → MayBeNamed (rule_names old) most_rules (text_at text parts.name) →
      RefusesRule text old.signature old.book parts fault → Refuses text old (rule_tree parts) fault
  -- the name of no family
  refuses_listed_family : (name : Span) (spans : List Span) → place_of (family_names old.signature) (text_at text name) ≡ None →
      Refuses text old (Ctors name spans) (Unknown name.start)
  -- a family that has a list
  refuses_listed : (name : Span) (spans : List Span) (f : ℕ) → place_of (family_names old.signature) (text_at text name) ≡ Some f →
      (list_of old.book.lists f ≡ None → ⊥) → Refuses text old (Ctors name spans) (Taken name.start)
  -- the first of the names that is no constant
  refuses_listed_name : (name span : Span) (prefix rest : List Span) (f : ℕ) (constants : List ℕ) → place_of (family_names old.signature) (text_at text name) ≡ Some f →
      list_of old.book.lists f ≡ None → AreNumbers text old.signature prefix constants → AreConstructors old.signature f constants →
      place_of (constant_names old.signature) (text_at text span) ≡ None → Refuses text old (Ctors name (prefix ++ span ∷ rest)) (Unknown span.start)
  -- or that stands earlier in the list
  refuses_listed_again : (name span : Span) (prefix rest : List Span) (f constant : ℕ) (constants : List ℕ) →
      place_of (family_names old.signature) (text_at text name) ≡ Some f → list_of old.book.lists f ≡ None → AreNumbers text old.signature prefix constants →
      AreConstructors old.signature f constants → place_of (constant_names old.signature) (text_at text span) ≡ Some constant → Contains constants constant →
      Refuses text old (Ctors name (prefix ++ span ∷ rest)) (Taken span.start)
  -- or that is of another family
  refuses_listed_other : (name span : Span) (prefix rest : List Span) (f constant : ℕ) (constants : List ℕ) →
      place_of (family_names old.signature) (text_at text name) ≡ Some f → list_of old.book.lists f ≡ None → AreNumbers text old.signature prefix constants →
      AreConstructors old.signature f constants → place_of (constant_names old.signature) (text_at text span) ≡ Some constant → (Contains constants constant → ⊥) →
      (HasFamily old.signature f constant → ⊥) → Refuses text old (Ctors name (prefix ++ span ∷ rest)) (BadRule span.start)

-- The declarations, from one program on, make another.
pub data DeclaresAll (text : Text) : LfProgram → List DeclTree → LfProgram → Type 0 where
  declares_nothing : (program : LfProgram) → DeclaresAll text program [] program
  declares_next : (old between new : LfProgram) (declaration : DeclTree) (declarations : List DeclTree) → Declares text old declaration between →
      DeclaresAll text between declarations new → DeclaresAll text old (declaration ∷ declarations) new

-- The declarations are those of the bytes by the grammar.
abbrev pub IsParsedFrom : List ℕ → List DeclTree → Type 0
IsParsedFrom bytes declarations = (tokens : List Token) × TokensOf bytes tokens × IsParsed bytes tokens declarations

-- This is the program of the declarations of a text.
abbrev pub IsProgram : Text → List DeclTree → LfProgram → Type 0
IsProgram text declarations program = DeclaresAll text first_program declarations program

-- The first of the declarations that is refused is so for this fault.
pub record IsRefused (text : Text) (declarations : List DeclTree) (fault : ElabFault) : Type 0 where
  pub prefix : List DeclTree
  pub declaration : DeclTree
  pub rest : List DeclTree
  pub parts : declarations ≡ prefix ++ declaration ∷ rest
  pub program : LfProgram
  pub declared : DeclaresAll text first_program prefix program
  pub refused : Refuses text program declaration fault
