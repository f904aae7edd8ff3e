-- The names of a program are names of the grammar.
use Rattle.std.proofs.Common.{ℕ, List, [], ◌∷◌, ◌++◌, Option, Some, None, refl, sym, subst, arith}
use Rattle.std.specs.Prelude.{codes, map, All}
use Rattle.std.specs.List.{AllByRecursion}
use Rattle.std.proofs.lemmas.List.{map-append}
use Rattle.std.proofs.lemmas.List.Elements.{All-nil, All-from_recursion, All-push}
use Rattle.file_trees.specs.declared.span.Span.{Span}
use Rattle.file_trees.specs.declared.decl_tree.DeclTree.{DeclTree}
use Rattle.lf_definitions.specs.Signatures.{name_of_entry}
use Rattle.elab_terms.specs.Names.{Text}
use Rattle.file_elab.specs.Rules.{set_of}
use Rattle.file_elab.specs.Programs.{LfProgram, first_program, rule_names, Declares, declares_family, declares_constant, declares_theorem, declares_rule, declares_constructors, DeclaresAll, declares_nothing, declares_next, IsParsedFrom, IsProgram}
use Rattle.file_elab.specs.GrammarNames.{IsGrammarName, HasGrammarNames}
use Rattle.file_elab.proofs.TokenNames.{IsNameAt, words_are_names}
use Rattle.file_elab.proofs.NamedDeclarations.{SetWithin, NamesWithin, file_within}
use Rattle.file_elab.proofs.LetterNames.{letters_name}

assumption_named : IsGrammarName (codes "assumption")
assumption_named = letters_name _ _ refl (omega arith) refl

hyps_named : IsGrammarName (codes "hyps")
hyps_named = letters_name _ _ refl (omega arith) refl

builtin_named : IsGrammarName (codes "builtin")
builtin_named = letters_name _ _ refl (omega arith) refl

default_named : IsGrammarName (codes "default")
default_named = letters_name _ _ refl (omega arith) refl

first_named : HasGrammarNames first_program
first_named = record {
  symbols = All-nil IsGrammarName;
  rules = All-from_recursion IsGrammarName (rule_names first_program) (assumption_named, (hyps_named, tt));
  sets = All-from_recursion IsGrammarName (map (λ rule. rule.set) first_program.book.rules) (builtin_named, (builtin_named, tt));
  theorems = All-nil IsGrammarName;
}

one_more_named : {X : Type 0} (f : X → List ℕ) (xs : List X) (x : X) → All IsGrammarName (map f xs) → IsGrammarName (f x) → All IsGrammarName (map f (xs ++ x ∷ []))
one_more_named f xs x all named = subst (All IsGrammarName) (sym (map-append f xs (x ∷ []))) (All-push IsGrammarName (map f xs) (f x) all named)

module _ (text : Text) where
  abbrev IsNamed : Span → Type 0
  IsNamed span = IsNameAt text span

  set_named : (set : Option Span) → SetWithin IsNamed set → IsGrammarName (set_of text set)
  set_named None named = default_named
  set_named (Some span) named = named

  declared_named : {old new : LfProgram} {declaration : DeclTree} → Declares text old declaration new → NamesWithin IsNamed declaration →
      HasGrammarNames old → HasGrammarNames new
  declared_named {old = old} (declares_family name tree kind may reads) named has = record {
    symbols = one_more_named name_of_entry old.signature _ has.symbols named;
    rules = has.rules;
    sets = has.sets;
    theorems = has.theorems;
  }
  declared_named {old = old} (declares_constant name tree type may reads) named has = record {
    symbols = one_more_named name_of_entry old.signature _ has.symbols named;
    rules = has.rules;
    sets = has.sets;
    theorems = has.theorems;
  }
  declared_named {old = old} (declares_theorem tree type may reads) named has = record {
    symbols = has.symbols;
    rules = has.rules;
    sets = has.sets;
    theorems = one_more_named (λ theorem. theorem.name) old.theorems _ has.theorems named;
  }
  declared_named {old = old} (declares_rule parts rule may reads) named has = record {
    symbols = has.symbols;
    rules = one_more_named (λ rule. rule.name) old.book.rules rule has.rules (subst IsGrammarName (sym reads.name_is) named.0);
    sets = one_more_named (λ rule. rule.set) old.book.rules rule has.sets (subst IsGrammarName (sym reads.set_is) (set_named parts.set named.1));
    theorems = has.theorems;
  }
  declared_named (declares_constructors name spans f constants is none numbers constructors) named has =
      record { symbols = has.symbols; rules = has.rules; sets = has.sets; theorems = has.theorems }

  all_declared_named : {old new : LfProgram} {declarations : List DeclTree} → DeclaresAll text old declarations new → AllByRecursion (NamesWithin IsNamed) declarations →
      HasGrammarNames old → HasGrammarNames new
  all_declared_named (declares_nothing program) named has = has
  all_declared_named (declares_next old between new declaration declarations h hs) named has = all_declared_named hs named.1 (declared_named h named.0 has)

pub program_named : (bytes : List ℕ) (declarations : List DeclTree) (program : LfProgram) → IsParsedFrom bytes declarations → IsProgram bytes declarations program → HasGrammarNames program
program_named bytes declarations program (tokens, cut, parsed) declared =
    all_declared_named bytes declared (file_within (IsNameAt bytes) parsed.file (words_are_names bytes tokens cut)) first_named
