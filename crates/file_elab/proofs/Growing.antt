-- Programs grow: what each declaration keeps of the program before it.
use Rattle.std.proofs.Common.{◌≡◌, ℕ, ◌+◌, ◌<◌, List, [], ◌∷◌, ◌++◌, length, get_or, take, drop, append-nil, subst}
use mathlib.Core.Path.{refl}
use Rattle.std.proofs.lemmas.List.Elements.{All-nil, All-weaker}
use Rattle.lf_definitions.specs.Signatures.{LfSignature, family_entry, constant_entry, kinds_in, typing_in}
use Rattle.lf_definitions.specs.Typing.{Formed}
use Rattle.lf_definitions.proofs.TypingLaws.{signatures_grow}
use Rattle.rule_sets.specs.Books.{Book, first_book}
use Rattle.rule_sets.specs.Refusals.{IsOver}
use Rattle.rule_sets.proofs.Over.{stays_over}
use Rattle.file_trees.specs.declared.decl_tree.DeclTree.{DeclTree}
use Rattle.elab_terms.specs.Names.{Text, text_at}
use Rattle.elab_terms.specs.declared.elab_fault.ElabFault.{ElabFault}
use Rattle.file_elab.specs.Theorems.{LfTheorem, AreFormed}
use Rattle.file_elab.specs.Programs.{LfProgram, Declares, declares_family, declares_constant, declares_theorem, declares_rule, declares_constructors, DeclaresAll, declares_nothing, declares_next, first_program, Refuses, IsRefused}
use Rattle.file_elab.specs.ProgramParts.{program_with, DeclaresSymbol}
use Rattle.file_elab.proofs.Passing.{parts_at}

-- what a signature has more than another
record Grown (old new : LfSignature) : Type 0 where
  more : LfSignature
  new_is : old ++ more ≡ new

grown : {text : Text} {old new : LfProgram} {declaration : DeclTree} → Declares text old declaration new → Grown old.signature new.signature
grown {text = text} (declares_family name tree kind may reads) = record { more = family_entry (text_at text name) kind ∷ []; new_is = refl }
grown {text = text} (declares_constant name tree type may reads) = record { more = constant_entry (text_at text name) type ∷ []; new_is = refl }
grown {old = old} (declares_theorem tree type may reads) = record { more = []; new_is = append-nil old.signature }
grown {old = old} (declares_rule parts rule may reads) = record { more = []; new_is = append-nil old.signature }
grown {old = old} (declares_constructors name spans f constants found none numbers are) = record { more = []; new_is = append-nil old.signature }

formed_over_more : (sig more : LfSignature) (theorems : List LfTheorem) → AreFormed sig theorems → AreFormed (sig ++ more) theorems
formed_over_more sig more theorems formed =
    All-weaker (λ theorem. Formed (kinds_in sig) (typing_in sig [] []) theorem.type)
    (λ theorem. Formed (kinds_in (sig ++ more)) (typing_in (sig ++ more) [] []) theorem.type)
    (λ theorem f. (signatures_grow sig more [] []).1 theorem.type f) theorems formed

pub symbol_keeps_formed : (text : Text) (old new : LfSignature) (declaration : DeclTree) (theorems : List LfTheorem) →
    DeclaresSymbol text old declaration new → AreFormed old theorems → AreFormed new theorems
symbol_keeps_formed text old new declaration theorems declared formed =
    let g = grown (declared first_book []) in
    subst (λ sig. AreFormed sig theorems) g.new_is (formed_over_more old g.more theorems formed)

pub symbol_keeps_over : (text : Text) (old new : LfSignature) (declaration : DeclTree) (book : Book) →
    DeclaresSymbol text old declaration new → IsOver old book → IsOver new book
symbol_keeps_over text old new declaration book declared over =
    let g = grown (declared first_book []) in
    subst (λ sig. IsOver sig book) g.new_is (stays_over old g.more book over)

-- the program with no declaration
pub nothing_declared : (text : Text) (sig : LfSignature) (book : Book) (theorems : List LfTheorem) → sig ≡ [] → book ≡ first_book → theorems ≡ [] →
    DeclaresAll text first_program [] (program_with sig book theorems)
nothing_declared text sig book theorems no_entry no_rule no_theorem = rw (no_entry, no_rule, no_theorem) (declares_nothing first_program)

pub none_formed : (sig : LfSignature) → AreFormed sig []
none_formed sig = All-nil (λ theorem. Formed (kinds_in sig) (typing_in sig [] []) theorem.type)

-- one declaration more
pub declares_last : {text : Text} {first program : LfProgram} {prefix : List DeclTree} → DeclaresAll text first prefix program →
    (declaration : DeclTree) (next : LfProgram) → Declares text program declaration next → DeclaresAll text first (prefix ++ declaration ∷ []) next
declares_last (declares_nothing program) declaration next declared = declares_next program next next declaration [] declared (declares_nothing next)
declares_last (declares_next old between new first rest declared others) declaration next last =
    declares_next old between next first (rest ++ declaration ∷ []) declared (declares_last others declaration next last)

-- or a refusal there
pub refused_at : (text : Text) (declarations : List DeclTree) (i : ℕ) (declaration : DeclTree) → i < length declarations → declaration ≡ get_or declarations i declaration →
    (program : LfProgram) → DeclaresAll text first_program (take i declarations) program → (fault : ElabFault) → Refuses text program declaration fault →
    IsRefused text declarations fault
refused_at text declarations i declaration within is program declared fault refused = record {
  prefix = take i declarations;
  declaration = declaration;
  rest = drop (i + 1) declarations;
  parts = parts_at declarations i declaration within is;
  program = program;
  declared = declared;
  refused = refused;
}
