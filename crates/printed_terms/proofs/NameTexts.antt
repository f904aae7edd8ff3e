-- The bytes of names.
use Rattle.std.proofs.Common.{◌≡◌, ◌≢◌, ℕ, ◌<◌, Bool, true, false, List, [], ◌∷◌, length, get_or, All, refl, sym, ap, ◌∙◌, subst, arith}
use Rattle.std.specs.Prelude.{nat_eq, not, ◌||◌, ◌&&◌, ◌==◌}
use Rattle.std.specs.Char.{is_ascii, is_ascii_alphanumeric}
use Rattle.std.specs.List.{AllByRecursion, list_all}
use Rattle.std.proofs.lemmas.Bool.{eq-eqb}
use Rattle.std.proofs.lemmas.Bool.Decides.{nat_tests}
use Rattle.std.proofs.lemmas.List.{get_or_default}
use Rattle.std.proofs.lemmas.Str.{NoCharPasses-byte}
use Rattle.unicode_ident.specs.Ident.{is_xid_continue}
use Rattle.unicode_ident.proofs.IdentLemmas.{is_xid_start-is_xid_continue, is_xid_continue-ascii}
use Rattle.lex_text.specs.Characters.{MayContinue}
use Rattle.lex_text.specs.Tokens.{IsWord}
use Rattle.lex_text.proofs.Utf8.{both_true}
use Rattle.file_elab.specs.GrammarNames.{IsGrammarName}
use Rattle.printed_terms.specs.NameBytes.{IsNameByte, signs, IsNoSign}

-- all characters of a name may continue an identifier
word_continues : (cs : List ℕ) → IsWord cs → AllByRecursion MayContinue cs
word_continues [] is = tt
word_continues (c ∷ cs) is = (is_xid_start-is_xid_continue c is.0, is.1)

-- the test that no character of a name passes
abbrev breaks_name : ℕ → Bool
breaks_name c = not (is_xid_continue c)

none_breaks : (cs : List ℕ) → AllByRecursion MayContinue cs → AllByRecursion (λ c. breaks_name c ≡ false) cs
none_breaks [] all = tt
none_breaks (c ∷ cs) all = (ap not all.0, none_breaks cs all.1)

not_false : (b : Bool) → not b ≡ false → b ≡ true
not_false true e = refl
not_false false e = absurd cc

byte_of_name : (name : List ℕ) → IsGrammarName name → (k : ℕ) → k < length name → IsNameByte (get_or name k 0)
byte_of_name name is k within low =
    let none = none_breaks is.characters (word_continues is.characters is.word) in
    let passes = NoCharPasses-byte breaks_name name k (is.characters, is.spelled.encoded, none) within low in
    sym (is_xid_continue-ascii (get_or name k 0) low) ∙ not_false (is_xid_continue (get_or name k 0)) passes

pub name_bytes : (name : List ℕ) → IsGrammarName name → All IsNameByte name
name_bytes name is k d within = subst IsNameByte (get_or_default name k 0 d within) (byte_of_name name is k within)

-- an ASCII character that is neither a letter nor a digit nor an underscore
abbrev is_sign : ℕ → Bool
is_sign c = is_ascii c && not (is_ascii_alphanumeric c || (c == 95))

low : (c : ℕ) → is_ascii c ≡ true → c < 128
low c e = grind (arith, nat_tests)

no_name_byte : (c : ℕ) → is_sign c ≡ true → IsNameByte c → ⊥
no_name_byte c e is =
    let both = both_true (is_ascii c) (not (is_ascii_alphanumeric c || (c == 95))) e in
    let other : true ≡ false = sym both.1 ∙ ap not (is (low c both.0)) in
    cc

pub signs_break : (ss : List ℕ) → list_all is_sign ss ≡ true → AllByRecursion (λ sign. IsNameByte sign → ⊥) ss
signs_break [] e = tt
signs_break (s ∷ ss) e =
    let both = both_true (is_sign s) (list_all is_sign ss) e in
    (no_name_byte s both.0, signs_break ss both.1)

pub differs : (byte : ℕ) (ss : List ℕ) → IsNameByte byte → AllByRecursion (λ sign. IsNameByte sign → ⊥) ss → AllByRecursion (λ sign. byte ≢ sign) ss
differs byte [] is all = tt
differs byte (s ∷ ss) is all = (λ same. all.0 (subst IsNameByte same is), differs byte ss is all.1)

-- a character that is not among signs
pub not_among : (c : ℕ) (ss : List ℕ) → list_all (λ s. not (nat_eq c s)) ss ≡ true → AllByRecursion (λ sign. c ≢ sign) ss
not_among c [] e = tt
not_among c (s ∷ ss) e =
    let both = both_true (not (nat_eq c s)) (list_all (λ s. not (nat_eq c s)) ss) e in
    (λ same. (let no : true ≡ false = sym both.0 ∙ ap not (eq-eqb c s same) in cc), not_among c ss both.1)

pub no_signs : (name : List ℕ) → IsGrammarName name → All IsNoSign name
no_signs name is k d within = differs (get_or name k d) signs (name_bytes name is k d within) (signs_break signs refl)
