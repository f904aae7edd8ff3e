-- Small letters, where they are some and not `type`, are a name of the grammar.
use Rattle.std.proofs.Common.{◌≡◌, ℕ, ◌≤◌, true, false, List, [], ◌∷◌, ◌++◌, length, refl, sym, ap, ◌∙◌, arith}
use Rattle.std.specs.Prelude.{codes, encode_utf8_all}
use Rattle.std.specs.Char.{IsScalar, is_ascii_lowercase}
use Rattle.std.specs.List.{AllByRecursion, list_all}
use Rattle.std.proofs.lemmas.Bool.{false≢true}
use Rattle.std.proofs.lemmas.Bool.Decides.{nat_tests}
use Rattle.std.proofs.lemmas.Slice.Eq.{bytes_eq-Decides}
use Rattle.std.proofs.lemmas.Str.{encode_ascii}
use Rattle.std.specs.Str.{bytes_eq}
use Rattle.basics.specs.Limits.{longest_name}
use Rattle.unicode_ident.proofs.IdentLemmas.{is_xid_start-ascii, is_xid_continue-ascii}
use Rattle.lex_text.specs.Characters.{MayStart, MayContinue}
use Rattle.lex_text.proofs.Utf8.{both_true}
use Rattle.file_elab.specs.GrammarNames.{IsGrammarName}

abbrev IsLetter : ℕ → Type 0
IsLetter c = is_ascii_lowercase c ≡ true

are_letters : (cs : List ℕ) → list_all is_ascii_lowercase cs ≡ true → AllByRecursion IsLetter cs
are_letters [] e = tt
are_letters (c ∷ cs) e = let both = both_true (is_ascii_lowercase c) (list_all is_ascii_lowercase cs) e in (both.0, are_letters cs both.1)

letter_bounds : (c : ℕ) → IsLetter c → (97 ≤ c) × (c ≤ 122)
letter_bounds c is = grind (arith, nat_tests)

letter_is_scalar : (c : ℕ) → IsLetter c → IsScalar c
letter_is_scalar c is = let bounds = letter_bounds c is in grind (arith, nat_tests, bounds)

letter_starts : (c : ℕ) → IsLetter c → MayStart c
letter_starts c is =
    let bounds = letter_bounds c is in
    is_xid_start-ascii c (omega (arith, bounds)) ∙ grind (arith, nat_tests, bounds)

letter_continues : (c : ℕ) → IsLetter c → MayContinue c
letter_continues c is =
    let bounds = letter_bounds c is in
    is_xid_continue-ascii c (omega (arith, bounds)) ∙ grind (arith, nat_tests, bounds)

each : (P : ℕ → Type 0) → ((c : ℕ) → IsLetter c → P c) → (cs : List ℕ) → AllByRecursion IsLetter cs → AllByRecursion P cs
each P one [] all = tt
each P one (c ∷ cs) all = (one c all.0, each P one cs all.1)

letters_encoded : (cs : List ℕ) → AllByRecursion IsLetter cs → encode_utf8_all cs ≡ cs
letters_encoded [] all = refl
letters_encoded (c ∷ cs) all =
    let bounds = letter_bounds c all.0 in
    ap (λ prefix. prefix ++ encode_utf8_all cs) (encode_ascii c (omega (arith, bounds))) ∙ ap (λ rest. c ∷ rest) (letters_encoded cs all.1)

pub letters_name : (c : ℕ) (cs : List ℕ) → list_all is_ascii_lowercase (c ∷ cs) ≡ true → length (c ∷ cs) ≤ longest_name → bytes_eq (c ∷ cs) (codes "type") ≡ false → IsGrammarName (c ∷ cs)
letters_name c cs letters short other =
    let all = are_letters (c ∷ cs) letters in
    record {
      characters = c ∷ cs;
      spelled = record { scalars = each IsScalar letter_is_scalar (c ∷ cs) all; encoded = letters_encoded (c ∷ cs) all };
      word = (letter_starts c all.0, each MayContinue letter_continues cs all.1);
      short = short;
      other = λ same. false≢true (sym other ∙ (bytes_eq-Decides (c ∷ cs) (codes "type")).1 same);
    }
