-- Names, variables and signs as pieces before other pieces.
use Rattle.std.proofs.Common.{◌≡◌, ℕ, ◌<◌, ◌≤◌, List, [], ◌∷◌, ◌++◌, true, length, refl, ap, ◌∙◌, arith}
use Rattle.std.specs.Prelude.{codes, decimal, ◌||◌, ◌==◌}
use Rattle.std.specs.List.{AllByRecursion}
use Rattle.std.specs.Char.{is_ascii_alphanumeric}
use Rattle.std.proofs.lemmas.Bool.Decides.{nat_tests}
use Rattle.unicode_ident.proofs.Computing.{unicode_ident}
use Rattle.unicode_ident.proofs.IdentLemmas.{is_xid_continue-ascii}
use Rattle.lex_text.specs.declared.mark.Mark.{Mark}
use Rattle.lex_text.specs.declared.mark.Mark.TheVariants.{Word, Var, Colon, Arrow, LParen, RParen, LBrace, RBrace, LBracket, RBracket}
use Rattle.lex_text.specs.Characters.{width, Spells, MayContinue, IsDigit}
use Rattle.lex_text.specs.Tokens.{IsShort, IsWord}
use Rattle.lex_text.specs.Reading.{StopsBefore, IsSign}
use Rattle.lex_text.proofs.Longest.{IsLongest-word, IsLongest-variable, IsLongest-arrow, IsLongest-sign}
use Rattle.file_elab.specs.GrammarNames.{IsGrammarName}
use Rattle.printed_tokens.specs.Pieces.{Piece, space, piece, variable_piece}
use Rattle.printed_tokens.proofs.Digits.{decimal_digits, decimal_few}
use Rattle.printed_tokens.proofs.Spelled.{Spelled, spelled_nothing, spelled_space, spelled_piece, Spells-ascii}

-- The characters before which a name ends.
abbrev pub Stops : List ℕ → Type 0
Stops = StopsBefore MayContinue

space_stops : MayContinue 32 → ⊥
unfolding unicode_ident
space_stops h = cc

closing_stops : MayContinue 41 → ⊥
unfolding unicode_ident
closing_stops h = cc

colon_stops : MayContinue 58 → ⊥
unfolding unicode_ident
colon_stops h = cc

bracket_stops : MayContinue 93 → ⊥
unfolding unicode_ident
bracket_stops h = cc

brace_stops : MayContinue 125 → ⊥
unfolding unicode_ident
brace_stops h = cc

-- Pieces with their characters.
pub record Begins (ps : List Piece) : Type 0 where
  pub characters : List ℕ
  pub spelled : Spelled ps characters

-- Pieces with their characters, before which a name ends.
pub record Follows (ps : List Piece) : Type 0 where
  pub characters : List ℕ
  pub spelled : Spelled ps characters
  pub stops : Stops characters

pub followed : (ps : List Piece) → Follows ps → Begins ps
followed ps h = record { characters = h.characters; spelled = h.spelled }

pub nothing_follows : Follows []
nothing_follows = record { characters = []; spelled = spelled_nothing; stops = tt }

pub space_follows : (ps : List Piece) → Begins ps → Follows (space ∷ ps)
space_follows ps h = record { characters = 32 ∷ h.characters; spelled = spelled_space ps h.characters h.spelled; stops = space_stops }

-- a sign of one character before other pieces
sign_spelled : (mark : Mark) (c : ℕ) (ps : List Piece) (cs : List ℕ) → IsSign mark c → IsShort mark (c ∷ []) → c < 128 → Spelled ps cs → Spelled (piece mark (c ∷ []) ∷ ps) (c ∷ cs)
sign_spelled mark c ps cs sign short low h =
    spelled_piece mark (c ∷ []) (c ∷ []) cs ps (Spells-ascii (c ∷ []) (low, tt)) (IsLongest-sign mark c cs sign) short h

pub opening_begins : (ps : List Piece) → Begins ps → Begins (piece LParen (codes "(") ∷ ps)
opening_begins ps h = record { characters = 40 ∷ h.characters; spelled = sign_spelled LParen 40 ps h.characters refl tt (omega arith) h.spelled }

pub bracket_begins : (ps : List Piece) → Begins ps → Begins (piece LBracket (codes "[") ∷ ps)
bracket_begins ps h = record { characters = 91 ∷ h.characters; spelled = sign_spelled LBracket 91 ps h.characters refl tt (omega arith) h.spelled }

pub brace_begins : (ps : List Piece) → Begins ps → Begins (piece LBrace (codes "{") ∷ ps)
brace_begins ps h = record { characters = 123 ∷ h.characters; spelled = sign_spelled LBrace 123 ps h.characters refl tt (omega arith) h.spelled }

pub arrow_begins : (ps : List Piece) → Begins ps → Begins (piece Arrow (codes "->") ∷ ps)
arrow_begins ps h = record {
  characters = 45 ∷ 62 ∷ h.characters;
  spelled = spelled_piece Arrow (45 ∷ 62 ∷ []) (45 ∷ 62 ∷ []) h.characters ps (Spells-ascii (45 ∷ 62 ∷ []) (omega arith, (omega arith, tt))) (IsLongest-arrow 45 62 h.characters refl refl) tt
      h.spelled;
}

pub closing_follows : (ps : List Piece) → Begins ps → Follows (piece RParen (codes ")") ∷ ps)
closing_follows ps h = record {
  characters = 41 ∷ h.characters;
  spelled = sign_spelled RParen 41 ps h.characters refl tt (omega arith) h.spelled;
  stops = closing_stops;
}

pub bracket_follows : (ps : List Piece) → Begins ps → Follows (piece RBracket (codes "]") ∷ ps)
bracket_follows ps h = record {
  characters = 93 ∷ h.characters;
  spelled = sign_spelled RBracket 93 ps h.characters refl tt (omega arith) h.spelled;
  stops = bracket_stops;
}

pub brace_follows : (ps : List Piece) → Begins ps → Follows (piece RBrace (codes "}") ∷ ps)
brace_follows ps h = record {
  characters = 125 ∷ h.characters;
  spelled = sign_spelled RBrace 125 ps h.characters refl tt (omega arith) h.spelled;
  stops = brace_stops;
}

pub colon_follows : (ps : List Piece) → Begins ps → Follows (piece Colon (codes ":") ∷ ps)
colon_follows ps h = record {
  characters = 58 ∷ h.characters;
  spelled = sign_spelled Colon 58 ps h.characters refl tt (omega arith) h.spelled;
  stops = colon_stops;
}

word_spelled : (name characters : List ℕ) (ps : List Piece) (cs : List ℕ) → Spells characters name → IsWord characters → length name ≤ 255 → Stops cs → Spelled ps cs →
    Spelled (piece Word name ∷ ps) (characters ++ cs)
word_spelled name [] ps cs spelled word short stops h = absurd word
word_spelled name (c ∷ rest) ps cs spelled word short stops h =
    let fits : width (c ∷ rest) ≤ 255 = omega (arith, short, ap length spelled.encoded) in
    spelled_piece Word name (c ∷ rest) cs ps spelled (IsLongest-word c rest cs word.0 word.1 stops) fits h

pub name_begins : (name : List ℕ) (ps : List Piece) → IsGrammarName name → Follows ps → Begins (piece Word name ∷ ps)
name_begins name ps is h = record {
  characters = is.characters ++ h.characters;
  spelled = word_spelled name is.characters ps h.characters is.spelled is.word is.short h.stops h.spelled;
}

digits_low : (ds : List ℕ) → AllByRecursion IsDigit ds → AllByRecursion (λ c. c < 128) ds
digits_low [] all = tt
digits_low (d ∷ ds) all = (omega (arith, all.0.1), digits_low ds all.1)

digit_continues : (d : ℕ) → IsDigit d → MayContinue d
digit_continues d h = is_xid_continue-ascii d (omega (arith, h.1)) ∙ alphanumeric
  where
    alphanumeric : (is_ascii_alphanumeric d || (d == 95)) ≡ true
    alphanumeric = grind (arith, nat_tests)

digits_continue : (ds : List ℕ) → AllByRecursion IsDigit ds → AllByRecursion MayContinue ds
digits_continue [] all = tt
digits_continue (d ∷ ds) all = (digit_continues d all.0, digits_continue ds all.1)

-- A variable is its own bytes.
pub variable_spelled : (n : ℕ) → Spells (95 ∷ decimal n) (95 ∷ decimal n)
variable_spelled n = Spells-ascii (95 ∷ decimal n) (omega arith, digits_low (decimal n) (decimal_digits n))

pub variable_begins : (n : ℕ) (ps : List Piece) → Follows ps → Begins (variable_piece n ∷ ps)
variable_begins n ps h =
    let digits = decimal_digits n in
    let spelled = variable_spelled n in
    let few = decimal_few n in
    let fits : width (95 ∷ decimal n) ≤ 255 = omega (arith, few, ap length spelled.encoded) in
    record {
      characters = 95 ∷ decimal n ++ h.characters;
      spelled = spelled_piece Var (95 ∷ decimal n) (95 ∷ decimal n) h.characters ps spelled
          (IsLongest-variable 95 (decimal n) h.characters refl (digits_continue (decimal n) digits) h.stops) fits h.spelled;
    }
