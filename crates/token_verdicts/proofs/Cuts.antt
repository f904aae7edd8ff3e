-- Characters are cut into tokens, or something is the first that is wrong with them.
use Rattle.std.proofs.Common.{◌≡◌, ◌≢◌, ℕ, zero, suc, ◌+◌, ◌<◌, ◌≤◌, ◌⊎◌, inl, inr, List, [], ◌∷◌, ◌++◌, length, length-append, refl, ap, arith}
use Rattle.std.specs.List.{AllByRecursion}
use Rattle.basics.specs.Limits.{longest_name}
use Rattle.lex_text.specs.declared.mark.Mark.{Mark}
use Rattle.lex_text.specs.declared.mark.Mark.TheVariants.{Word, Var, Number, Colon, Dot, Equals, Arrow, LParen, RParen, LBrace, RBrace, LBracket, RBracket}
use Rattle.lex_text.specs.declared.token.Token.{Token}
use Rattle.lex_text.specs.Characters.{width, IsSeparator}
use Rattle.lex_text.specs.Tokens.{Forms, IsShort, IsCommentBefore, Cut, nothing, separator, comment, token, Lexical, bad_character, long_name, Wrong, after_separator, after_comment, after_token, no_token, too_long}
use Rattle.lex_text.specs.Reading.{StopsBefore}
use Rattle.lex_text.proofs.Forms.{Forms-some}
use Rattle.token_verdicts.proofs.Starts.{Known, known_number, known_order, known_either, known_other, Passed, passed_of, FirstToken, Starts, start_of}

-- These are the tokens, or this is wrong.
abbrev pub Cuts : ℕ → List ℕ → Type 0
Cuts place text = ((tokens : List Token) × Cut place text tokens) ⊎ ((why : Lexical) × Wrong place text why)

-- Whatever is left after this place and is no longer than this is cut.
abbrev CutsLater : ℕ → Type 0
CutsLater size = (place : ℕ) (text : List ℕ) → length text ≤ size → Cuts place text

known_separator : (c : ℕ) → Known (IsSeparator c)
known_separator c = known_either (known_number c 32) (known_either (known_number c 9) (known_either (known_number c 13) (known_number c 10)))

known_short : (mark : Mark) (prefix : List ℕ) → Known (IsShort mark prefix)
known_short Word prefix = known_order (width prefix) longest_name
known_short Var prefix = known_order (width prefix) longest_name
known_short Number prefix = inl tt
known_short Colon prefix = inl tt
known_short Dot prefix = inl tt
known_short Equals prefix = inl tt
known_short Arrow prefix = inl tt
known_short LParen prefix = inl tt
known_short RParen prefix = inl tt
known_short LBrace prefix = inl tt
known_short RBrace prefix = inl tt
known_short LBracket prefix = inl tt
known_short RBracket prefix = inl tt

at_separator : (place c : ℕ) (text : List ℕ) → IsSeparator c → Cuts (place + 1) text → Cuts place (c ∷ text)
at_separator place c text is (inl h) = inl (h.0, separator place c text h.0 is h.1)
at_separator place c text is (inr h) = inr (h.0, after_separator place c text h.0 is h.1)

line_feed : (c : ℕ) → (c ≢ 10 → ⊥) → c ≡ 10
line_feed c other = grind arith

comment_before : (inside rest : List ℕ) → AllByRecursion (λ c. c ≢ 10) inside → StopsBefore (λ c. c ≢ 10) rest → IsCommentBefore inside rest
comment_before inside [] all stops = all
comment_before inside (c ∷ rest) all stops = (all, line_feed c stops)

at_comment : (place c : ℕ) (text : List ℕ) → c ≡ 37 → (run : Passed (λ x. x ≢ 10) text) → Cuts (place + 1 + width run.passed) run.rest →
    Cuts place (c ∷ text)
at_comment place c text is run (inl h) =
    inl (h.0, comment place c run.passed run.rest text h.0 is run.text_is (comment_before run.passed run.rest run.all run.stops) h.1)
at_comment place c text is run (inr h) =
    inr (h.0, after_comment place c run.passed run.rest text h.0 is run.text_is (comment_before run.passed run.rest run.all run.stops) h.1)

comment_shorter : (text passed rest : List ℕ) (size : ℕ) → text ≡ passed ++ rest → length text ≤ size → length rest ≤ size
comment_shorter text passed rest size e le = let a = ap length e in let b = length-append passed rest in omega arith

some_length : (mark : Mark) (prefix : List ℕ) → Forms mark prefix → 0 < length prefix
some_length mark [] h = absurd (Forms-some mark h)
some_length mark (c ∷ prefix) h = omega arith

token_shorter : (text prefix rest : List ℕ) (size : ℕ) → text ≡ prefix ++ rest → 0 < length prefix → length text ≤ suc size → length rest ≤ size
token_shorter text prefix rest size e some le = let a = ap length e in let b = length-append prefix rest in omega arith

at_token : (place : ℕ) (text : List ℕ) (first : FirstToken text) → IsShort first.mark first.prefix → Cuts (place + width first.prefix) first.rest →
    Cuts place text
at_token place text first short (inl h) =
    let next : Token = record { mark = first.mark; start = place; end = place + width first.prefix } in
    inl (next ∷ h.0, token place first.prefix first.rest text next h.0 first.text_is first.longest short refl refl h.1)
at_token place text first short (inr h) =
    inr (h.0, after_token place first.mark first.prefix first.rest text h.0 first.text_is first.longest short h.1)

at_first : (size place : ℕ) (text : List ℕ) (first : FirstToken text) → length text ≤ suc size → CutsLater size → Known (IsShort first.mark first.prefix) →
    Cuts place text
at_first size place text first le later (inl short) =
    at_token place text first short
    (later (place + width first.prefix) first.rest
    (token_shorter text first.prefix first.rest size first.text_is (some_length first.mark first.prefix first.longest.forms) le))
at_first size place text first le later (inr long) =
    inr (long_name place, too_long place first.mark first.prefix first.rest text first.text_is first.longest long)

at_other : (size place c : ℕ) (text : List ℕ) → length (c ∷ text) ≤ suc size → CutsLater size → (IsSeparator c → ⊥) → c ≢ 37 → Starts (c ∷ text) →
    Cuts place (c ∷ text)
at_other size place c text le later no_separator no_percent (inl first) =
    at_first size place (c ∷ text) first le later (known_short first.mark first.prefix)
at_other size place c text le later no_separator no_percent (inr none) =
    inr (bad_character place, no_token place c text no_separator no_percent none)

at_some : (size place c : ℕ) (text : List ℕ) → length (c ∷ text) ≤ suc size → CutsLater size → Known (IsSeparator c) → Known (c ≡ 37) → Cuts place (c ∷ text)
at_some size place c text le later (inl is) percent = at_separator place c text is (later (place + 1) text (omega arith))
at_some size place c text le later (inr no_separator) (inl percent) =
    let run : Passed (λ x. x ≢ 10) text = passed_of (λ x. x ≢ 10) (λ x. known_other x 10) text in
    at_comment place c text percent run
    (later (place + 1 + width run.passed) run.rest (comment_shorter text run.passed run.rest size run.text_is (omega arith)))
at_some size place c text le later (inr no_separator) (inr no_percent) =
    at_other size place c text le later no_separator no_percent (start_of c text)

cuts_within : (size place : ℕ) (text : List ℕ) → length text ≤ size → Cuts place text
cuts_within zero place [] le = inl ([], nothing place)
cuts_within zero place (c ∷ text) le = absurd (omega arith)
cuts_within (suc size) place [] le = inl ([], nothing place)
cuts_within (suc size) place (c ∷ text) le =
    at_some size place c text le (λ after left short. cuts_within size after left short) (known_separator c) (known_number c 37)

pub cuts : (place : ℕ) (text : List ℕ) → Cuts place text
cuts place text = cuts_within (length text) place text (omega arith)
