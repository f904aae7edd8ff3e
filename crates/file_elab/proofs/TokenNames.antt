-- The words of a text other than `type` are names of the grammar.
use Rattle.std.proofs.Common.{◌≡◌, ℕ, ◌+◌, ◌-◌, ◌<◌, ◌≤◌, Bool, true, false, if◌then◌else◌, List, [], ◌∷◌, ◌++◌, length, take, drop, append_assoc, sym, ap, ◌∙◌, refl, subst, arith}
use Rattle.std.specs.Prelude.{codes, slice_range, encode_utf8_all}
use Rattle.std.specs.Char.{IsScalar}
use Rattle.std.specs.List.{AllByRecursion}
use Rattle.std.specs.Str.{bytes_eq}
use Rattle.std.proofs.lemmas.Bool.{false≢true}
use Rattle.std.proofs.lemmas.List.{drop_at, take_at, length-append}
use Rattle.std.proofs.lemmas.Slice.Eq.{bytes_eq-Decides}
use Rattle.std.proofs.lemmas.Str.{encodes-append, encode_ascii}
use Rattle.basics.specs.Limits.{longest_name}
use Rattle.lex_text.specs.declared.mark.Mark.{Mark}
use Rattle.lex_text.specs.declared.mark.Mark.TheVariants as mark
use Rattle.lex_text.specs.declared.token.Token.{Token}
use Rattle.lex_text.specs.Characters.{width, IsSeparator}
use Rattle.lex_text.specs.Tokens.{IsWord, Forms, IsShort, Cut, nothing, separator, comment, token, TokensOf, text_of}
use Rattle.file_trees.specs.declared.span.Span.{Span}
use Rattle.file_syntax.specs.declared.terminal.Keyword.{Keyword}
use Rattle.file_syntax.specs.declared.terminal.Terminal.{Terminal}
use Rattle.file_syntax.specs.declared.terminal.Terminal.TheVariants.{TypeWord, Word}
use Rattle.file_syntax.specs.Terminals.{terminal_of, terminals_of}
use Rattle.file_elab.specs.GrammarNames.{IsGrammarName}

-- The bytes of a span are a name of the grammar.
abbrev pub IsNameAt : List ℕ → Span → Type 0
IsNameAt bytes span = IsGrammarName (slice_range bytes span.start span.end)

-- Where the terminal is a word, its span is one of these.
abbrev pub IsWordWithin : (Span → Type 0) → Terminal → Type 0
IsWordWithin P (Word word span) = P span
IsWordWithin P _ = Unit {0}

-- The text from this place on is what is left of the bytes.
record IsLeft (bytes : List ℕ) (place : ℕ) (text : List ℕ) : Type 0 where
  before : List ℕ
  parts : bytes ≡ before ++ encode_utf8_all text
  place_is : place ≡ length before
  scalars : AllByRecursion IsScalar text

all_prefix : (P : ℕ → Type 0) (prefix rest : List ℕ) → AllByRecursion P (prefix ++ rest) → AllByRecursion P prefix
all_prefix P [] rest all = tt
all_prefix P (c ∷ prefix) rest all = (all.0, all_prefix P prefix rest all.1)

all_rest : (P : ℕ → Type 0) (prefix rest : List ℕ) → AllByRecursion P (prefix ++ rest) → AllByRecursion P rest
all_rest P [] rest all = all
all_rest P (c ∷ prefix) rest all = all_rest P prefix rest all.1

parts_past : (bytes before text prefix rest : List ℕ) → bytes ≡ before ++ encode_utf8_all text → text ≡ prefix ++ rest →
    bytes ≡ before ++ (encode_utf8_all prefix ++ encode_utf8_all rest)
parts_past bytes before text prefix rest parts text_is =
    parts ∙ ap (λ bs. before ++ bs) (ap encode_utf8_all text_is ∙ encodes-append prefix rest)

past : {bytes text : List ℕ} {place : ℕ} (prefix rest : List ℕ) (next : ℕ) → IsLeft bytes place text → text ≡ prefix ++ rest → next ≡ place + width prefix →
    IsLeft bytes next rest
past {bytes = bytes} {text = text} {place = place} prefix rest next left text_is next_is = record {
  before = left.before ++ encode_utf8_all prefix;
  parts = parts_past bytes left.before text prefix rest left.parts text_is ∙ sym (append_assoc left.before (encode_utf8_all prefix) (encode_utf8_all rest));
  place_is = (let l = length-append left.before (encode_utf8_all prefix) in let e = left.place_is in omega (arith, l, e, next_is));
  scalars = all_rest IsScalar prefix rest (subst (AllByRecursion IsScalar) text_is left.scalars);
}

middle_is : (before middle rest bytes : List ℕ) (start end : ℕ) → bytes ≡ before ++ (middle ++ rest) → start ≡ length before → end ≡ start + length middle →
    slice_range bytes start end ≡ middle
middle_is before middle rest bytes start end parts start_is end_is =
    ap (λ bs. take (end - start) (drop start bs)) parts
    ∙ (ap (take (end - start)) (drop_at before (middle ++ rest) start (sym start_is)) ∙ take_at middle rest (end - start) (omega arith))

-- the text of a token
piece_is : {bytes text : List ℕ} {place : ℕ} (prefix rest : List ℕ) (next : Token) → IsLeft bytes place text → text ≡ prefix ++ rest → next.start ≡ place →
    next.end ≡ place + width prefix → text_of bytes next ≡ encode_utf8_all prefix
piece_is {bytes = bytes} {text = text} {place = place} prefix rest next left text_is start_is end_is =
    middle_is left.before (encode_utf8_all prefix) (encode_utf8_all rest) bytes next.start next.end (parts_past bytes left.before text prefix rest left.parts text_is)
    (start_is ∙ left.place_is) (end_is ∙ ap (λ n. n + width prefix) (sym start_is))

grammar_name : (prefix text : List ℕ) → text ≡ encode_utf8_all prefix → AllByRecursion IsScalar prefix → IsWord prefix → width prefix ≤ longest_name → bytes_eq text (codes "type") ≡ false →
    IsGrammarName text
grammar_name prefix text text_is scalars word short other = record {
  characters = prefix;
  spelled = record { scalars = scalars; encoded = sym text_is };
  word = word;
  short = let l = ap length text_is in omega (arith, l, short);
  other = λ same. false≢true (sym other ∙ (bytes_eq-Decides text (codes "type")).1 same);
}

word_within : (P : Span → Type 0) (is_type : Bool) (word : Keyword) (span : Span) → (is_type ≡ false → P span) →
    IsWordWithin P (if is_type then TypeWord span else Word word span)
word_within P true word span named = tt
word_within P false word span named = named refl

-- A token that is a word other than `type` is a name.
named_token : (bytes prefix : List ℕ) (kind : Mark) (start end : ℕ) → slice_range bytes start end ≡ encode_utf8_all prefix → AllByRecursion IsScalar prefix →
    Forms kind prefix → IsShort kind prefix → IsWordWithin (IsNameAt bytes) (terminal_of bytes (record { mark = kind; start = start; end = end }))
named_token bytes prefix mark.Word start end text_is scalars forms short =
    let text = slice_range bytes start end in
    word_within (IsNameAt bytes) (bytes_eq text (codes "type")) _ (record { start = start; end = end }) (grammar_name prefix text text_is scalars forms short)
named_token bytes prefix mark.Var start end text_is scalars forms short = tt
named_token bytes prefix mark.Number start end text_is scalars forms short = tt
named_token bytes prefix mark.Colon start end text_is scalars forms short = tt
named_token bytes prefix mark.Dot start end text_is scalars forms short = tt
named_token bytes prefix mark.Equals start end text_is scalars forms short = tt
named_token bytes prefix mark.Arrow start end text_is scalars forms short = tt
named_token bytes prefix mark.LParen start end text_is scalars forms short = tt
named_token bytes prefix mark.RParen start end text_is scalars forms short = tt
named_token bytes prefix mark.LBrace start end text_is scalars forms short = tt
named_token bytes prefix mark.RBrace start end text_is scalars forms short = tt
named_token bytes prefix mark.LBracket start end text_is scalars forms short = tt
named_token bytes prefix mark.RBracket start end text_is scalars forms short = tt

width_one : (c : ℕ) (rest : List ℕ) → c < 128 → width (c ∷ rest) ≡ 1 + width rest
width_one c rest small =
    let l : width (c ∷ rest) ≡ length (c ∷ encode_utf8_all rest) = ap (λ prefix. length (prefix ++ encode_utf8_all rest)) (encode_ascii c small) in
    omega (arith, l)

separator_small : (c : ℕ) → IsSeparator c → c < 128
separator_small c is = grind arith

words_in : {bytes text : List ℕ} {place : ℕ} {tokens : List Token} → Cut place text tokens → IsLeft bytes place text →
    AllByRecursion (IsWordWithin (IsNameAt bytes)) (terminals_of bytes tokens)
words_in (nothing place) left = tt
words_in (separator place c rest tokens is cut) left =
    words_in cut (past (c ∷ []) rest (place + 1) left refl (let w = width_one c [] (separator_small c is) in omega (arith, w)))
words_in (comment place c inside rest text tokens is text_is before cut) left =
    words_in cut (past (c ∷ inside) rest (place + 1 + width inside) left (ap (λ cs. c ∷ cs) text_is) (let w = width_one c inside (omega (arith, is)) in omega (arith, w)))
words_in {bytes = bytes} (token place prefix rest text next tokens text_is longest short start_is end_is cut) left = (
  named_token bytes prefix next.mark next.start next.end (piece_is prefix rest next left text_is start_is end_is)
      (all_prefix IsScalar prefix rest (subst (AllByRecursion IsScalar) text_is left.scalars)) longest.forms short,
  words_in cut (past prefix rest next.end left text_is end_is),
)

pub words_are_names : (bytes : List ℕ) (tokens : List Token) → TokensOf bytes tokens → AllByRecursion (IsWordWithin (IsNameAt bytes)) (terminals_of bytes tokens)
words_are_names bytes tokens cut =
    words_in cut.2 (record { before = []; parts = sym cut.1.encoded; place_is = refl; scalars = cut.1.scalars })
