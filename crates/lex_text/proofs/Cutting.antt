-- The tokens read so far, and what they say of the whole text.
use Rattle.std.proofs.Common.{◌≡◌, ◌≢◌, ℕ, ◌+◌, ◌<◌, ◌≤◌, List, [], ◌∷◌, ◌++◌, length, get_or, drop, append_assoc, sym, ap, ◌∙◌, subst, arith}
use Rattle.std.specs.Prelude.{encode_utf8_all, All}
use Rattle.std.specs.Char.{len_utf8}
use Rattle.std.specs.List.{AllByRecursion}
use Rattle.std.specs.Str.{chars, IsUtf8}
use Rattle.std.proofs.lemmas.List.{append-nil, length-drop}
use Rattle.std.proofs.lemmas.List.Elements.{All-nil, All-push}
use Rattle.lex_text.specs.declared.mark.Mark.{Mark}
use Rattle.lex_text.specs.declared.mark.Mark.TheVariants.{Word, Var, Number, Colon, Dot, Equals, Arrow, LParen, RParen, LBrace, RBrace, LBracket, RBracket}
use Rattle.lex_text.specs.declared.token.Token.{Token}
use Rattle.lex_text.specs.Characters.{width, IsSeparator}
use Rattle.lex_text.specs.Tokens.{IsShort, IsCommentBefore, Cut, nothing, separator, comment, token, Lexical, bad_character, long_name, Wrong, after_separator, after_comment, after_token, no_token, too_long, IsWithin}
use Rattle.lex_text.specs.Reading.{from_place, IsPlace, Reads, Passes, StopsBefore, IsTokenAt, BeginNoToken, IsNext, IsShortSize}
use Rattle.lex_text.proofs.Places.{IsPlace-start, Reads-from_spelled, Reads-ascii, Reads-text, Reads-byte, from_place-end}

-- What is known at a place of a text where a token, a separator or a comment ended.
pub record Cutting (text : List ℕ) (so_far : List Token) (place : ℕ) : Type 0 where
  pub boundary : IsPlace text place
  pub cuts : (tokens : List Token) → Cut place (from_place text place) tokens → Cut 0 (chars text) (so_far ++ tokens)
  pub wrongs : (why : Lexical) → Wrong place (from_place text place) why → Wrong 0 (chars text) why
  pub within : All (IsWithin (length text)) so_far

pub Cutting-start : (text : List ℕ) → IsUtf8 text → Cutting text [] 0
Cutting-start text u = record {
  boundary = IsPlace-start text u;
  cuts = λ tokens h. h;
  wrongs = λ why h. h;
  within = All-nil (IsWithin (length text));
}

pub Cutting-end : (text : List ℕ) (so_far : List Token) (place : ℕ) → Cutting text so_far place → length text ≤ place → Cut 0 (chars text) so_far
Cutting-end text so_far place h end =
    subst (Cut 0 (chars text)) (append-nil so_far)
    (h.cuts [] (subst (λ cs. Cut place cs []) (sym (from_place-end text place end)) (nothing place)))

separator_ascii : (c : ℕ) → IsSeparator c → c < 128
separator_ascii c h = grind arith

module _ (text : List ℕ) (so_far : List Token) (place : ℕ) (h : Cutting text so_far place) where
  past_character : (c : ℕ) → Reads text place c (place + 1) → IsSeparator c → Cutting text so_far (place + 1)
  past_character c reads is =
      let same = Reads-text text place c (place + 1) h.boundary reads in
      let rest = from_place text (place + 1) in
      record {
        boundary = reads.next_place;
        cuts = λ tokens cut. h.cuts tokens (subst (λ cs. Cut place cs tokens) (sym same) (separator place c rest tokens is cut));
        wrongs = λ why wrong. h.wrongs why (subst (λ cs. Wrong place cs why) (sym same) (after_separator place c rest why is wrong));
        within = h.within;
      }

  pub Cutting-separator : place < length text → IsSeparator (get_or text place 0) → Cutting text so_far (place + 1)
  Cutting-separator some is =
      past_character (get_or text place 0) (Reads-ascii text place h.boundary some (separator_ascii (get_or text place 0) is)) is

  line_feed : (c : ℕ) → (c ≢ 10 → ⊥) → c ≡ 10
  line_feed c other = grind arith

  comment_before : (inside rest : List ℕ) → AllByRecursion (λ c. c ≢ 10) inside → StopsBefore (λ c. c ≢ 10) rest → IsCommentBefore inside rest
  comment_before inside [] all stops = all
  comment_before inside (c ∷ rest) all stops = (all, line_feed c stops)

  pub Cutting-comment : (end : ℕ) → place < length text → get_or text place 0 ≡ 37 → Passes (λ c. c ≢ 10) text (place + 1) end →
      StopsBefore (λ c. c ≢ 10) (from_place text end) → Cutting text so_far end
  Cutting-comment end some is run stops =
      let c = get_or text place 0 in
      let reads = Reads-ascii text place h.boundary some (omega arith) in
      let same = Reads-text text place c (place + 1) h.boundary reads in
      let rest = from_place text end in
      let before = comment_before run.passed rest run.all stops in
      record {
        boundary = run.end_place;
        cuts = λ tokens cut. h.cuts tokens (subst (λ cs. Cut place cs tokens) (sym same)
            (comment place c run.passed rest (from_place text (place + 1)) tokens is run.text_is before (subst (λ n. Cut n rest tokens) run.end_is cut)));
        wrongs = λ why wrong. h.wrongs why (subst (λ cs. Wrong place cs why) (sym same)
            (after_comment place c run.passed rest (from_place text (place + 1)) why is run.text_is before (subst (λ n. Wrong n rest why) run.end_is wrong)));
        within = h.within;
      }

  next_within : (next : Token) → IsNext text place next → IsWithin (length text) next
  next_within next n = record {
    some = let e = n.start_is in let some = n.found.some in omega arith;
    fits = n.found.end_place.within;
  }

  pub Cutting-token : (next : Token) → IsNext text place next → Cutting text (so_far ++ next ∷ []) next.end
  Cutting-token next n =
      let found = n.found in
      let rest = from_place text next.end in
      record {
        boundary = found.end_place;
        cuts = λ tokens cut. subst (Cut 0 (chars text)) (sym (append_assoc so_far (next ∷ []) tokens)) (h.cuts (next ∷ tokens)
            (token place found.prefix rest (from_place text place) next tokens found.text_is found.longest n.short n.start_is found.end_is cut));
        wrongs = λ why wrong. h.wrongs why
            (after_token place next.mark found.prefix rest (from_place text place) why found.text_is found.longest n.short
            (subst (λ n. Wrong n rest why) found.end_is wrong));
        within = All-push (IsWithin (length text)) so_far next h.within (next_within next n);
      }

-- Where characters are left, one stands at the place.
record SomeReads (text : List ℕ) (place : ℕ) : Type 0 where
  character : ℕ
  reads : Reads text place character (place + len_utf8 character)

some_reads : (text : List ℕ) (place : ℕ) → IsPlace text place → (cs : List ℕ) → encode_utf8_all cs ≡ drop place text → 0 < length (drop place text) → SomeReads text place
some_reads text place at [] e some = let l = ap length e in absurd (omega arith)
some_reads text place at (c ∷ cs) e some = record {
  character = c;
  reads = Reads-from_spelled text (encode_utf8_all cs) place c at (sym e);
}

Reads-some : (text : List ℕ) (place : ℕ) → IsPlace text place → place < length text → SomeReads text place
Reads-some text place at some =
    some_reads text place at at.utf8.0 at.utf8.1.1 (let l = length-drop place text in omega arith)

module _ (text : List ℕ) (place : ℕ) (at : IsPlace text place) where
  no_token_here : (c next : ℕ) → Reads text place c next → (IsSeparator (get_or text place 0) → ⊥) → get_or text place 0 ≢ 37 →
      BeginNoToken (from_place text place) → Wrong place (from_place text place) (bad_character place)
  no_token_here c next reads no_separator no_percent none =
      let same = Reads-text text place c next at reads in
      subst (λ cs. Wrong place cs (bad_character place)) (sym same)
      (no_token place c (from_place text next)
      (λ is. no_separator (subst IsSeparator (sym (Reads-byte text place c next reads (separator_ascii c is))) is))
      (λ is. no_percent (Reads-byte text place c next reads (omega arith) ∙ is))
      (subst BeginNoToken same none))

  pub Wrong-no_token : place < length text → (IsSeparator (get_or text place 0) → ⊥) → get_or text place 0 ≢ 37 →
      BeginNoToken (from_place text place) → Wrong place (from_place text place) (bad_character place)
  Wrong-no_token some no_separator no_percent none =
      let here = Reads-some text place at some in
      no_token_here here.character (place + len_utf8 here.character) here.reads no_separator no_percent none

  pub Wrong-too_long : (mark : Mark) (end : ℕ) (found : IsTokenAt text place mark end) → (IsShort mark found.prefix → ⊥) →
      Wrong place (from_place text place) (long_name place)
  Wrong-too_long mark end found long =
      too_long place mark found.prefix (from_place text end) (from_place text place) found.text_is found.longest long

-- how many bytes a token has, by its prefix and by its places
pub IsShort-from_size : (mark : Mark) (prefix : List ℕ) (size : ℕ) → size ≡ width prefix → IsShortSize mark size → IsShort mark prefix
IsShort-from_size Word prefix size e h = omega arith
IsShort-from_size Var prefix size e h = omega arith
IsShort-from_size Number prefix size e h = tt
IsShort-from_size Colon prefix size e h = tt
IsShort-from_size Dot prefix size e h = tt
IsShort-from_size Equals prefix size e h = tt
IsShort-from_size Arrow prefix size e h = tt
IsShort-from_size LParen prefix size e h = tt
IsShort-from_size RParen prefix size e h = tt
IsShort-from_size LBrace prefix size e h = tt
IsShort-from_size RBrace prefix size e h = tt
IsShort-from_size LBracket prefix size e h = tt
IsShort-from_size RBracket prefix size e h = tt

pub IsShortSize-from_prefix : (mark : Mark) (prefix : List ℕ) (size : ℕ) → size ≡ width prefix → IsShort mark prefix → IsShortSize mark size
IsShortSize-from_prefix Word prefix size e h = omega arith
IsShortSize-from_prefix Var prefix size e h = omega arith
IsShortSize-from_prefix Number prefix size e h = tt
IsShortSize-from_prefix Colon prefix size e h = tt
IsShortSize-from_prefix Dot prefix size e h = tt
IsShortSize-from_prefix Equals prefix size e h = tt
IsShortSize-from_prefix Arrow prefix size e h = tt
IsShortSize-from_prefix LParen prefix size e h = tt
IsShortSize-from_prefix RParen prefix size e h = tt
IsShortSize-from_prefix LBrace prefix size e h = tt
IsShortSize-from_prefix RBrace prefix size e h = tt
IsShortSize-from_prefix LBracket prefix size e h = tt
IsShortSize-from_prefix RBracket prefix size e h = tt
