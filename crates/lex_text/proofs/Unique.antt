-- A text has one list of tokens at most, and none where it has a fault.
use Rattle.std.proofs.Common.{◌≡◌, ◌≢◌, ℕ, ◌+◌, inl, inr, List, [], ◌∷◌, ◌++◌, append_assoc, refl, sym, ◌∙◌, subst, arith}
use Rattle.std.specs.List.{AllByRecursion}
use Rattle.std.specs.Prelude.{encode_utf8, encode_utf8_all}
use Rattle.std.specs.Char.{IsScalar}
use Rattle.std.proofs.lemmas.Str.{encodes_same, cons_from_encodes}
use Rattle.lex_text.specs.declared.mark.Mark.{Mark}
use Rattle.lex_text.specs.declared.token.Token.{Token}
use Rattle.lex_text.specs.Characters.{width, Spells, NoCharacter, NotUtf8At, IsSeparator}
use Rattle.lex_text.specs.Tokens.{Forms, IsLongest, IsShort, IsCommentBefore, Cut, nothing, separator, comment, token, Lexical, Wrong, after_separator, after_comment, after_token, no_token, too_long, TokensOf, WrongText}
use Rattle.lex_text.proofs.Prefixes.{GoesOn, one_goes_on, same_prefix, same_rest, head_is}
use Rattle.lex_text.proofs.Forms.{AllByRecursion-right, Forms-mark_unique, Forms-some, Forms-no_separator, Forms-no_percent}

-- The longest tokens at a place are one.
pub record SameFirst (mark other : Mark) (prefix rest more left : List ℕ) : Type 0 where
  pub mark_is : mark ≡ other
  pub prefix_is : prefix ≡ more
  pub rest_is : rest ≡ left

nothing_more : (mark other : Mark) (prefix rest longer left : List ℕ) (h : GoesOn prefix rest longer left) →
    IsLongest mark prefix rest → Forms other longer → h.more ≡ []
nothing_more mark other prefix rest longer left h first forms =
    first.longest other h.more left h.rest_is (subst (Forms other) h.prefix_is forms)

same_marks : (mark other : Mark) (prefix more : List ℕ) → prefix ≡ more → Forms mark prefix → Forms other more → mark ≡ other
same_marks mark other prefix more e h k = Forms-mark_unique mark other more (subst (Forms mark) e h) k

pub IsLongest-unique : (mark other : Mark) (prefix rest more left : List ℕ) → prefix ++ rest ≡ more ++ left →
    IsLongest mark prefix rest → IsLongest other more left → SameFirst mark other prefix rest more left
IsLongest-unique mark other prefix rest more left e first second =
    elim (one_goes_on prefix rest more left e) [
      | inl h ↦
          let none = nothing_more mark other prefix rest more left h first second.forms in
          let same = sym (same_prefix prefix rest more left h none) in
          record {
            mark_is = same_marks mark other prefix more same first.forms second.forms;
            prefix_is = same;
            rest_is = sym (same_rest prefix rest more left h none);
          }
      | inr h ↦
          let none = nothing_more other mark more left prefix rest h second first.forms in
          let same = same_prefix more left prefix rest h none in
          record {
            mark_is = same_marks mark other prefix more same first.forms second.forms;
            prefix_is = same;
            rest_is = same_rest more left prefix rest h none;
          }
    ]

inside_of : (inside rest : List ℕ) → IsCommentBefore inside rest → AllByRecursion (λ c. c ≢ 10) inside
inside_of inside [] h = h
inside_of inside (c ∷ rest) h = h.0

-- A comment that goes on past another's end has the line feed that ends it.
no_more : (inside rest more left : List ℕ) → IsCommentBefore inside rest → rest ≡ more ++ left →
    AllByRecursion (λ c. c ≢ 10) more → more ≡ []
no_more inside rest [] left h e all = refl
no_more inside [] (d ∷ more) left h e all = cc
no_more inside (c ∷ rest) (d ∷ more) left h e all = absurd (all.0 (sym (head_is e) ∙ h.1))

comment_stops : (inside rest longer left : List ℕ) (h : GoesOn inside rest longer left) →
    IsCommentBefore inside rest → IsCommentBefore longer left → h.more ≡ []
comment_stops inside rest longer left h first second =
    no_more inside rest h.more left first h.rest_is
    (AllByRecursion-right (λ c. c ≢ 10) inside h.more (subst (AllByRecursion (λ c. c ≢ 10)) h.prefix_is (inside_of longer left second)))

-- The ends of a comment are one.
record SameEnd (inside rest longer left : List ℕ) : Type 0 where
  inside_is : inside ≡ longer
  rest_is : rest ≡ left

comment_end : (inside rest longer left : List ℕ) → inside ++ rest ≡ longer ++ left →
    IsCommentBefore inside rest → IsCommentBefore longer left → SameEnd inside rest longer left
comment_end inside rest longer left e first second =
    elim (one_goes_on inside rest longer left e) [
      | inl h ↦
          let none = comment_stops inside rest longer left h first second in
          record {
            inside_is = sym (same_prefix inside rest longer left h none);
            rest_is = sym (same_rest inside rest longer left h none);
          }
      | inr h ↦
          let none = comment_stops longer left inside rest h second first in
          record {
            inside_is = same_prefix longer left inside rest h none;
            rest_is = same_rest longer left inside rest h none;
          }
    ]

-- neither a separator nor a percent sign is the first character of a token
no_token_at_separator : (mark : Mark) (c : ℕ) (text prefix rest : List ℕ) → IsSeparator c → c ∷ text ≡ prefix ++ rest → Forms mark prefix → ⊥
no_token_at_separator mark c text [] rest s e h = Forms-some mark h
no_token_at_separator mark c text (d ∷ prefix) rest s e h = Forms-no_separator mark d prefix (subst IsSeparator (head_is e) s) h

no_token_at_percent : (mark : Mark) (c : ℕ) (text prefix rest : List ℕ) → c ≡ 37 → c ∷ text ≡ prefix ++ rest → Forms mark prefix → ⊥
no_token_at_percent mark c text [] rest s e h = Forms-some mark h
no_token_at_percent mark c text (d ∷ prefix) rest s e h = Forms-no_percent mark d prefix (sym (head_is e) ∙ s) h

no_token_at_end : (mark : Mark) (prefix rest : List ℕ) → [] ≡ prefix ++ rest → Forms mark prefix → ⊥
no_token_at_end mark [] rest e h = Forms-some mark h
no_token_at_end mark (c ∷ prefix) rest e h = cc

no_percent_separator : (c : ℕ) → IsSeparator c → c ≡ 37 → ⊥
no_percent_separator c s e = grind arith

-- What the tokens of a text are, by what it begins with.
record BeginsWith (mark : Mark) (place : ℕ) (prefix rest : List ℕ) (tokens : List Token) : Type 0 where
  first : Token
  others : List Token
  tokens_are : tokens ≡ first ∷ others
  mark_is : first.mark ≡ mark
  start_is : first.start ≡ place
  end_is : first.end ≡ place + width prefix
  short : IsShort mark prefix
  goes_on : Cut (place + width prefix) rest others

cut_at_end : {place : ℕ} {tokens : List Token} → Cut place [] tokens → tokens ≡ []
cut_at_end (nothing place) = refl
cut_at_end (token place prefix rest text next tokens e first short s t cut) = absurd (no_token_at_end next.mark prefix rest e first.forms)

cut_at_separator : {place c : ℕ} {rest : List ℕ} {tokens : List Token} → IsSeparator c → Cut place (c ∷ rest) tokens → Cut (place + 1) rest tokens
cut_at_separator h (separator place c rest tokens s cut) = cut
cut_at_separator h (comment place c inside rest text tokens e text_is before cut) = absurd (no_percent_separator c h e)
cut_at_separator {c = c} {rest = text} h (token place prefix rest _ next tokens e first short s t cut) =
    absurd (no_token_at_separator next.mark c text prefix rest h e first.forms)

same_cut : (inside rest longer left : List ℕ) (place : ℕ) (tokens : List Token) → SameEnd inside rest longer left →
    Cut (place + 1 + width longer) left tokens → Cut (place + 1 + width inside) rest tokens
same_cut inside rest longer left place tokens h cut = rw (h.inside_is, h.rest_is) cut

cut_at_comment : {place c : ℕ} {text : List ℕ} {tokens : List Token} (inside rest : List ℕ) → c ≡ 37 → text ≡ inside ++ rest →
    IsCommentBefore inside rest → Cut place (c ∷ text) tokens → Cut (place + 1 + width inside) rest tokens
cut_at_comment inside rest is_percent text_is before (separator place c text tokens s cut) = absurd (no_percent_separator c s is_percent)
cut_at_comment inside rest is_percent text_is before (comment place c longer left text tokens e same ends cut) =
    same_cut inside rest longer left place tokens (comment_end inside rest longer left (sym text_is ∙ same) before ends) cut
cut_at_comment {c = c} {text = text} inside rest is_percent text_is before (token place prefix left _ next tokens e first short s t cut) =
    absurd (no_token_at_percent next.mark c text prefix left is_percent e first.forms)

same_token : (mark : Mark) (place : ℕ) (prefix rest more left : List ℕ) (next : Token) (tokens : List Token) →
    SameFirst mark next.mark prefix rest more left → IsShort next.mark more → next.start ≡ place →
    next.end ≡ place + width more → Cut next.end left tokens → BeginsWith mark place prefix rest (next ∷ tokens)
same_token mark place prefix rest more left next tokens h short starts ends cut = record {
  first = next;
  others = tokens;
  tokens_are = refl;
  mark_is = sym h.mark_is;
  start_is = starts;
  end_is = rw h.prefix_is ends;
  short = rw (h.mark_is, h.prefix_is) short;
  goes_on = rw (h.prefix_is, h.rest_is) (rw ends at cut);
}

cut_at_token : {place : ℕ} {text : List ℕ} {tokens : List Token} (mark : Mark) (prefix rest : List ℕ) → text ≡ prefix ++ rest →
    IsLongest mark prefix rest → Cut place text tokens → BeginsWith mark place prefix rest tokens
cut_at_token mark prefix rest text_is longest (nothing place) = absurd (no_token_at_end mark prefix rest text_is longest.forms)
cut_at_token mark prefix rest text_is longest (separator place c text tokens s cut) =
    absurd (no_token_at_separator mark c text prefix rest s text_is longest.forms)
cut_at_token mark prefix rest text_is longest (comment place c inside left text tokens e same before cut) =
    absurd (no_token_at_percent mark c text prefix rest e text_is longest.forms)
cut_at_token mark prefix rest text_is longest (token place more left text next tokens e first short s t cut) =
    same_token mark place prefix rest more left next tokens
    (IsLongest-unique mark next.mark prefix rest more left (sym text_is ∙ e) longest first) short s t cut

token_is : (a b : Token) → a.mark ≡ b.mark → a.start ≡ b.start → a.end ≡ b.end → a ≡ b
token_is a b m s e = λ i. record { mark = m i; start = s i; end = e i }

same_tokens : (next : Token) (place : ℕ) (prefix rest : List ℕ) (tokens us : List Token) →
    next.start ≡ place → next.end ≡ place + width prefix → (h : BeginsWith next.mark place prefix rest us) → tokens ≡ h.others → next ∷ tokens ≡ us
same_tokens next place prefix rest tokens us s t h same =
    let first_is = token_is next h.first (sym h.mark_is) (s ∙ sym h.start_is) (t ∙ sym h.end_is) in
    let us_are = h.tokens_are in
    cc

pub Cut-unique : {place : ℕ} {text : List ℕ} {ts us : List Token} → Cut place text ts → Cut place text us → ts ≡ us
Cut-unique (nothing place) other = sym (cut_at_end other)
Cut-unique (separator place c rest tokens s cut) other = Cut-unique cut (cut_at_separator s other)
Cut-unique (comment place c inside rest text tokens e text_is before cut) other =
    Cut-unique cut (cut_at_comment inside rest e text_is before other)
Cut-unique {us = us} (token place prefix rest text next tokens e first short s t cut) other =
    let h = cut_at_token next.mark prefix rest e first other in
    same_tokens next place prefix rest tokens us s t h (Cut-unique cut (rw t h.goes_on))

-- A text with a fault has no tokens.
wrong_at_end : {place : ℕ} {why : Lexical} → Wrong place [] why → ⊥
wrong_at_end (after_token place mark prefix rest text why e first short wrong) = no_token_at_end mark prefix rest e first.forms
wrong_at_end (too_long place mark prefix rest text e first long) = no_token_at_end mark prefix rest e first.forms

wrong_at_separator : {place c : ℕ} {rest : List ℕ} {why : Lexical} → IsSeparator c → Wrong place (c ∷ rest) why → Wrong (place + 1) rest why
wrong_at_separator h (after_separator place c rest why s wrong) = wrong
wrong_at_separator h (after_comment place c inside rest text why e text_is before wrong) = absurd (no_percent_separator c h e)
wrong_at_separator {c = c} {rest = text} h (after_token place mark prefix rest _ why e first short wrong) =
    absurd (no_token_at_separator mark c text prefix rest h e first.forms)
wrong_at_separator h (no_token place c rest no_separator no_percent none) = absurd (no_separator h)
wrong_at_separator {c = c} {rest = text} h (too_long place mark prefix rest _ e first long) =
    absurd (no_token_at_separator mark c text prefix rest h e first.forms)

same_wrong : (inside rest longer left : List ℕ) (place : ℕ) (why : Lexical) → SameEnd inside rest longer left →
    Wrong (place + 1 + width longer) left why → Wrong (place + 1 + width inside) rest why
same_wrong inside rest longer left place why h wrong = rw (h.inside_is, h.rest_is) wrong

wrong_at_comment : {place c : ℕ} {text : List ℕ} {why : Lexical} (inside rest : List ℕ) → c ≡ 37 → text ≡ inside ++ rest →
    IsCommentBefore inside rest → Wrong place (c ∷ text) why → Wrong (place + 1 + width inside) rest why
wrong_at_comment inside rest is_percent text_is before (after_separator place c text why s wrong) = absurd (no_percent_separator c s is_percent)
wrong_at_comment inside rest is_percent text_is before (after_comment place c longer left text why e same ends wrong) =
    same_wrong inside rest longer left place why (comment_end inside rest longer left (sym text_is ∙ same) before ends) wrong
wrong_at_comment {c = c} {text = text} inside rest is_percent text_is before (after_token place mark prefix left _ why e first short wrong) =
    absurd (no_token_at_percent mark c text prefix left is_percent e first.forms)
wrong_at_comment inside rest is_percent text_is before (no_token place c text no_separator no_percent none) = absurd (no_percent is_percent)
wrong_at_comment {c = c} {text = text} inside rest is_percent text_is before (too_long place mark prefix left _ e first long) =
    absurd (no_token_at_percent mark c text prefix left is_percent e first.forms)

same_wrong_token : (mark other : Mark) (prefix rest more left : List ℕ) (place : ℕ) (why : Lexical) → SameFirst mark other prefix rest more left →
    Wrong (place + width more) left why → Wrong (place + width prefix) rest why
same_wrong_token mark other prefix rest more left place why h wrong = rw (h.prefix_is, h.rest_is) wrong

same_long : (mark other : Mark) (prefix rest more left : List ℕ) → SameFirst mark other prefix rest more left →
    IsShort mark prefix → IsShort other more
same_long mark other prefix rest more left h short = rw (← h.mark_is, ← h.prefix_is) short

wrong_at_token : {place : ℕ} {text : List ℕ} {why : Lexical} (mark : Mark) (prefix rest : List ℕ) → text ≡ prefix ++ rest →
    IsLongest mark prefix rest → IsShort mark prefix → Wrong place text why → Wrong (place + width prefix) rest why
wrong_at_token mark prefix rest text_is longest is_short (after_separator place c text why s wrong) =
    absurd (no_token_at_separator mark c text prefix rest s text_is longest.forms)
wrong_at_token mark prefix rest text_is longest is_short (after_comment place c inside left text why e same before wrong) =
    absurd (no_token_at_percent mark c text prefix rest e text_is longest.forms)
wrong_at_token mark prefix rest text_is longest is_short (after_token place other more left text why e first short wrong) =
    same_wrong_token mark other prefix rest more left place why
    (IsLongest-unique mark other prefix rest more left (sym text_is ∙ e) longest first) wrong
wrong_at_token mark prefix rest text_is longest is_short (no_token place c text no_separator no_percent none) =
    absurd (none mark prefix rest longest.forms (sym text_is))
wrong_at_token mark prefix rest text_is longest is_short (too_long place other more left text e first long) =
    absurd (long (same_long mark other prefix rest more left
    (IsLongest-unique mark other prefix rest more left (sym text_is ∙ e) longest first) is_short))

pub Cut-not_wrong : {place : ℕ} {text : List ℕ} {ts : List Token} {why : Lexical} → Cut place text ts → Wrong place text why → ⊥
Cut-not_wrong (nothing place) wrong = wrong_at_end wrong
Cut-not_wrong (separator place c rest tokens s cut) wrong = Cut-not_wrong cut (wrong_at_separator s wrong)
Cut-not_wrong (comment place c inside rest text tokens e text_is before cut) wrong =
    Cut-not_wrong cut (wrong_at_comment inside rest e text_is before wrong)
Cut-not_wrong {why = why} (token place prefix rest text next tokens e first short s t cut) wrong =
    Cut-not_wrong {why = why} cut (rw t (wrong_at_token next.mark prefix rest e first short wrong))

-- the same by the bytes
same_characters : (bytes characters others : List ℕ) → Spells characters bytes → Spells others bytes → characters ≡ others
same_characters bytes characters others h k = encodes_same characters others (h.encoded ∙ sym k.encoded)

pub TokensOf-unique : (bytes : List ℕ) (ts us : List Token) → TokensOf bytes ts → TokensOf bytes us → ts ≡ us
TokensOf-unique bytes ts us h k =
    Cut-unique (subst (λ cs. Cut 0 cs ts) (same_characters bytes h.0 k.0 h.1 k.1) h.2) k.2

pub TokensOf-not_wrong : (bytes : List ℕ) (ts : List Token) (why : Lexical) → TokensOf bytes ts → WrongText bytes why → ⊥
TokensOf-not_wrong bytes ts why h k =
    Cut-not_wrong (subst (λ cs. Cut 0 cs ts) (same_characters bytes h.0 k.0 h.1 k.1) h.2) k.2

-- no text of characters goes on with bytes from which no character can be read
no_character_in : (characters rest : List ℕ) → AllByRecursion IsScalar characters → encode_utf8_all characters ≡ rest → NoCharacter rest → ⊥
no_character_in [] rest h e none = none.some_left (sym e)
no_character_in (c ∷ cs) rest h e none = none.none_begins c (encode_utf8_all cs) h.0 e

no_character_after : (prefix rest characters : List ℕ) → AllByRecursion IsScalar characters →
    encode_utf8_all characters ≡ encode_utf8_all prefix ++ rest → NoCharacter rest → ⊥
no_character_after [] rest characters h e none = no_character_in characters rest h e none
no_character_after (c ∷ prefix) rest characters h e none =
    let parts = cons_from_encodes characters (encode_utf8_all prefix ++ rest) c (e ∙ append_assoc (encode_utf8 c) (encode_utf8_all prefix) rest) in
    let all = subst (AllByRecursion IsScalar) parts.1 h in
    no_character_after prefix rest parts.0 all.1 parts.2 none

pub TokensOf-not_not_utf8 : (bytes : List ℕ) (ts : List Token) (place : ℕ) → TokensOf bytes ts → NotUtf8At bytes place → ⊥
TokensOf-not_not_utf8 bytes ts place h k =
    no_character_after k.0 k.1 h.0 h.1.scalars (h.1.encoded ∙ sym k.3) k.5
