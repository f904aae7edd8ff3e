-- What a token of each kind begins with: the kind is told by the first two characters.
use Rattle.std.proofs.Common.{◌≡◌, ℕ, inl, inr, List, [], ◌∷◌, ◌++◌, sym, ap, ◌∙◌, cond, Bool, true, false, arith}
use Rattle.std.specs.Prelude.{◌==◌, ◌||◌, ◌<◌}
use Rattle.std.specs.Char.{is_ascii_digit, is_ascii_alphabetic}
use Rattle.std.proofs.lemmas.Bool.Decides.{nat_tests}
use Rattle.std.specs.List.{AllByRecursion}
use Rattle.unicode_ident.specs.Ident.{is_xid_start}
use Rattle.unicode_ident.proofs.Computing.{unicode_ident}
use Rattle.unicode_ident.proofs.IdentLemmas.{is_xid_start-ascii}
use Rattle.lex_text.specs.declared.mark.Mark.{Mark}
use Rattle.lex_text.specs.declared.mark.Mark.TheVariants.{Word, Var, Number, Colon, Dot, Equals, Arrow, LParen, RParen, LBrace, RBrace, LBracket, RBracket}
use Rattle.lex_text.specs.Characters.{IsSeparator, IsDigit}
use Rattle.lex_text.specs.Tokens.{Forms, IsNumber}
use Rattle.lex_text.proofs.Prefixes.{head_is}

-- the kind of a token that begins with a minus
abbrev pub mark_after_minus : List ℕ → Mark
mark_after_minus [] = Number
mark_after_minus (c ∷ cs) = cond (c == 62) Arrow Number

-- the kind of a token that is no word
abbrev pub mark_of_other : ℕ → List ℕ → Mark
mark_of_other c cs =
    cond (is_ascii_digit c) Number
    (cond (c == 95) Var
    (cond (c == 45) (mark_after_minus cs)
    (cond (c == 58) Colon
    (cond (c == 46) Dot
    (cond (c == 61) Equals
    (cond (c == 40) LParen
    (cond (c == 41) RParen
    (cond (c == 123) LBrace
    (cond (c == 125) RBrace
    (cond (c == 91) LBracket RBracket))))))))))

-- the kind of a token, by its first two characters
abbrev pub mark_of : List ℕ → Mark
mark_of [] = Word
mark_of (c ∷ cs) = cond (is_xid_start c) Word (mark_of_other c cs)

-- a character below 128 that is no letter starts no identifier
starts_no_word : (c : ℕ) → c < 128 → is_ascii_alphabetic c ≡ false → is_xid_start c ≡ false
starts_no_word c h e = is_xid_start-ascii c h ∙ e

digit_is_ascii : (c : ℕ) → IsDigit c → is_ascii_digit c ≡ true
digit_is_ascii c h = grind (arith, nat_tests)

digit_no_letter : (c : ℕ) → IsDigit c → is_ascii_alphabetic c ≡ false
digit_no_letter c h = grind (arith, nat_tests)

pub digit_starts_no_word : (c : ℕ) → IsDigit c → is_xid_start c ≡ false
digit_starts_no_word c h = starts_no_word c (omega arith) (digit_no_letter c h)

pub mark_of-digit : (c : ℕ) (cs : List ℕ) → IsDigit c → mark_of (c ∷ cs) ≡ Number
mark_of-digit c cs h = rw (digit_starts_no_word c h, digit_is_ascii c h)

no_arrow : (d : ℕ) → IsDigit d → (d == 62) ≡ false
no_arrow d h = grind (arith, nat_tests)

pub mark_of-minus : (c d : ℕ) (cs : List ℕ) → c ≡ 45 → IsDigit d → mark_of (c ∷ d ∷ cs) ≡ Number
unfolding unicode_ident
mark_of-minus c d cs e h = ap (λ x. mark_of (x ∷ d ∷ cs)) e ∙ ap (λ b. cond b Arrow Number) (no_arrow d h)

mark_of-Number : (prefix : List ℕ) → IsNumber prefix → mark_of prefix ≡ Number
mark_of-Number [] h = absurd h
mark_of-Number (c ∷ cs) (inl h) = mark_of-digit c cs h.0
mark_of-Number (c ∷ []) (inr h) = absurd h.1
mark_of-Number (c ∷ d ∷ cs) (inr h) = mark_of-minus c d cs h.0 h.1.0

pub mark_of-Forms : (mark : Mark) (prefix : List ℕ) → Forms mark prefix → mark_of prefix ≡ mark
unfolding unicode_ident
mark_of-Forms Word [] h = absurd h
mark_of-Forms Word (c ∷ cs) h = ap (λ b. cond b Word (mark_of_other c cs)) h.0
mark_of-Forms Var [] h = absurd h
mark_of-Forms Var (c ∷ cs) h = ap (λ x. mark_of (x ∷ cs)) h.0
mark_of-Forms Number cs h = mark_of-Number cs h
mark_of-Forms Colon cs h = ap mark_of h
mark_of-Forms Dot cs h = ap mark_of h
mark_of-Forms Equals cs h = ap mark_of h
mark_of-Forms Arrow cs h = ap mark_of h
mark_of-Forms LParen cs h = ap mark_of h
mark_of-Forms RParen cs h = ap mark_of h
mark_of-Forms LBrace cs h = ap mark_of h
mark_of-Forms RBrace cs h = ap mark_of h
mark_of-Forms LBracket cs h = ap mark_of h
mark_of-Forms RBracket cs h = ap mark_of h

-- a text has one kind at most
pub Forms-mark_unique : (mark other : Mark) (prefix : List ℕ) → Forms mark prefix → Forms other prefix → mark ≡ other
Forms-mark_unique mark other prefix h k = sym (mark_of-Forms mark prefix h) ∙ mark_of-Forms other prefix k

-- the characters with which a token may begin that is no word
abbrev pub begins_other : ℕ → Bool
begins_other c = is_ascii_digit c || (c == 95 || (c == 45 || (c == 58 || (c == 46 || (c == 61 || (c == 40 || (c == 41 || (c == 123 || (c == 125 || (c == 91 || c == 93))))))))))

-- the characters with which a token may begin
abbrev pub begins_token : ℕ → Bool
begins_token c = is_xid_start c || begins_other c

minus_begins : (c : ℕ) → c ≡ 45 → begins_token c ≡ true
unfolding unicode_ident
minus_begins c e = ap begins_token e

is_number_begins : (c : ℕ) (cs : List ℕ) → IsNumber (c ∷ cs) → begins_token c ≡ true
is_number_begins c cs (inl h) = rw (digit_starts_no_word c h.0, digit_is_ascii c h.0)
is_number_begins c cs (inr h) = minus_begins c h.0

-- no token is empty
pub Forms-some : (mark : Mark) → Forms mark [] → ⊥
Forms-some Word h = h
Forms-some Var h = h
Forms-some Number h = h
Forms-some Colon h = cc
Forms-some Dot h = cc
Forms-some Equals h = cc
Forms-some Arrow h = cc
Forms-some LParen h = cc
Forms-some RParen h = cc
Forms-some LBrace h = cc
Forms-some RBrace h = cc
Forms-some LBracket h = cc
Forms-some RBracket h = cc

-- what a token begins with
pub Forms-begins : (mark : Mark) (c : ℕ) (cs : List ℕ) → Forms mark (c ∷ cs) → begins_token c ≡ true
unfolding unicode_ident
Forms-begins Word c cs h = ap (λ b. b || begins_other c) h.0
Forms-begins Var c cs h = ap begins_token h.0
Forms-begins Number c cs h = is_number_begins c cs h
Forms-begins Colon c cs h = ap begins_token (head_is h)
Forms-begins Dot c cs h = ap begins_token (head_is h)
Forms-begins Equals c cs h = ap begins_token (head_is h)
Forms-begins Arrow c cs h = ap begins_token (head_is h)
Forms-begins LParen c cs h = ap begins_token (head_is h)
Forms-begins RParen c cs h = ap begins_token (head_is h)
Forms-begins LBrace c cs h = ap begins_token (head_is h)
Forms-begins RBrace c cs h = ap begins_token (head_is h)
Forms-begins LBracket c cs h = ap begins_token (head_is h)
Forms-begins RBracket c cs h = ap begins_token (head_is h)

separator_begins_none : (c : ℕ) → IsSeparator c → begins_token c ≡ false
unfolding unicode_ident
separator_begins_none c (inl e) = ap begins_token e
separator_begins_none c (inr (inl e)) = ap begins_token e
separator_begins_none c (inr (inr (inl e))) = ap begins_token e
separator_begins_none c (inr (inr (inr e))) = ap begins_token e

percent_begins_none : (c : ℕ) → c ≡ 37 → begins_token c ≡ false
unfolding unicode_ident
percent_begins_none c e = ap begins_token e

-- a separator begins no token
pub Forms-no_separator : (mark : Mark) (c : ℕ) (cs : List ℕ) → IsSeparator c → Forms mark (c ∷ cs) → ⊥
Forms-no_separator mark c cs s h = let no = separator_begins_none c s in let yes = Forms-begins mark c cs h in cc

-- a percent sign begins no token
pub Forms-no_percent : (mark : Mark) (c : ℕ) (cs : List ℕ) → c ≡ 37 → Forms mark (c ∷ cs) → ⊥
Forms-no_percent mark c cs e h = let no = percent_begins_none c e in let yes = Forms-begins mark c cs h in cc

pub AllByRecursion-right : (P : ℕ → Type 0) (xs ys : List ℕ) → AllByRecursion P (xs ++ ys) → AllByRecursion P ys
AllByRecursion-right P [] ys h = h
AllByRecursion-right P (x ∷ xs) ys h = AllByRecursion-right P xs ys h.1
