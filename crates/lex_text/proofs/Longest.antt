-- The longest token at the prefix of a text, for each kind.
use Rattle.std.proofs.Common.{◌≡◌, ◌≢◌, ℕ, ◌⊎◌, inl, inr, List, [], ◌∷◌, ◌++◌, Bool, cond, true, false, refl, sym, ap, ◌∙◌, subst, arith}
use Rattle.std.specs.Prelude.{◌==◌}
use Rattle.std.specs.List.{AllByRecursion}
use Rattle.unicode_ident.specs.Ident.{is_xid_start}
use Rattle.unicode_ident.proofs.Computing.{unicode_ident}
use Rattle.lex_text.specs.declared.mark.Mark.{Mark}
use Rattle.lex_text.specs.declared.mark.Mark.TheVariants.{Word, Var, Number, Colon, Dot, Equals, Arrow, LParen, RParen, LBrace, RBrace, LBracket, RBracket}
use Rattle.lex_text.specs.Characters.{MayStart, MayContinue, IsDigit}
use Rattle.lex_text.specs.Tokens.{Forms, AreDigits, IsNumber, IsLongest}
use Rattle.lex_text.specs.Reading.{StopsBefore, IsSign, BeginNoToken}
use Rattle.lex_text.proofs.Prefixes.{head_is, tail_is}
use Rattle.lex_text.proofs.Forms.{mark_of, mark_after_minus, mark_of_other, mark_of-Forms, mark_of-digit, mark_of-minus, Forms-some, AllByRecursion-right}

-- a run that goes on past its end does not
nothing_after : (P : ℕ → Type 0) (rest more left : List ℕ) → StopsBefore P rest → rest ≡ more ++ left → AllByRecursion P more → more ≡ []
nothing_after P rest [] left stops e all = refl
nothing_after P [] (c ∷ more) left stops e all = cc
nothing_after P (d ∷ rest) (c ∷ more) left stops e all = absurd (stops (subst P (sym (head_is e)) all.0))

-- the longest one of the kind that the first two characters tell is the longest one
longest_by_mark : (mark : Mark) (prefix rest : List ℕ) → Forms mark prefix → ((more : List ℕ) → mark_of (prefix ++ more) ≡ mark) →
    ((more left : List ℕ) → rest ≡ more ++ left → Forms mark (prefix ++ more) → more ≡ []) → IsLongest mark prefix rest
longest_by_mark mark prefix rest forms tells longest = record {
  forms = forms;
  longest = λ other more left e h.
      longest more left e (subst (λ m. Forms m (prefix ++ more)) (sym (mark_of-Forms other (prefix ++ more) h) ∙ tells more) h);
}

mark_of-word : (c : ℕ) (cs : List ℕ) → MayStart c → mark_of (c ∷ cs) ≡ Word
mark_of-word c cs h = ap (λ b. cond b Word (mark_of_other c cs)) h

pub IsLongest-word : (c : ℕ) (cs rest : List ℕ) → MayStart c → AllByRecursion MayContinue cs → StopsBefore MayContinue rest →
    IsLongest Word (c ∷ cs) rest
IsLongest-word c cs rest starts all stops =
    longest_by_mark Word (c ∷ cs) rest (starts, all) (λ more. mark_of-word c (cs ++ more) starts)
    (λ more left e h. nothing_after MayContinue rest more left stops e (AllByRecursion-right MayContinue cs more h.1))

mark_of-variable : (c : ℕ) (cs : List ℕ) → c ≡ 95 → mark_of (c ∷ cs) ≡ Var
unfolding unicode_ident
mark_of-variable c cs h = ap (λ x. mark_of (x ∷ cs)) h

pub IsLongest-variable : (c : ℕ) (cs rest : List ℕ) → c ≡ 95 → AllByRecursion MayContinue cs → StopsBefore MayContinue rest →
    IsLongest Var (c ∷ cs) rest
IsLongest-variable c cs rest starts all stops =
    longest_by_mark Var (c ∷ cs) rest (starts, all) (λ more. mark_of-variable c (cs ++ more) starts)
    (λ more left e h. nothing_after MayContinue rest more left stops e (AllByRecursion-right MayContinue cs more h.1))

no_minus_digit : (c : ℕ) → IsDigit c → c ≡ 45 → ⊥
no_minus_digit c h e = omega arith

digits_after : (d : ℕ) (ds more : List ℕ) → IsDigit d → IsNumber (d ∷ (ds ++ more)) → AllByRecursion IsDigit more
digits_after d ds more digit (inl h) = AllByRecursion-right IsDigit ds more h.1
digits_after d ds more digit (inr h) = absurd (no_minus_digit d digit h.0)

longest_digits : (d : ℕ) (ds rest : List ℕ) → IsDigit d → AllByRecursion IsDigit ds → StopsBefore IsDigit rest → IsLongest Number (d ∷ ds) rest
longest_digits d ds rest digit all stops =
    longest_by_mark Number (d ∷ ds) rest (inl (digit, all)) (λ more. mark_of-digit d (ds ++ more) digit)
    (λ more left e h. nothing_after IsDigit rest more left stops e (digits_after d ds more digit h))

pub IsLongest-digits : (ds rest : List ℕ) → AreDigits ds → StopsBefore IsDigit rest → IsLongest Number ds rest
IsLongest-digits [] rest h stops = absurd h
IsLongest-digits (d ∷ ds) rest h stops = longest_digits d ds rest h.0 h.1 stops

negative_after : (c d : ℕ) (ds more : List ℕ) → c ≡ 45 → IsNumber (c ∷ d ∷ (ds ++ more)) → AllByRecursion IsDigit more
negative_after c d ds more e (inl h) = absurd (no_minus_digit c h.0 e)
negative_after c d ds more e (inr h) = AllByRecursion-right IsDigit ds more h.1.1

pub IsLongest-negative : (c : ℕ) (ds rest : List ℕ) → c ≡ 45 → AreDigits ds → StopsBefore IsDigit rest → IsLongest Number (c ∷ ds) rest
IsLongest-negative c [] rest e h stops = absurd h
IsLongest-negative c (d ∷ ds) rest e h stops =
    longest_by_mark Number (c ∷ d ∷ ds) rest (inr (e, h)) (λ more. mark_of-minus c d (ds ++ more) e h.0)
    (λ more left same k. nothing_after IsDigit rest more left stops same (negative_after c d ds more e k))

mark_of-arrow : (c d : ℕ) (cs : List ℕ) → c ≡ 45 → d ≡ 62 → mark_of (c ∷ d ∷ cs) ≡ Arrow
unfolding unicode_ident
mark_of-arrow c d cs e k = ap (λ x. mark_of (x ∷ d ∷ cs)) e ∙ ap (λ x. mark_of (45 ∷ x ∷ cs)) k

arrow_is : (c d : ℕ) → c ≡ 45 → d ≡ 62 → Forms Arrow (c ∷ d ∷ [])
arrow_is c d e k = ap (λ x. x ∷ d ∷ []) e ∙ ap (λ x. 45 ∷ x ∷ []) k

pub IsLongest-arrow : (c d : ℕ) (rest : List ℕ) → c ≡ 45 → d ≡ 62 → IsLongest Arrow (c ∷ d ∷ []) rest
IsLongest-arrow c d rest e k =
    longest_by_mark Arrow (c ∷ d ∷ []) rest (arrow_is c d e k) (λ more. mark_of-arrow c d more e k)
    (λ more left same h. tail_is (tail_is h))

mark_of-sign : (mark : Mark) (c : ℕ) (cs : List ℕ) → IsSign mark c → mark_of (c ∷ cs) ≡ mark
unfolding unicode_ident
mark_of-sign Word c cs h = absurd h
mark_of-sign Var c cs h = absurd h
mark_of-sign Number c cs h = absurd h
mark_of-sign Arrow c cs h = absurd h
mark_of-sign Colon c cs h = ap (λ x. mark_of (x ∷ cs)) h
mark_of-sign Dot c cs h = ap (λ x. mark_of (x ∷ cs)) h
mark_of-sign Equals c cs h = ap (λ x. mark_of (x ∷ cs)) h
mark_of-sign LParen c cs h = ap (λ x. mark_of (x ∷ cs)) h
mark_of-sign RParen c cs h = ap (λ x. mark_of (x ∷ cs)) h
mark_of-sign LBrace c cs h = ap (λ x. mark_of (x ∷ cs)) h
mark_of-sign RBrace c cs h = ap (λ x. mark_of (x ∷ cs)) h
mark_of-sign LBracket c cs h = ap (λ x. mark_of (x ∷ cs)) h
mark_of-sign RBracket c cs h = ap (λ x. mark_of (x ∷ cs)) h

-- a sign is a token of one character
sign_forms : (mark : Mark) (c : ℕ) → IsSign mark c → Forms mark (c ∷ [])
sign_forms Word c h = absurd h
sign_forms Var c h = absurd h
sign_forms Number c h = absurd h
sign_forms Arrow c h = absurd h
sign_forms Colon c h = ap (λ x. x ∷ []) h
sign_forms Dot c h = ap (λ x. x ∷ []) h
sign_forms Equals c h = ap (λ x. x ∷ []) h
sign_forms LParen c h = ap (λ x. x ∷ []) h
sign_forms RParen c h = ap (λ x. x ∷ []) h
sign_forms LBrace c h = ap (λ x. x ∷ []) h
sign_forms RBrace c h = ap (λ x. x ∷ []) h
sign_forms LBracket c h = ap (λ x. x ∷ []) h
sign_forms RBracket c h = ap (λ x. x ∷ []) h

sign_alone : (mark : Mark) (c : ℕ) (more : List ℕ) → IsSign mark c → Forms mark (c ∷ more) → more ≡ []
sign_alone Word c more h k = absurd h
sign_alone Var c more h k = absurd h
sign_alone Number c more h k = absurd h
sign_alone Arrow c more h k = absurd h
sign_alone Colon c more h k = tail_is k
sign_alone Dot c more h k = tail_is k
sign_alone Equals c more h k = tail_is k
sign_alone LParen c more h k = tail_is k
sign_alone RParen c more h k = tail_is k
sign_alone LBrace c more h k = tail_is k
sign_alone RBrace c more h k = tail_is k
sign_alone LBracket c more h k = tail_is k
sign_alone RBracket c more h k = tail_is k

pub IsLongest-sign : (mark : Mark) (c : ℕ) (rest : List ℕ) → IsSign mark c → IsLongest mark (c ∷ []) rest
IsLongest-sign mark c rest h =
    longest_by_mark mark (c ∷ []) rest (sign_forms mark c h) (λ more. mark_of-sign mark c more h)
    (λ more left e k. sign_alone mark c more h k)

-- What follows a minus that begins a token.
abbrev pub FollowsMinus : ℕ → Type 0
FollowsMinus c = (c ≡ 62) ⊎ IsDigit c

-- each kind of token by its first character
forms_first : (mark : Mark) (c : ℕ) (cs : List ℕ) → Forms mark (c ∷ cs) →
    (MayStart c) ⊎ ((c ≡ 95) ⊎ (IsDigit c ⊎ ((c ≡ 45) ⊎ IsSign mark c)))
forms_first Word c cs h = inl h.0
forms_first Var c cs h = inr (inl h.0)
forms_first Number c cs (inl h) = inr (inr (inl h.0))
forms_first Number c cs (inr h) = inr (inr (inr (inl h.0)))
forms_first Arrow c cs h = inr (inr (inr (inl (head_is h))))
forms_first Colon c cs h = inr (inr (inr (inr (head_is h))))
forms_first Dot c cs h = inr (inr (inr (inr (head_is h))))
forms_first Equals c cs h = inr (inr (inr (inr (head_is h))))
forms_first LParen c cs h = inr (inr (inr (inr (head_is h))))
forms_first RParen c cs h = inr (inr (inr (inr (head_is h))))
forms_first LBrace c cs h = inr (inr (inr (inr (head_is h))))
forms_first RBrace c cs h = inr (inr (inr (inr (head_is h))))
forms_first LBracket c cs h = inr (inr (inr (inr (head_is h))))
forms_first RBracket c cs h = inr (inr (inr (inr (head_is h))))

-- No token begins with a character that begins none of any kind.
pub record BeginsNone (c : ℕ) : Type 0 where
  pub no_sign : (mark : Mark) → IsSign mark c → ⊥
  pub no_minus : c ≢ 45
  pub no_underscore : c ≢ 95
  pub no_digit : IsDigit c → ⊥
  pub no_start : is_xid_start c ≡ false

none_begins : (mark : Mark) (c : ℕ) (cs : List ℕ) → BeginsNone c → Forms mark (c ∷ cs) → ⊥
none_begins mark c cs none h =
    elim (forms_first mark c cs h) [
      | inl starts ↦ (let no = none.no_start in cc)
      | inr (inl underscore) ↦ none.no_underscore underscore
      | inr (inr (inl digit)) ↦ none.no_digit digit
      | inr (inr (inr (inl minus))) ↦ none.no_minus minus
      | inr (inr (inr (inr sign))) ↦ none.no_sign mark sign
    ]

none_in_prefix : (c : ℕ) (rest : List ℕ) → BeginsNone c → (mark : Mark) (prefix left : List ℕ) → Forms mark prefix → prefix ++ left ≡ c ∷ rest → ⊥
none_in_prefix c rest none mark [] left h e = Forms-some mark h
none_in_prefix c rest none mark (d ∷ prefix) left h e = none_begins mark d prefix (subst BeginsNone (sym (head_is e)) none) h

pub BeginNoToken-character : (c : ℕ) (rest : List ℕ) → BeginsNone c → BeginNoToken (c ∷ rest)
BeginNoToken-character c rest none = none_in_prefix c rest none

minus_number : (ds left rest : List ℕ) → IsNumber (45 ∷ ds) → ds ++ left ≡ rest → StopsBefore FollowsMinus rest → ⊥
minus_number ds left rest (inl h) e stops = no_minus_digit 45 h.0 refl
minus_number [] left rest (inr h) e stops = h.1
minus_number (d ∷ ds) left [] (inr h) e stops = cc
minus_number (d ∷ ds) left (r ∷ rest) (inr h) e stops = stops (inr (subst IsDigit (head_is e) h.1.0))

minus_arrow : (ds left rest : List ℕ) → Forms Arrow (45 ∷ ds) → ds ++ left ≡ rest → StopsBefore FollowsMinus rest → ⊥
minus_arrow [] left rest h e stops = (let t = tail_is h in cc)
minus_arrow (d ∷ ds) left [] h e stops = cc
minus_arrow (d ∷ ds) left (r ∷ rest) h e stops = stops (inl (sym (head_is e) ∙ head_is (tail_is h)))

arrow_or_number : (b : Bool) → (cond b Arrow Number ≡ Number) ⊎ (cond b Arrow Number ≡ Arrow)
arrow_or_number true = inr refl
arrow_or_number false = inl refl

after_minus : (cs : List ℕ) → (mark_after_minus cs ≡ Number) ⊎ (mark_after_minus cs ≡ Arrow)
after_minus [] = inl refl
after_minus (c ∷ cs) = arrow_or_number (c == 62)

mark_of-minus_is : (cs : List ℕ) → mark_of (45 ∷ cs) ≡ mark_after_minus cs
unfolding unicode_ident
mark_of-minus_is cs = refl

minus_other : (mark : Mark) (cs : List ℕ) → Forms mark (45 ∷ cs) → (mark ≡ Number) ⊎ (mark ≡ Arrow)
minus_other mark cs h =
    let is : mark ≡ mark_after_minus cs = sym (mark_of-Forms mark (45 ∷ cs) h) ∙ mark_of-minus_is cs in
    elim (after_minus cs) [ inl e ↦ inl (is ∙ e) | inr e ↦ inr (is ∙ e) ]

minus_no_token : (mark : Mark) (cs left rest : List ℕ) → Forms mark (45 ∷ cs) → cs ++ left ≡ rest → StopsBefore FollowsMinus rest → ⊥
minus_no_token mark cs left rest h e stops =
    elim (minus_other mark cs h) [
      | inl is ↦ minus_number cs left rest (subst (λ m. Forms m (45 ∷ cs)) is h) e stops
      | inr is ↦ minus_arrow cs left rest (subst (λ m. Forms m (45 ∷ cs)) is h) e stops
    ]

minus_in_prefix : (rest : List ℕ) → StopsBefore FollowsMinus rest → (mark : Mark) (prefix left : List ℕ) → Forms mark prefix → prefix ++ left ≡ 45 ∷ rest → ⊥
minus_in_prefix rest stops mark [] left h e = Forms-some mark h
minus_in_prefix rest stops mark (d ∷ prefix) left h e =
    minus_no_token mark prefix left rest (subst (λ x. Forms mark (x ∷ prefix)) (head_is e) h) (tail_is e) stops

pub BeginNoToken-minus : (rest : List ℕ) → StopsBefore FollowsMinus rest → BeginNoToken (45 ∷ rest)
BeginNoToken-minus rest stops = minus_in_prefix rest stops
