-- Characters begin with a longest token, or with none.
use Rattle.std.proofs.Common.{◌≡◌, ◌≢◌, ℕ, ◌≤◌, ◌⊎◌, inl, inr, List, [], ◌∷◌, ◌++◌, Bool, true, false, true≢false, refl, sym, ap, subst, arith}
use Rattle.std.specs.List.{AllByRecursion}
use Rattle.unicode_ident.specs.Ident.{is_xid_start, is_xid_continue}
use Rattle.lex_text.specs.declared.mark.Mark.{Mark}
use Rattle.lex_text.specs.declared.mark.Mark.TheVariants.{Word, Var, Number, Colon, Dot, Equals, Arrow, LParen, RParen, LBrace, RBrace, LBracket, RBracket}
use Rattle.lex_text.specs.Characters.{MayContinue, IsDigit}
use Rattle.lex_text.specs.Tokens.{IsLongest}
use Rattle.lex_text.specs.Reading.{StopsBefore, IsSign, BeginNoToken}
use Rattle.lex_text.proofs.Longest.{IsLongest-word, IsLongest-variable, IsLongest-digits, IsLongest-negative, IsLongest-arrow, IsLongest-sign, BeginNoToken-character, BeginNoToken-minus, FollowsMinus}

-- It holds, or it does not.
abbrev pub Known : Type 0 → Type 0
Known P = P ⊎ (P → ⊥)

pub known_number : (n m : ℕ) → Known (n ≡ m)
known_number n m = grind arith

pub known_order : (n m : ℕ) → Known (n ≤ m)
known_order n m = grind arith

known_not : {P : Type 0} → Known P → Known (P → ⊥)
known_not (inl h) = inr (λ fails. fails h)
known_not (inr fails) = inl fails

pub known_either : {P Q : Type 0} → Known P → Known Q → Known (P ⊎ Q)
known_either (inl h) other = inl (inl h)
known_either (inr fails) (inl h) = inl (inr h)
known_either {P = P} {Q = Q} (inr fails) (inr none) = inr neither
  where
    neither : P ⊎ Q → ⊥
    neither (inl h) = fails h
    neither (inr h) = none h

known_both : {P Q : Type 0} → Known P → Known Q → Known (P × Q)
known_both (inl h) (inl k) = inl (h, k)
known_both (inl h) (inr fails) = inr (λ both. fails both.1)
known_both (inr fails) other = inr (λ both. fails both.0)

pub true_or_false : (b : Bool) → (b ≡ true) ⊎ (b ≡ false)
true_or_false true = inl refl
true_or_false false = inr refl

known_test : (b : Bool) → Known (b ≡ true)
known_test true = inl refl
known_test false = inr (λ e. true≢false (sym e))

known_continue : (c : ℕ) → Known (MayContinue c)
known_continue c = known_test (is_xid_continue c)

known_digit : (c : ℕ) → Known (IsDigit c)
known_digit c = known_both (known_order 48 c) (known_order c 57)

pub known_other : (c d : ℕ) → Known (c ≢ d)
known_other c d = known_not (known_number c d)

-- the characters up to the first that does not pass
pub record Passed (P : ℕ → Type 0) (text : List ℕ) : Type 0 where
  pub passed : List ℕ
  pub rest : List ℕ
  pub text_is : text ≡ passed ++ rest
  pub all : AllByRecursion P passed
  pub stops : StopsBefore P rest

passed_one : (P : ℕ → Type 0) (c : ℕ) (text : List ℕ) → Known (P c) → Passed P text → Passed P (c ∷ text)
passed_one P c text (inl h) later = record {
  passed = c ∷ later.passed;
  rest = later.rest;
  text_is = ap (λ l. c ∷ l) later.text_is;
  all = (h, later.all);
  stops = later.stops;
}
passed_one P c text (inr fails) later = record { passed = []; rest = c ∷ text; text_is = refl; all = tt; stops = fails }

pub passed_of : (P : ℕ → Type 0) → ((c : ℕ) → Known (P c)) → (text : List ℕ) → Passed P text
passed_of P known [] = record { passed = []; rest = []; text_is = refl; all = tt; stops = tt }
passed_of P known (c ∷ text) = passed_one P c text (known c) (passed_of P known text)

-- The text begins with this token, and with no longer one.
pub record FirstToken (text : List ℕ) : Type 0 where
  pub mark : Mark
  pub prefix : List ℕ
  pub rest : List ℕ
  pub text_is : text ≡ prefix ++ rest
  pub longest : IsLongest mark prefix rest

abbrev pub Starts : List ℕ → Type 0
Starts text = FirstToken text ⊎ BeginNoToken text

starts_with_word : (c : ℕ) (text : List ℕ) → is_xid_start c ≡ true → Passed MayContinue text → Starts (c ∷ text)
starts_with_word c text starts run = inl (record {
  mark = Word;
  prefix = c ∷ run.passed;
  rest = run.rest;
  text_is = ap (λ l. c ∷ l) run.text_is;
  longest = IsLongest-word c run.passed run.rest starts run.all run.stops;
})

starts_with_variable : (c : ℕ) (text : List ℕ) → c ≡ 95 → Passed MayContinue text → Starts (c ∷ text)
starts_with_variable c text is_underscore run = inl (record {
  mark = Var;
  prefix = c ∷ run.passed;
  rest = run.rest;
  text_is = ap (λ l. c ∷ l) run.text_is;
  longest = IsLongest-variable c run.passed run.rest is_underscore run.all run.stops;
})

starts_with_digits : (c : ℕ) (text : List ℕ) → IsDigit c → Passed IsDigit text → Starts (c ∷ text)
starts_with_digits c text digit run = inl (record {
  mark = Number;
  prefix = c ∷ run.passed;
  rest = run.rest;
  text_is = ap (λ l. c ∷ l) run.text_is;
  longest = IsLongest-digits (c ∷ run.passed) run.rest (digit, run.all) run.stops;
})

starts_with_negative : (c d : ℕ) (text : List ℕ) → c ≡ 45 → IsDigit d → Passed IsDigit text → Starts (c ∷ d ∷ text)
starts_with_negative c d text minus digit run = inl (record {
  mark = Number;
  prefix = c ∷ d ∷ run.passed;
  rest = run.rest;
  text_is = ap (λ l. c ∷ d ∷ l) run.text_is;
  longest = IsLongest-negative c (d ∷ run.passed) run.rest minus (digit, run.all) run.stops;
})

starts_with_arrow : (c d : ℕ) (text : List ℕ) → c ≡ 45 → d ≡ 62 → Starts (c ∷ d ∷ text)
starts_with_arrow c d text minus greater = inl (record {
  mark = Arrow;
  prefix = c ∷ d ∷ [];
  rest = text;
  text_is = refl;
  longest = IsLongest-arrow c d text minus greater;
})

starts_with_sign : (mark : Mark) (c : ℕ) (text : List ℕ) → IsSign mark c → Starts (c ∷ text)
starts_with_sign mark c text sign = inl (record {
  mark = mark;
  prefix = c ∷ [];
  rest = text;
  text_is = refl;
  longest = IsLongest-sign mark c text sign;
})

lone_minus : (c : ℕ) (text : List ℕ) → c ≡ 45 → StopsBefore FollowsMinus text → Starts (c ∷ text)
lone_minus c text minus stops = inr (subst (λ x. BeginNoToken (x ∷ text)) (sym minus) (BeginNoToken-minus text stops))

minus_before : (c d : ℕ) (text : List ℕ) → c ≡ 45 → Known (d ≡ 62) → Known (IsDigit d) → Starts (c ∷ d ∷ text)
minus_before c d text minus (inl greater) digit = starts_with_arrow c d text minus greater
minus_before c d text minus (inr no_arrow) (inl digit) = starts_with_negative c d text minus digit (passed_of IsDigit known_digit text)
minus_before c d text minus (inr no_arrow) (inr no_digit) = lone_minus c (d ∷ text) minus neither
  where
    neither : FollowsMinus d → ⊥
    neither (inl h) = no_arrow h
    neither (inr h) = no_digit h

starts_with_minus : (c : ℕ) (text : List ℕ) → c ≡ 45 → Starts (c ∷ text)
starts_with_minus c [] minus = lone_minus c [] minus tt
starts_with_minus c (d ∷ text) minus = minus_before c d text minus (known_number d 62) (known_digit d)

-- The character is a sign of some kind, or of none.
abbrev SomeSign : ℕ → Type 0
SomeSign c = ((mark : Mark) × IsSign mark c) ⊎ ((mark : Mark) → IsSign mark c → ⊥)

known_sign : (mark : Mark) (c : ℕ) → Known (IsSign mark c)
known_sign Word c = inr (λ h. h)
known_sign Var c = inr (λ h. h)
known_sign Number c = inr (λ h. h)
known_sign Arrow c = inr (λ h. h)
known_sign Colon c = known_number c 58
known_sign Dot c = known_number c 46
known_sign Equals c = known_number c 61
known_sign LParen c = known_number c 40
known_sign RParen c = known_number c 41
known_sign LBrace c = known_number c 123
known_sign RBrace c = known_number c 125
known_sign LBracket c = known_number c 91
known_sign RBracket c = known_number c 93

-- where the character is a sign of this kind, or else the rest of the search
try_sign : (mark : Mark) (c : ℕ) → Known (IsSign mark c) → ((IsSign mark c → ⊥) → SomeSign c) → SomeSign c
try_sign mark c (inl h) further = inl (mark, h)
try_sign mark c (inr fails) further = further fails

some_sign : (c : ℕ) → SomeSign c
some_sign c =
    try_sign Colon c (known_sign Colon c) (λ colon.
    try_sign Dot c (known_sign Dot c) (λ dot.
    try_sign Equals c (known_sign Equals c) (λ equals.
    try_sign LParen c (known_sign LParen c) (λ left.
    try_sign RParen c (known_sign RParen c) (λ right.
    try_sign LBrace c (known_sign LBrace c) (λ left_brace.
    try_sign RBrace c (known_sign RBrace c) (λ right_brace.
    try_sign LBracket c (known_sign LBracket c) (λ left_bracket.
    try_sign RBracket c (known_sign RBracket c) (λ right_bracket.
    inr (each colon dot equals left right left_brace right_brace left_bracket right_bracket))))))))))
  where
    each : c ≢ 58 → c ≢ 46 → c ≢ 61 → c ≢ 40 → c ≢ 41 → c ≢ 123 → c ≢ 125 → c ≢ 91 → c ≢ 93 → (mark : Mark) → IsSign mark c → ⊥
    each colon dot equals left right left_brace right_brace left_bracket right_bracket Word h = h
    each colon dot equals left right left_brace right_brace left_bracket right_bracket Var h = h
    each colon dot equals left right left_brace right_brace left_bracket right_bracket Number h = h
    each colon dot equals left right left_brace right_brace left_bracket right_bracket Arrow h = h
    each colon dot equals left right left_brace right_brace left_bracket right_bracket Colon h = colon h
    each colon dot equals left right left_brace right_brace left_bracket right_bracket Dot h = dot h
    each colon dot equals left right left_brace right_brace left_bracket right_bracket Equals h = equals h
    each colon dot equals left right left_brace right_brace left_bracket right_bracket LParen h = left h
    each colon dot equals left right left_brace right_brace left_bracket right_bracket RParen h = right h
    each colon dot equals left right left_brace right_brace left_bracket right_bracket LBrace h = left_brace h
    each colon dot equals left right left_brace right_brace left_bracket right_bracket RBrace h = right_brace h
    each colon dot equals left right left_brace right_brace left_bracket right_bracket LBracket h = left_bracket h
    each colon dot equals left right left_brace right_brace left_bracket right_bracket RBracket h = right_bracket h

-- by the first character, where it is no sign
no_sign_start : (c : ℕ) (text : List ℕ) → ((mark : Mark) → IsSign mark c → ⊥) → Known (c ≡ 45) → Known (c ≡ 95) → Known (IsDigit c) →
    (is_xid_start c ≡ true) ⊎ (is_xid_start c ≡ false) → Starts (c ∷ text)
no_sign_start c text no_sign (inl minus) underscore digit start = starts_with_minus c text minus
no_sign_start c text no_sign (inr no_minus) (inl underscore) digit start = starts_with_variable c text underscore (passed_of MayContinue known_continue text)
no_sign_start c text no_sign (inr no_minus) (inr no_underscore) (inl digit) start = starts_with_digits c text digit (passed_of IsDigit known_digit text)
no_sign_start c text no_sign (inr no_minus) (inr no_underscore) (inr no_digit) (inl start) =
    starts_with_word c text start (passed_of MayContinue known_continue text)
no_sign_start c text no_sign (inr no_minus) (inr no_underscore) (inr no_digit) (inr no_start) =
    inr (BeginNoToken-character c text (record {
      no_sign = no_sign;
      no_minus = no_minus;
      no_underscore = no_underscore;
      no_digit = no_digit;
      no_start = no_start;
    }))

start_by_sign : (c : ℕ) (text : List ℕ) → SomeSign c → Starts (c ∷ text)
start_by_sign c text (inl sign) = starts_with_sign sign.0 c text sign.1
start_by_sign c text (inr no_sign) =
    no_sign_start c text no_sign (known_number c 45) (known_number c 95) (known_digit c) (true_or_false (is_xid_start c))

pub start_of : (c : ℕ) (text : List ℕ) → Starts (c ∷ text)
start_of c text = start_by_sign c text (some_sign c)
