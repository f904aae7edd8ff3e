-- One thing is the first that is wrong with characters.
use Rattle.std.proofs.Common.{◌≡◌, ◌≢◌, ℕ, ◌+◌, inl, inr, List, [], ◌∷◌, ◌++◌, refl, sym, ◌∙◌, subst, arith}
use Rattle.std.specs.List.{AllByRecursion}
use Rattle.lex_text.specs.declared.mark.Mark.{Mark}
use Rattle.lex_text.specs.Characters.{width, IsSeparator}
use Rattle.lex_text.specs.Tokens.{Forms, IsLongest, IsShort, IsCommentBefore, Lexical, bad_character, long_name, Wrong, after_separator, after_comment, after_token, no_token, too_long}
use Rattle.lex_text.specs.Reading.{BeginNoToken}
use Rattle.lex_text.proofs.Prefixes.{GoesOn, one_goes_on, same_prefix, same_rest, head_is}
use Rattle.lex_text.proofs.Forms.{AllByRecursion-right, Forms-some, Forms-no_separator, Forms-no_percent}
use Rattle.lex_text.proofs.Unique.{SameFirst, IsLongest-unique}

inside_of : (inside rest : List ℕ) → IsCommentBefore inside rest → AllByRecursion (λ c. c ≢ 10) inside
inside_of inside [] h = h
inside_of inside (c ∷ rest) h = h.0

-- A comment that goes on past another's end has the line feed that ends it.
no_more : (inside rest more left : List ℕ) → IsCommentBefore inside rest → rest ≡ more ++ left →
    AllByRecursion (λ c. c ≢ 10) more → more ≡ []
no_more inside rest [] left h e all = refl
no_more inside [] (d ∷ more) left h e all = cc
no_more inside (c ∷ rest) (d ∷ more) left h e all = absurd (all.0 (sym (head_is e) ∙ h.1))

comment_stops : (inside rest longer left : List ℕ) (h : GoesOn inside rest longer left) →
    IsCommentBefore inside rest → IsCommentBefore longer left → h.more ≡ []
comment_stops inside rest longer left h first second =
    no_more inside rest h.more left first h.rest_is
    (AllByRecursion-right (λ c. c ≢ 10) inside h.more (subst (AllByRecursion (λ c. c ≢ 10)) h.prefix_is (inside_of longer left second)))

-- The ends of a comment are one.
record SameEnd (inside rest longer left : List ℕ) : Type 0 where
  inside_is : inside ≡ longer
  rest_is : rest ≡ left

comment_end : (inside rest longer left : List ℕ) → inside ++ rest ≡ longer ++ left →
    IsCommentBefore inside rest → IsCommentBefore longer left → SameEnd inside rest longer left
comment_end inside rest longer left e first second =
    elim (one_goes_on inside rest longer left e) [
      | inl h ↦
          let none = comment_stops inside rest longer left h first second in
          record {
            inside_is = sym (same_prefix inside rest longer left h none);
            rest_is = sym (same_rest inside rest longer left h none);
          }
      | inr h ↦
          let none = comment_stops longer left inside rest h second first in
          record {
            inside_is = same_prefix longer left inside rest h none;
            rest_is = same_rest longer left inside rest h none;
          }
    ]

-- neither a separator nor a percent sign is the first character of a token
no_token_at_separator : (mark : Mark) (c : ℕ) (text prefix rest : List ℕ) → IsSeparator c → c ∷ text ≡ prefix ++ rest → Forms mark prefix → ⊥
no_token_at_separator mark c text [] rest s e h = Forms-some mark h
no_token_at_separator mark c text (d ∷ prefix) rest s e h = Forms-no_separator mark d prefix (subst IsSeparator (head_is e) s) h

no_token_at_percent : (mark : Mark) (c : ℕ) (text prefix rest : List ℕ) → c ≡ 37 → c ∷ text ≡ prefix ++ rest → Forms mark prefix → ⊥
no_token_at_percent mark c text [] rest s e h = Forms-some mark h
no_token_at_percent mark c text (d ∷ prefix) rest s e h = Forms-no_percent mark d prefix (sym (head_is e) ∙ s) h

no_percent_separator : (c : ℕ) → IsSeparator c → c ≡ 37 → ⊥
no_percent_separator c s e = grind arith

-- What is wrong with a text, by what it begins with.
wrong_at_separator : {place c : ℕ} {rest : List ℕ} {why : Lexical} → IsSeparator c → Wrong place (c ∷ rest) why → Wrong (place + 1) rest why
wrong_at_separator h (after_separator place c rest why s wrong) = wrong
wrong_at_separator h (after_comment place c inside rest text why e text_is before wrong) = absurd (no_percent_separator c h e)
wrong_at_separator {c = c} {rest = text} h (after_token place mark prefix rest _ why e first short wrong) =
    absurd (no_token_at_separator mark c text prefix rest h e first.forms)
wrong_at_separator h (no_token place c rest no_separator no_percent none) = absurd (no_separator h)
wrong_at_separator {c = c} {rest = text} h (too_long place mark prefix rest _ e first long) =
    absurd (no_token_at_separator mark c text prefix rest h e first.forms)

same_wrong : (inside rest longer left : List ℕ) (place : ℕ) (why : Lexical) → SameEnd inside rest longer left →
    Wrong (place + 1 + width longer) left why → Wrong (place + 1 + width inside) rest why
same_wrong inside rest longer left place why h wrong = rw (h.inside_is, h.rest_is) wrong

wrong_at_comment : {place c : ℕ} {text : List ℕ} {why : Lexical} (inside rest : List ℕ) → c ≡ 37 → text ≡ inside ++ rest →
    IsCommentBefore inside rest → Wrong place (c ∷ text) why → Wrong (place + 1 + width inside) rest why
wrong_at_comment inside rest is_percent text_is before (after_separator place c text why s wrong) = absurd (no_percent_separator c s is_percent)
wrong_at_comment inside rest is_percent text_is before (after_comment place c longer left text why e same ends wrong) =
    same_wrong inside rest longer left place why (comment_end inside rest longer left (sym text_is ∙ same) before ends) wrong
wrong_at_comment {c = c} {text = text} inside rest is_percent text_is before (after_token place mark prefix left _ why e first short wrong) =
    absurd (no_token_at_percent mark c text prefix left is_percent e first.forms)
wrong_at_comment inside rest is_percent text_is before (no_token place c text no_separator no_percent none) = absurd (no_percent is_percent)
wrong_at_comment {c = c} {text = text} inside rest is_percent text_is before (too_long place mark prefix left _ e first long) =
    absurd (no_token_at_percent mark c text prefix left is_percent e first.forms)

same_wrong_token : (mark other : Mark) (prefix rest more left : List ℕ) (place : ℕ) (why : Lexical) → SameFirst mark other prefix rest more left →
    Wrong (place + width more) left why → Wrong (place + width prefix) rest why
same_wrong_token mark other prefix rest more left place why h wrong = rw (h.prefix_is, h.rest_is) wrong

same_short : (mark other : Mark) (prefix rest more left : List ℕ) → SameFirst mark other prefix rest more left →
    IsShort mark prefix → IsShort other more
same_short mark other prefix rest more left h short = rw (← h.mark_is, ← h.prefix_is) short

wrong_at_token : {place : ℕ} {text : List ℕ} {why : Lexical} (mark : Mark) (prefix rest : List ℕ) → text ≡ prefix ++ rest →
    IsLongest mark prefix rest → IsShort mark prefix → Wrong place text why → Wrong (place + width prefix) rest why
wrong_at_token mark prefix rest text_is longest is_short (after_separator place c text why s wrong) =
    absurd (no_token_at_separator mark c text prefix rest s text_is longest.forms)
wrong_at_token mark prefix rest text_is longest is_short (after_comment place c inside left text why e same before wrong) =
    absurd (no_token_at_percent mark c text prefix rest e text_is longest.forms)
wrong_at_token mark prefix rest text_is longest is_short (after_token place other more left text why e first short wrong) =
    same_wrong_token mark other prefix rest more left place why
    (IsLongest-unique mark other prefix rest more left (sym text_is ∙ e) longest first) wrong
wrong_at_token mark prefix rest text_is longest is_short (no_token place c text no_separator no_percent none) =
    absurd (none mark prefix rest longest.forms (sym text_is))
wrong_at_token mark prefix rest text_is longest is_short (too_long place other more left text e first long) =
    absurd (long (same_short mark other prefix rest more left
    (IsLongest-unique mark other prefix rest more left (sym text_is ∙ e) longest first) is_short))

wrong_at_none : {place c : ℕ} {text : List ℕ} {why : Lexical} → (IsSeparator c → ⊥) → c ≢ 37 → BeginNoToken (c ∷ text) →
    Wrong place (c ∷ text) why → why ≡ bad_character place
wrong_at_none no_separator no_percent none (after_separator place c text why s wrong) = absurd (no_separator s)
wrong_at_none no_separator no_percent none (after_comment place c inside left text why e same before wrong) = absurd (no_percent e)
wrong_at_none no_separator no_percent none (after_token place mark prefix left _ why e first short wrong) =
    absurd (none mark prefix left first.forms (sym e))
wrong_at_none no_separator no_percent none (no_token place c text s p n) = refl
wrong_at_none no_separator no_percent none (too_long place mark prefix left _ e first long) =
    absurd (none mark prefix left first.forms (sym e))

wrong_at_long : {place : ℕ} {text : List ℕ} {why : Lexical} (mark : Mark) (prefix rest : List ℕ) → text ≡ prefix ++ rest →
    IsLongest mark prefix rest → (IsShort mark prefix → ⊥) → Wrong place text why → why ≡ long_name place
wrong_at_long mark prefix rest text_is longest is_long (after_separator place c text why s wrong) =
    absurd (no_token_at_separator mark c text prefix rest s text_is longest.forms)
wrong_at_long mark prefix rest text_is longest is_long (after_comment place c inside left text why e same before wrong) =
    absurd (no_token_at_percent mark c text prefix rest e text_is longest.forms)
wrong_at_long mark prefix rest text_is longest is_long (after_token place other more left text why e first short wrong) =
    absurd (is_long (same_short other mark more left prefix rest
    (IsLongest-unique other mark more left prefix rest (sym e ∙ text_is) first longest) short))
wrong_at_long mark prefix rest text_is longest is_long (no_token place c text no_separator no_percent none) =
    absurd (none mark prefix rest longest.forms (sym text_is))
wrong_at_long mark prefix rest text_is longest is_long (too_long place other more left text e first long) = refl

pub Wrong-unique : {place : ℕ} {text : List ℕ} {why other : Lexical} → Wrong place text why → Wrong place text other → why ≡ other
Wrong-unique (after_separator place c rest why s wrong) second = Wrong-unique wrong (wrong_at_separator s second)
Wrong-unique (after_comment place c inside rest text why e text_is before wrong) second =
    Wrong-unique wrong (wrong_at_comment inside rest e text_is before second)
Wrong-unique (after_token place mark prefix rest text why e first short wrong) second =
    Wrong-unique wrong (wrong_at_token mark prefix rest e first short second)
Wrong-unique (no_token place c rest no_separator no_percent none) second = sym (wrong_at_none no_separator no_percent none second)
Wrong-unique (too_long place mark prefix rest text e first long) second = sym (wrong_at_long mark prefix rest e first long second)
