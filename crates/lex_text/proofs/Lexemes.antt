-- What stands at a place of a text: a token of each kind, or none.
use Rattle.std.proofs.Common.{◌≡◌, ◌≢◌, ℕ, ◌+◌, ◌<◌, ◌≤◌, inl, inr, List, [], ◌∷◌, ◌++◌, length, refl, sym, ap, ◌∙◌, subst, arith}
use Rattle.std.specs.Char.{len_utf8}
use Rattle.std.specs.List.{AllByRecursion}
use Rattle.std.proofs.lemmas.Str.{len_utf8_bounds, len_utf8_ascii}
use Rattle.lex_text.specs.declared.mark.Mark.{Mark}
use Rattle.lex_text.specs.declared.mark.Mark.TheVariants.{Word, Var, Number, Arrow}
use Rattle.lex_text.specs.Characters.{width, MayStart, MayContinue, IsDigit}
use Rattle.lex_text.specs.Tokens.{AreDigits, IsLongest}
use Rattle.lex_text.specs.Reading.{from_place, IsPlace, Reads, Passes, StopsBefore, IsTokenAt, BeginNoToken, IsSign}
use Rattle.lex_text.proofs.Places.{width-cons, width_one, Reads-text, Reads-past, StopsBefore-end, StopsBefore-character}
use Rattle.lex_text.proofs.Longest.{IsLongest-word, IsLongest-variable, IsLongest-digits, IsLongest-negative, IsLongest-arrow, IsLongest-sign, BeginsNone, BeginNoToken-character, BeginNoToken-minus, FollowsMinus}

module _ (text : List ℕ) (start c next : ℕ) (at : IsPlace text start) (first : Reads text start c next) where
  -- a character and the run behind it
  token_run : (P : ℕ → Type 0) (mark : Mark) (end : ℕ) (run : Passes P text next end) →
      IsLongest mark (c ∷ run.passed) (from_place text end) → IsTokenAt text start mark end
  token_run P mark end run longest = record {
    prefix = c ∷ run.passed;
    text_is = Reads-text text start c next at first ∙ ap (λ cs. c ∷ cs) run.text_is;
    longest = longest;
    end_is = let a = first.next_is in let b = run.end_is in let w = width-cons c run.passed in omega arith;
    end_place = run.end_place;
    some = let a = Reads-past text start c next first in let b = run.end_is in omega arith;
  }

  pub IsTokenAt-sign : (mark : Mark) → IsSign mark c → IsTokenAt text start mark next
  IsTokenAt-sign mark sign = record {
    prefix = c ∷ [];
    text_is = Reads-text text start c next at first;
    longest = IsLongest-sign mark c (from_place text next) sign;
    end_is = first.next_is ∙ ap (λ n. start + n) (sym (width_one c));
    end_place = first.next_place;
    some = Reads-past text start c next first;
  }

  pub IsTokenAt-word : (end : ℕ) → MayStart c → Passes MayContinue text next end → StopsBefore MayContinue (from_place text end) →
      IsTokenAt text start Word end
  IsTokenAt-word end starts run stops =
      token_run MayContinue Word end run (IsLongest-word c run.passed (from_place text end) starts run.all stops)

  pub IsTokenAt-variable : (end : ℕ) → c ≡ 95 → Passes MayContinue text next end → StopsBefore MayContinue (from_place text end) →
      IsTokenAt text start Var end
  IsTokenAt-variable end is run stops =
      token_run MayContinue Var end run (IsLongest-variable c run.passed (from_place text end) is run.all stops)

  pub BeginNoToken-at : BeginsNone c → BeginNoToken (from_place text start)
  BeginNoToken-at none = subst BeginNoToken (sym (Reads-text text start c next at first)) (BeginNoToken-character c (from_place text next) none)

digits_some : (c : ℕ) (passed rest left : List ℕ) → passed ++ rest ≡ c ∷ left → IsDigit c → AllByRecursion IsDigit passed →
    StopsBefore IsDigit rest → AreDigits passed
digits_some c [] rest left e digit all stops = absurd (subst (StopsBefore IsDigit) e stops digit)
digits_some c (d ∷ ds) rest left e digit all stops = all

digits_width : (ds : List ℕ) → AreDigits ds → 0 < width ds
digits_width [] h = absurd h
digits_width (d ∷ ds) h = let w = width-cons d ds in let bounds = len_utf8_bounds d in omega arith

run_digits : (text : List ℕ) (start c next end : ℕ) → IsPlace text start → Reads text start c next → IsDigit c →
    (run : Passes IsDigit text start end) → StopsBefore IsDigit (from_place text end) → AreDigits run.passed
run_digits text start c next end at first digit run stops =
    digits_some c run.passed (from_place text end) (from_place text next) (sym run.text_is ∙ Reads-text text start c next at first) digit run.all stops

pub IsTokenAt-digits : (text : List ℕ) (start c next end : ℕ) → IsPlace text start → Reads text start c next → IsDigit c →
    Passes IsDigit text start end → StopsBefore IsDigit (from_place text end) → IsTokenAt text start Number end
IsTokenAt-digits text start c next end at first digit run stops =
    let digits = run_digits text start c next end at first digit run stops in
    record {
      prefix = run.passed;
      text_is = run.text_is;
      longest = IsLongest-digits run.passed (from_place text end) digits stops;
      end_is = run.end_is;
      end_place = run.end_place;
      some = let a = run.end_is in let w = digits_width run.passed digits in omega arith;
    }

module _ (text : List ℕ) (start place : ℕ) (at : IsPlace text start) (minus : Reads text start 45 place) where
  pub IsTokenAt-negative : (d next end : ℕ) → Reads text place d next → IsDigit d → Passes IsDigit text place end →
      StopsBefore IsDigit (from_place text end) → IsTokenAt text start Number end
  IsTokenAt-negative d next end second digit run stops =
      token_run text start 45 place at minus IsDigit Number end run
      (IsLongest-negative 45 run.passed (from_place text end) refl (run_digits text place d next end minus.next_place second digit run stops) stops)

  pub IsTokenAt-arrow : (d : ℕ) → Reads text place d (place + len_utf8 d) → d ≡ 62 → IsTokenAt text start Arrow (place + 1)
  IsTokenAt-arrow d second is =
      let one = len_utf8_ascii d (omega arith) in
      let last = subst (λ n. Reads text place d (place + n)) one second in
      record {
        prefix = 45 ∷ d ∷ [];
        text_is = Reads-text text start 45 place at minus ∙ ap (λ cs. 45 ∷ cs) (Reads-text text place d (place + 1) minus.next_place last);
        longest = IsLongest-arrow 45 d (from_place text (place + 1)) refl is;
        end_is = let a = minus.next_is in let b = last.next_is in let w = width-cons 45 (d ∷ []) in let v = width_one d in omega arith;
        end_place = last.next_place;
        some = let a = Reads-past text start 45 place minus in omega arith;
      }

  minus_alone : StopsBefore FollowsMinus (from_place text place) → BeginNoToken (from_place text start)
  minus_alone stops = subst BeginNoToken (sym (Reads-text text start 45 place at minus)) (BeginNoToken-minus (from_place text place) stops)

  pub BeginNoToken-last_minus : length text ≤ place → BeginNoToken (from_place text start)
  BeginNoToken-last_minus end = minus_alone (StopsBefore-end FollowsMinus text place end)

  not_follows : (d : ℕ) → d ≢ 62 → (IsDigit d → ⊥) → FollowsMinus d → ⊥
  not_follows d no_arrow no_digit (inl h) = no_arrow h
  not_follows d no_arrow no_digit (inr h) = no_digit h

  pub BeginNoToken-lone_minus : (d next : ℕ) → Reads text place d next → d ≢ 62 → (IsDigit d → ⊥) → BeginNoToken (from_place text start)
  BeginNoToken-lone_minus d next second no_arrow no_digit =
      minus_alone (StopsBefore-character FollowsMinus text place d next minus.next_place second (not_follows d no_arrow no_digit))
