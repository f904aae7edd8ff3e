-- A step over one character of a text, and over a run of them.
use Rattle.std.proofs.Common.{◌≡◌, ℕ, ◌+◌, ◌<◌, ◌≤◌, List, [], ◌∷◌, ◌++◌, length, get_or, drop, append_assoc, refl, sym, ap, ◌∙◌, subst, arith, length-append, length-drop}
use Rattle.std.specs.Prelude.{encode_utf8, encode_utf8_all}
use Rattle.std.specs.Char.{len_utf8}
use Rattle.std.specs.List.{AllByRecursion}
use Rattle.std.specs.Str.{chars, IsUtf8, IsCharBoundary}
use Rattle.std.proofs.lemmas.List.{drop_more, drop_all, get_or-drop}
use Rattle.std.proofs.lemmas.Str.{encodes-append, encode_ascii, length-encode, len_utf8_ascii, len_utf8_bounds, drop_past_char, IsUtf8-past_char, chars_past_char, byte_from_char, chars-nil, IsCharBoundary-from_drop}
use Rattle.lex_text.specs.Characters.{width}
use Rattle.lex_text.specs.Reading.{from_place, IsPlace, Reads, Passes, StopsBefore}

pub width-cons : (c : ℕ) (cs : List ℕ) → width (c ∷ cs) ≡ len_utf8 c + width cs
width-cons c cs = length-append (encode_utf8 c) (encode_utf8_all cs) ∙ ap (λ n. n + width cs) (length-encode c)

pub width_one : (c : ℕ) → width (c ∷ []) ≡ len_utf8 c
width_one c = let e = width-cons c [] in omega arith

pub width-append : (xs ys : List ℕ) → width (xs ++ ys) ≡ width xs + width ys
width-append xs ys = ap length (encodes-append xs ys) ∙ length-append (encode_utf8_all xs) (encode_utf8_all ys)

pub AllByRecursion-append : (P : ℕ → Type 0) (xs ys : List ℕ) → AllByRecursion P xs → AllByRecursion P ys → AllByRecursion P (xs ++ ys)
AllByRecursion-append P [] ys h k = k
AllByRecursion-append P (x ∷ xs) ys h k = (h.0, AllByRecursion-append P xs ys h.1 k)

pub IsPlace-start : (text : List ℕ) → IsUtf8 text → IsPlace text 0
IsPlace-start text u = record { within = omega arith; utf8 = u }

pub IsPlace-boundary : (text : List ℕ) (place : ℕ) → IsPlace text place → IsCharBoundary text place
IsPlace-boundary text place h = IsCharBoundary-from_drop text place h.within h.utf8

char_fits : (text rest : List ℕ) (place c : ℕ) → place ≤ length text → drop place text ≡ encode_utf8 c ++ rest → place + len_utf8 c ≤ length text
char_fits text rest place c h e =
    let a = ap length e in
    let b = length-drop place text in
    let d = length-append (encode_utf8 c) rest in
    let l = length-encode c in
    let bounds = len_utf8_bounds c in
    omega arith

pub Reads-from_spelled : (text rest : List ℕ) (place c : ℕ) → IsPlace text place → drop place text ≡ encode_utf8 c ++ rest →
    Reads text place c (place + len_utf8 c)
Reads-from_spelled text rest place c h e =
    let rest_is = drop_past_char text rest place c e in
    record {
      spelled = e ∙ ap (λ r. encode_utf8 c ++ r) (sym rest_is);
      next_is = refl;
      next_place = record {
        within = char_fits text rest place c h.within e;
        utf8 = subst IsUtf8 (sym rest_is) (IsUtf8-past_char (drop place text) rest c h.utf8 e);
      };
    }

ascii_spelled : (text : List ℕ) (place : ℕ) → place < length text → get_or text place 0 < 128 →
    drop place text ≡ encode_utf8 (get_or text place 0) ++ drop (place + 1) text
ascii_spelled text place h ascii =
    drop_more text place 0 h ∙ ap (λ prefix. prefix ++ drop (place + 1) text) (sym (encode_ascii (get_or text place 0) ascii))

pub Reads-ascii : (text : List ℕ) (place : ℕ) → IsPlace text place → place < length text → get_or text place 0 < 128 →
    Reads text place (get_or text place 0) (place + 1)
Reads-ascii text place at h ascii =
    let next = Reads-from_spelled text (drop (place + 1) text) place (get_or text place 0) at (ascii_spelled text place h ascii) in
    rw (len_utf8_ascii (get_or text place 0) ascii) at next

pub Reads-text : (text : List ℕ) (place c next : ℕ) → IsPlace text place → Reads text place c next →
    from_place text place ≡ c ∷ from_place text next
Reads-text text place c next at h = chars_past_char (drop place text) (drop next text) c at.utf8 h.spelled

pub Reads-byte : (text : List ℕ) (place c next : ℕ) → Reads text place c next → c < 128 → get_or text place 0 ≡ c
Reads-byte text place c next h ascii =
    let byte = byte_from_char (drop place text) (drop next text) c h.spelled ascii in
    sym (get_or-drop place text 0 0 ∙ ap (λ k. get_or text k 0) (omega arith)) ∙ byte

pub Reads-past : (text : List ℕ) (place c next : ℕ) → Reads text place c next → place < next
Reads-past text place c next h = let bounds = len_utf8_bounds c in let e = h.next_is in omega arith

pub Passes-none : (P : ℕ → Type 0) (text : List ℕ) (place : ℕ) → IsPlace text place → Passes P text place place
Passes-none P text place at = record { passed = []; all = tt; text_is = refl; end_is = omega arith; end_place = at }

pub Passes-one : (P : ℕ → Type 0) (text : List ℕ) (place c next : ℕ) → IsPlace text place → Reads text place c next → P c → Passes P text place next
Passes-one P text place c next at h passes = record {
  passed = c ∷ [];
  all = (passes, tt);
  text_is = Reads-text text place c next at h;
  end_is = h.next_is ∙ ap (λ n. place + n) (sym (width_one c));
  end_place = h.next_place;
}

pub Passes-trans : (P : ℕ → Type 0) (text : List ℕ) (start place end : ℕ) → Passes P text start place → Passes P text place end → Passes P text start end
Passes-trans P text start place end h k = record {
  passed = h.passed ++ k.passed;
  all = AllByRecursion-append P h.passed k.passed h.all k.all;
  text_is = h.text_is ∙ ap (λ rest. h.passed ++ rest) k.text_is ∙ sym (append_assoc h.passed k.passed (from_place text end));
  end_is = let a = h.end_is in let b = k.end_is in let w = width-append h.passed k.passed in omega arith;
  end_place = k.end_place;
}

pub StopsBefore-character : (P : ℕ → Type 0) (text : List ℕ) (place c next : ℕ) → IsPlace text place → Reads text place c next →
    (P c → ⊥) → StopsBefore P (from_place text place)
StopsBefore-character P text place c next at h fails = subst (StopsBefore P) (sym (Reads-text text place c next at h)) fails

pub from_place-end : (text : List ℕ) (place : ℕ) → length text ≤ place → from_place text place ≡ []
from_place-end text place h = ap chars (drop_all place text h) ∙ chars-nil

pub StopsBefore-end : (P : ℕ → Type 0) (text : List ℕ) (place : ℕ) → length text ≤ place → StopsBefore P (from_place text place)
StopsBefore-end P text place h = subst (StopsBefore P) (sym (from_place-end text place h)) tt

-- a step of a run, and its end
pub step_on : (P : ℕ → Type 0) (text : List ℕ) (place c width : ℕ) → IsPlace text place → Reads text place c (place + len_utf8 c) →
    width ≡ len_utf8 c → P c → Passes P text place (place + width) × (place < place + width)
step_on P text place c width at h e passes =
    subst (λ w. Passes P text place (place + w) × (place < place + w)) (sym e)
    (Passes-one P text place c (place + len_utf8 c) at h passes, Reads-past text place c (place + len_utf8 c) h)
