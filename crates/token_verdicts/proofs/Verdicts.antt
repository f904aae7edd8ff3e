-- Each text has one verdict: from its characters to its bytes.
use Rattle.std.proofs.Common.{◌≡◌, ℕ, zero, suc, ◌+◌, ◌≤◌, ◌⊎◌, inl, inr, ⊎_elim, Bool, true, false, true≢false, List, [], ◌∷◌, ◌++◌, length, take, append_assoc, refl, sym, ap, ap₂, ◌∙◌, subst, arith}
use Rattle.std.specs.Prelude.{encode_utf8, encode_utf8_all}
use Rattle.std.specs.Char.{IsScalar, len_utf8}
use Rattle.std.specs.List.{AllByRecursion}
use Rattle.std.specs.Str.{chars, IsUtf8, IsValidUpTo, is_utf8}
use Rattle.std.proofs.lemmas.List.{take_all}
use Rattle.std.proofs.lemmas.Str.{encode_same, encodes_same, cons_from_encodes, IsUtf8-nil, IsUtf8-from_is_utf8, is_utf8-from_IsUtf8}
use Rattle.lex_text.specs.Characters.{width, Spells, NoCharacter, NotUtf8At}
use Rattle.lex_text.specs.Tokens.{Lexical, Wrong, WrongText}
use Rattle.lex_text.proofs.Places.{width-cons}
use Rattle.lex_text.proofs.Utf8.{TokensOf-from_cut, WrongText-from_wrong, NotUtf8At-from_valid}
use Rattle.lex_text.proofs.Unique.{TokensOf-unique, TokensOf-not_wrong, TokensOf-not_not_utf8}
use Rattle.token_verdicts.specs.Verdicts.{Verdict, are_tokens, no_utf8, first_wrong, IsVerdict, TextsHaveOneVerdict}
use Rattle.token_verdicts.proofs.Wrongs.{Wrong-unique}
use Rattle.token_verdicts.proofs.Cuts.{Cuts, cuts}

-- Bytes are UTF-8, or valid up to some place.
abbrev ValidUpTo : List ℕ → Type 0
ValidUpTo bytes = (place : ℕ) × IsValidUpTo bytes place

-- No prefix that ends here or later is UTF-8.
abbrev NoneFrom : List ℕ → ℕ → Type 0
NoneFrom bytes place = (end : ℕ) → place ≤ end → IsUtf8 (take end bytes) → ⊥

here_or_later : (n m : ℕ) → n ≤ m → (m ≡ n) ⊎ (suc n ≤ m)
here_or_later n m le = grind arith

none_here : (bytes : List ℕ) (n : ℕ) → NoneFrom bytes (suc n) → is_utf8 (take n bytes) ≡ false → NoneFrom bytes n
none_here bytes n none e end le u =
    ⊎_elim
    (λ same. true≢false (sym (is_utf8-from_IsUtf8 (take n bytes) (subst (λ k. IsUtf8 (take k bytes)) same u)) ∙ e))
    (λ later. none end later u)
    (here_or_later n end le)

valid_at : (bytes : List ℕ) (n : ℕ) → suc n ≤ length bytes → NoneFrom bytes (suc n) → (NoneFrom bytes n → ValidUpTo bytes) →
    (b : Bool) → is_utf8 (take n bytes) ≡ b → ValidUpTo bytes
valid_at bytes n le none further true e =
    (n, record { short = omega arith; front = IsUtf8-from_is_utf8 (take n bytes) e; longest = λ end later u. none end (omega arith) u })
valid_at bytes n le none further false e = further (none_here bytes n none e)

valid_below : (bytes : List ℕ) (n : ℕ) → n ≤ length bytes → NoneFrom bytes n → ValidUpTo bytes
valid_below bytes zero le none = absurd (none 0 (omega arith) IsUtf8-nil)
valid_below bytes (suc n) le none =
    valid_at bytes n le none (λ earlier. valid_below bytes n (omega arith) earlier) (is_utf8 (take n bytes)) refl

valid_or_not : (bytes : List ℕ) (b : Bool) → is_utf8 bytes ≡ b → IsUtf8 bytes ⊎ ValidUpTo bytes
valid_or_not bytes true e = inl (IsUtf8-from_is_utf8 bytes e)
valid_or_not bytes false e =
    inr (valid_below bytes (length bytes) (omega arith) (λ end le u.
    true≢false (sym (is_utf8-from_IsUtf8 bytes (subst IsUtf8 (take_all end bytes le) u)) ∙ e)))

abbrev SomeVerdict : List ℕ → Type 0
SomeVerdict bytes = (verdict : Verdict) × IsVerdict bytes verdict

verdict_on_characters : (bytes : List ℕ) → IsUtf8 bytes → Cuts 0 (chars bytes) → SomeVerdict bytes
verdict_on_characters bytes u (inl h) = (are_tokens h.0, TokensOf-from_cut bytes h.0 u h.1)
verdict_on_characters bytes u (inr h) = (first_wrong h.0, WrongText-from_wrong bytes h.0 u h.1)

verdict_on_bytes : (bytes : List ℕ) → IsUtf8 bytes ⊎ ValidUpTo bytes → SomeVerdict bytes
verdict_on_bytes bytes (inl u) = verdict_on_characters bytes u (cuts 0 (chars bytes))
verdict_on_bytes bytes (inr h) = (no_utf8 h.0, NotUtf8At-from_valid bytes h.0 h.1)

some_verdict : (bytes : List ℕ) → SomeVerdict bytes
some_verdict bytes = verdict_on_bytes bytes (valid_or_not bytes (is_utf8 bytes) refl)

WrongText-unique : (bytes : List ℕ) (why other : Lexical) → WrongText bytes why → WrongText bytes other → why ≡ other
WrongText-unique bytes why other h k =
    let same : h.0 ≡ k.0 = encodes_same h.0 k.0 (h.1.encoded ∙ sym k.1.encoded) in
    Wrong-unique (subst (λ cs. Wrong 0 cs why) same h.2) k.2

-- no text of characters goes on with bytes from which no character can be read
no_character_in : (characters rest : List ℕ) → AllByRecursion IsScalar characters → encode_utf8_all characters ≡ rest → NoCharacter rest → ⊥
no_character_in [] rest h e none = none.some_left (sym e)
no_character_in (c ∷ cs) rest h e none = none.none_begins c (encode_utf8_all cs) h.0 e

no_character_after : (prefix rest characters : List ℕ) → AllByRecursion IsScalar characters →
    encode_utf8_all characters ≡ encode_utf8_all prefix ++ rest → NoCharacter rest → ⊥
no_character_after [] rest characters h e none = no_character_in characters rest h e none
no_character_after (c ∷ prefix) rest characters h e none =
    let parts = cons_from_encodes characters (encode_utf8_all prefix ++ rest) c (e ∙ append_assoc (encode_utf8 c) (encode_utf8_all prefix) rest) in
    let all = subst (AllByRecursion IsScalar) parts.1 h in
    no_character_after prefix rest parts.0 all.1 parts.2 none

spelled_or_not : (bytes characters : List ℕ) (place : ℕ) → Spells characters bytes → NotUtf8At bytes place → ⊥
spelled_or_not bytes characters place h k = no_character_after k.0 k.1 characters h.scalars (h.encoded ∙ sym k.3) k.5

-- The first byte that begins no character is one.
first_fault : (prefix rest other left : List ℕ) → encode_utf8_all prefix ++ rest ≡ encode_utf8_all other ++ left →
    AllByRecursion IsScalar prefix → AllByRecursion IsScalar other → NoCharacter rest → NoCharacter left → width prefix ≡ width other
first_fault [] rest [] left e s t none also = refl
first_fault [] rest (d ∷ other) left e s t none also =
    absurd (none.none_begins d (encode_utf8_all other ++ left) t.0 (sym (e ∙ append_assoc (encode_utf8 d) (encode_utf8_all other) left)))
first_fault (c ∷ prefix) rest [] left e s t none also =
    absurd (also.none_begins c (encode_utf8_all prefix ++ rest) s.0 (sym (append_assoc (encode_utf8 c) (encode_utf8_all prefix) rest) ∙ e))
first_fault (c ∷ prefix) rest (d ∷ other) left e s t none also =
    let both = encode_same c d (encode_utf8_all prefix ++ rest) (encode_utf8_all other ++ left)
    (sym (append_assoc (encode_utf8 c) (encode_utf8_all prefix) rest) ∙ (e ∙ append_assoc (encode_utf8 d) (encode_utf8_all other) left)) in
    let further : width prefix ≡ width other = first_fault prefix rest other left both.1 s.1 t.1 none also in
    width-cons c prefix ∙ (ap₂ (λ x n. len_utf8 x + n) both.0 further ∙ sym (width-cons d other))

NotUtf8At-unique : (bytes : List ℕ) (place other : ℕ) → NotUtf8At bytes place → NotUtf8At bytes other → place ≡ other
NotUtf8At-unique bytes place other h k =
    sym h.4 ∙ (first_fault h.0 h.1 k.0 k.1 (h.3 ∙ sym k.3) h.2 k.2 h.5 k.5 ∙ k.4)

-- Two verdicts on a text are one.
pub same_verdict : (bytes : List ℕ) (verdict other : Verdict) → IsVerdict bytes verdict → IsVerdict bytes other → verdict ≡ other
same_verdict bytes (are_tokens ts) (are_tokens us) h k = ap are_tokens (TokensOf-unique bytes ts us h k)
same_verdict bytes (are_tokens ts) (no_utf8 place) h k = absurd (TokensOf-not_not_utf8 bytes ts place h k)
same_verdict bytes (are_tokens ts) (first_wrong why) h k = absurd (TokensOf-not_wrong bytes ts why h k)
same_verdict bytes (no_utf8 place) (are_tokens us) h k = absurd (TokensOf-not_not_utf8 bytes us place k h)
same_verdict bytes (no_utf8 place) (no_utf8 other) h k = ap no_utf8 (NotUtf8At-unique bytes place other h k)
same_verdict bytes (no_utf8 place) (first_wrong why) h k = absurd (spelled_or_not bytes k.0 place k.1 h)
same_verdict bytes (first_wrong why) (are_tokens us) h k = absurd (TokensOf-not_wrong bytes us why k h)
same_verdict bytes (first_wrong why) (no_utf8 place) h k = absurd (spelled_or_not bytes h.0 place h.1 k)
same_verdict bytes (first_wrong why) (first_wrong other) h k = ap first_wrong (WrongText-unique bytes why other h k)

pub texts_have_one_verdict : TextsHaveOneVerdict
texts_have_one_verdict bytes =
    let found : SomeVerdict bytes = some_verdict bytes in
    record { verdict = found.0; holds = found.1; alone = λ other h. same_verdict bytes other found.0 h found.1 }
