-- From the bytes of a text to its characters, and the first byte that begins none.
use Rattle.std.proofs.Common.{◌≡◌, ◌≢◌, ℕ, ◌+◌, ◌<◌, Bool, true, false, List, [], ◌∷◌, ◌++◌, length, take, drop, append_assoc, refl, sym, ap, ◌∙◌, subst, arith}
use Rattle.std.specs.Prelude.{encode_utf8, ◌&&◌}
use Rattle.std.specs.Char.{IsScalar, len_utf8}
use Rattle.std.specs.List.{AllByRecursion}
use Rattle.std.specs.Str.{chars, IsUtf8, all_scalars, IsValidUpTo}
use Rattle.std.proofs.lemmas.List.{length-append, length-drop, length-take-le, take-append-drop, take_at}
use Rattle.std.proofs.lemmas.Str.{scalars-chars, encodes-chars, IsUtf8-append, IsUtf8-encode, length-encode, len_utf8_bounds}
use Rattle.lex_text.specs.declared.token.Token.{Token}
use Rattle.lex_text.specs.Characters.{Spells, NotUtf8At}
use Rattle.lex_text.specs.Tokens.{Cut, Wrong, Lexical, TokensOf, WrongText}

pub both_true : (a b : Bool) → (a && b) ≡ true → (a ≡ true) × (b ≡ true)
both_true true b e = (refl, e)
both_true false b e = cc

scalars_all : (cs : List ℕ) → all_scalars cs ≡ true → AllByRecursion IsScalar cs
scalars_all [] e = tt
scalars_all (c ∷ cs) e = let both = both_true _ (all_scalars cs) e in (both.0, scalars_all cs both.1)

pub Spells-chars : (bytes : List ℕ) → IsUtf8 bytes → Spells (chars bytes) bytes
Spells-chars bytes u = record { scalars = scalars_all (chars bytes) (scalars-chars bytes u); encoded = encodes-chars bytes u }

pub TokensOf-from_cut : (bytes : List ℕ) (tokens : List Token) → IsUtf8 bytes → Cut 0 (chars bytes) tokens → TokensOf bytes tokens
TokensOf-from_cut bytes tokens u cut = (chars bytes, Spells-chars bytes u, cut)

pub WrongText-from_wrong : (bytes : List ℕ) (why : Lexical) → IsUtf8 bytes → Wrong 0 (chars bytes) why → WrongText bytes why
WrongText-from_wrong bytes why u wrong = (chars bytes, Spells-chars bytes u, wrong)

longer_prefix : (bytes rest : List ℕ) (n c : ℕ) → n < length bytes → encode_utf8 c ++ rest ≡ drop n bytes →
    take (n + len_utf8 c) bytes ≡ take n bytes ++ encode_utf8 c
longer_prefix bytes rest n c short e =
    let whole : bytes ≡ (take n bytes ++ encode_utf8 c) ++ rest =
    sym (take-append-drop n bytes) ∙ (ap (λ r. take n bytes ++ r) (sym e) ∙ sym (append_assoc (take n bytes) (encode_utf8 c) rest)) in
    let size : length (take n bytes ++ encode_utf8 c) ≡ n + len_utf8 c =
    (let a = length-append (take n bytes) (encode_utf8 c) in let b = length-take-le n bytes (omega arith) in let d = length-encode c in omega arith) in
    ap (take (n + len_utf8 c)) whole ∙ take_at (take n bytes ++ encode_utf8 c) rest (n + len_utf8 c) size

none_at_first_fault : (bytes : List ℕ) (n : ℕ) → IsValidUpTo bytes n → (c : ℕ) (rest : List ℕ) → IsScalar c → encode_utf8 c ++ rest ≢ drop n bytes
none_at_first_fault bytes n h c rest scalar e =
    h.longest (n + len_utf8 c) (let bounds = len_utf8_bounds c in omega arith)
    (subst IsUtf8 (sym (longer_prefix bytes rest n c h.short e)) (IsUtf8-append (take n bytes) (encode_utf8 c) h.front (IsUtf8-encode c scalar)))

pub NotUtf8At-from_valid : (bytes : List ℕ) (n : ℕ) → IsValidUpTo bytes n → NotUtf8At bytes n
NotUtf8At-from_valid bytes n h =
    let prefix = h.front.0 in
    let spelled = h.front.1.1 in (
      prefix,
      drop n bytes,
      scalars_all prefix h.front.1.0,
      ap (λ f. f ++ drop n bytes) spelled ∙ take-append-drop n bytes,
      ap length spelled ∙ length-take-le n bytes (let short = h.short in omega arith),
      record {
        some_left = λ e. (let l = length-drop n bytes in let m = ap length e in let short = h.short in omega arith);
        none_begins = none_at_first_fault bytes n h;
      },
    )
