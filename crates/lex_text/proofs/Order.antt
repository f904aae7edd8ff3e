-- The tokens of a text stand in it one after another, and each takes some bytes of it.
use Rattle.std.proofs.Common.{◌≡◌, ℕ, ◌+◌, ◌<◌, ◌≤◌, List, [], ◌∷◌, ◌++◌, length, ap, ◌∙◌, subst, arith}
use Rattle.std.proofs.lemmas.Str.{len_utf8_bounds, len_utf8_ascii}
use Rattle.lex_text.specs.declared.mark.Mark.{Mark}
use Rattle.lex_text.specs.declared.token.Token.{Token}
use Rattle.lex_text.specs.Characters.{width, IsSeparator}
use Rattle.lex_text.specs.Tokens.{Forms, Cut, nothing, separator, comment, token, TokensOf}
use Rattle.lex_text.proofs.Forms.{Forms-some}
use Rattle.lex_text.proofs.Places.{width-cons, width-append}

-- The tokens stand from this place up to the end: each starts where the one before ended, or later.
abbrev pub StandInOrder : ℕ → List Token → ℕ → Type 0
StandInOrder from [] end = from ≤ end
StandInOrder from (next ∷ tokens) end = (from ≤ next.start) × (next.start < next.end) × StandInOrder next.end tokens end

pub StandInOrder-from : (from earlier end : ℕ) (tokens : List Token) → earlier ≤ from → StandInOrder from tokens end → StandInOrder earlier tokens end
StandInOrder-from from earlier end [] le h = omega arith
StandInOrder-from from earlier end (next ∷ tokens) le h = (let first = h.0 in omega arith, h.1, h.2)

-- the end of the last token is within the text
pub StandInOrder-le : (from end : ℕ) (tokens : List Token) → StandInOrder from tokens end → from ≤ end
StandInOrder-le from end [] h = h
StandInOrder-le from end (next ∷ tokens) h =
    let rest = StandInOrder-le next.end end tokens h.2 in
    let first = h.0 in
    let some = h.1 in
    omega arith

separator_width : (c : ℕ) (rest : List ℕ) → IsSeparator c → width (c ∷ rest) ≡ 1 + width rest
separator_width c rest s =
    let small : c < 128 = grind arith in
    let one = len_utf8_ascii c small in
    let w = width-cons c rest in
    omega arith

comment_width : (c : ℕ) (inside rest text : List ℕ) → c ≡ 37 → text ≡ inside ++ rest → width (c ∷ text) ≡ 1 + (width inside + width rest)
comment_width c inside rest text e text_is =
    let one = len_utf8_ascii c (omega arith) in
    let w = width-cons c text in
    let both = ap width text_is ∙ width-append inside rest in
    omega arith

some_width : (mark : Mark) (prefix : List ℕ) → Forms mark prefix → 0 < width prefix
some_width mark [] h = absurd (Forms-some mark h)
some_width mark (c ∷ cs) h = let w = width-cons c cs in let bounds = len_utf8_bounds c in omega arith

end_at : (from a b : ℕ) (tokens : List Token) → a ≡ b → StandInOrder from tokens a → StandInOrder from tokens b
end_at from a b tokens e h = subst (StandInOrder from tokens) e h

pub Cut-within : {place : ℕ} {text : List ℕ} {tokens : List Token} → Cut place text tokens → StandInOrder place tokens (place + width text)
Cut-within (nothing place) = omega arith
Cut-within (separator place c rest tokens s cut) =
    let size = separator_width c rest s in
    end_at place (place + 1 + width rest) (place + width (c ∷ rest)) tokens (omega arith)
    (StandInOrder-from (place + 1) place (place + 1 + width rest) tokens (omega arith) (Cut-within cut))
Cut-within (comment place c inside rest text tokens e text_is before cut) =
    let size = comment_width c inside rest text e text_is in
    end_at place (place + 1 + width inside + width rest) (place + width (c ∷ text)) tokens (omega arith)
    (StandInOrder-from (place + 1 + width inside) place (place + 1 + width inside + width rest) tokens (omega arith) (Cut-within cut))
Cut-within (token place prefix rest text next tokens e first short s t cut) =
    let some = some_width next.mark prefix first.forms in
    let size = ap width e ∙ width-append prefix rest in (
      omega arith,
      omega arith,
      end_at next.end (next.end + width rest) (place + width text) tokens (omega arith) (Cut-within cut),
    )

pub TokensOf-within : (bytes : List ℕ) (tokens : List Token) → TokensOf bytes tokens → StandInOrder 0 tokens (length bytes)
TokensOf-within bytes tokens h =
    let size = ap length h.1.encoded in
    end_at 0 (0 + width h.0) (length bytes) tokens (omega arith) (Cut-within h.2)
