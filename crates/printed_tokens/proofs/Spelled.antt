-- Pieces with the characters that spell them are cut into their tokens.
use Rattle.std.proofs.Common.{ℕ, ◌+◌, ◌<◌, List, [], ◌∷◌, ◌++◌, length, inl, refl, sym, ap, ap₂, ◌∙◌, arith}
use Rattle.std.specs.Char.{IsScalar}
use Rattle.std.specs.List.{AllByRecursion}
use Rattle.std.proofs.lemmas.Str.{encodes-append, encode_ascii}
use lib.Utf8.{low_scalar}
use Rattle.lex_text.specs.declared.mark.Mark.{Mark}
use Rattle.lex_text.specs.Characters.{Spells}
use Rattle.lex_text.specs.Tokens.{IsLongest, IsShort, Cut, nothing, separator, token}
use Rattle.lex_text.proofs.Places.{AllByRecursion-append}
use Rattle.printed_tokens.specs.Pieces.{Piece, space, piece, pieces_text, tokens_from}

-- The characters spell the pieces, each of which is as long as a token can be.
pub data Spelled : List Piece → List ℕ → Type 0 where
  spelled_nothing : Spelled [] []
  spelled_space : (pieces : List Piece) (rest : List ℕ) → Spelled pieces rest → Spelled (space ∷ pieces) (32 ∷ rest)
  spelled_piece : (mark : Mark) (text prefix rest : List ℕ) (pieces : List Piece) → Spells prefix text → IsLongest mark prefix rest → IsShort mark prefix →
      Spelled pieces rest → Spelled (piece mark text ∷ pieces) (prefix ++ rest)

pub Cut-Spelled : (place : ℕ) (ps : List Piece) (cs : List ℕ) → Spelled ps cs → Cut place cs (tokens_from place ps)
Cut-Spelled place _ _ spelled_nothing = nothing place
Cut-Spelled place _ _ (spelled_space ps rest h) = separator place 32 rest (tokens_from (place + 1) ps) (inl refl) (Cut-Spelled (place + 1) ps rest h)
Cut-Spelled place _ _ (spelled_piece mark text prefix rest ps spelled longest short h) =
    token place prefix rest (prefix ++ rest) (record { mark = mark; start = place; end = place + length text }) (tokens_from (place + length text) ps) refl longest short refl
    (ap (λ bytes. place + length bytes) (sym spelled.encoded)) (Cut-Spelled (place + length text) ps rest h)

spells_nothing : Spells [] []
spells_nothing = record { scalars = tt; encoded = refl }

spells_space : Spells (32 ∷ []) (32 ∷ [])
spells_space = record { scalars = (low_scalar 32 (omega arith), tt); encoded = ap (λ prefix. prefix ++ []) (encode_ascii 32 (omega arith)) }

spells_both : (cs ds xs ys : List ℕ) → Spells cs xs → Spells ds ys → Spells (cs ++ ds) (xs ++ ys)
spells_both cs ds xs ys first second = record {
  scalars = AllByRecursion-append IsScalar cs ds first.scalars second.scalars;
  encoded = encodes-append cs ds ∙ ap₂ (λ prefix rest. prefix ++ rest) first.encoded second.encoded;
}

pub Spells-Spelled : (ps : List Piece) (cs : List ℕ) → Spelled ps cs → Spells cs (pieces_text ps)
Spells-Spelled _ _ spelled_nothing = spells_nothing
Spells-Spelled _ _ (spelled_space ps rest h) = spells_both (32 ∷ []) rest (32 ∷ []) (pieces_text ps) spells_space (Spells-Spelled ps rest h)
Spells-Spelled _ _ (spelled_piece mark text prefix rest ps spelled longest short h) = spells_both prefix rest text (pieces_text ps) spelled (Spells-Spelled ps rest h)

-- Characters below 128 are their own bytes.
pub Spells-ascii : (cs : List ℕ) → AllByRecursion (λ c. c < 128) cs → Spells cs cs
Spells-ascii [] all = spells_nothing
Spells-ascii (c ∷ cs) all =
    spells_both (c ∷ []) cs (c ∷ []) cs (record { scalars = (low_scalar c (omega (arith, all.0)), tt); encoded = ap (λ prefix. prefix ++ []) (encode_ascii c all.0) }) (Spells-ascii cs all.1)
