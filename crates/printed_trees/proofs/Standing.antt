-- The pieces of a printed text stand in it at their places.
use Rattle.std.proofs.Common.{◌≡◌, ℕ, ◌+◌, ◌-◌, List, [], ◌∷◌, ◌++◌, length, take, drop, refl, sym, ap, ◌∙◌, append_assoc, length-append, arith}
use Rattle.std.specs.Prelude.{slice_range}
use Rattle.std.proofs.lemmas.List.{take_at}
use Rattle.std.proofs.Math.Seq.{drop-append_seam}
use Rattle.elab_terms.specs.Names.{Text}
use Rattle.printed_tokens.specs.Pieces.{Piece, space, piece, pieces_text, tokens_from}

-- the place after pieces
abbrev pub past : ℕ → List Piece → ℕ
past place [] = place
past place (space ∷ ps) = past (place + 1) ps
past place (piece mark text ∷ ps) = past (place + length text) ps

pub tokens_from-append : (place : ℕ) (ps qs : List Piece) → tokens_from place (ps ++ qs) ≡ tokens_from place ps ++ tokens_from (past place ps) qs
tokens_from-append place [] qs = refl
tokens_from-append place (space ∷ ps) qs = tokens_from-append (place + 1) ps qs
tokens_from-append place (piece mark text ∷ ps) qs =
    ap (λ rest. record { mark = mark; start = place; end = place + length text } ∷ rest) (tokens_from-append (place + length text) ps qs)

-- The pieces stand in the text from the place on.
abbrev pub Stand : Text → ℕ → List Piece → Type 0
Stand text place [] = Unit {0}
Stand text place (space ∷ ps) = Stand text (place + 1) ps
Stand text place (piece mark word ∷ ps) = (slice_range text place (place + length word) ≡ word) × Stand text (place + length word) ps

pub Stand-prefix : (text : Text) (place : ℕ) (ps qs : List Piece) → Stand text place (ps ++ qs) → Stand text place ps
Stand-prefix text place [] qs h = tt
Stand-prefix text place (space ∷ ps) qs h = Stand-prefix text (place + 1) ps qs h
Stand-prefix text place (piece mark word ∷ ps) qs h = (h.0, Stand-prefix text (place + length word) ps qs h.1)

pub Stand-rest : (text : Text) (place : ℕ) (ps qs : List Piece) → Stand text place (ps ++ qs) → Stand text (past place ps) qs
Stand-rest text place [] qs h = h
Stand-rest text place (space ∷ ps) qs h = Stand-rest text (place + 1) ps qs h
Stand-rest text place (piece mark word ∷ ps) qs h = Stand-rest text (place + length word) ps qs h.1

-- a part of a text
range_is : (before word after : List ℕ) (place : ℕ) → place ≡ length before → slice_range (before ++ (word ++ after)) place (place + length word) ≡ word
range_is before word after place here =
    let size : length word ≡ place + length word - place = omega arith in
    ap (take (place + length word - place)) (ap (λ n. drop n (before ++ (word ++ after))) here ∙ drop-append_seam before (word ++ after))
    ∙ take_at word after (place + length word - place) size

-- From a place on the pieces stand in the text, where what comes before is known.
stand_from : (text : Text) (before : List ℕ) (place : ℕ) (ps : List Piece) → place ≡ length before → text ≡ before ++ pieces_text ps → Stand text place ps
stand_from text before place [] here bytes = tt
stand_from text before place (space ∷ ps) here bytes =
    stand_from text (before ++ 32 ∷ []) (place + 1) ps (omega (arith, here, length-append before (32 ∷ []))) (bytes ∙ sym (append_assoc before (32 ∷ []) (pieces_text ps)))
stand_from text before place (piece mark word ∷ ps) here bytes = (
  ap (λ all. slice_range all place (place + length word)) bytes ∙ range_is before word (pieces_text ps) place here,
  stand_from text (before ++ word) (place + length word) ps (omega (arith, here, length-append before word)) (bytes ∙ sym (append_assoc before word (pieces_text ps))),
)

-- The text of pieces has them from its beginning on.
pub stands : (text : Text) (ps : List Piece) → text ≡ pieces_text ps → Stand text 0 ps
stands text ps same = stand_from text [] 0 ps refl same
