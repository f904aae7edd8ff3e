-- The hypotheses and the places of a context, one after another.
use Rattle.std.proofs.Common.{◌≡◌, ℕ, zero, suc, ◌+◌, ◌-◌, ◌<◌, List, [], ◌∷◌, ◌++◌, length, get_or, map, drop, sym, ap, ap₂, ◌∙◌, arith, add-one, append_assoc}
use Rattle.std.proofs.lemmas.List.{map-append}
use Rattle.lf_definitions.specs.Renaming.{next_by, rename_type}
use Rattle.lf_terms.specs.declared.ty.Ty.{Ty}
use Rattle.lf_terms.specs.Types.{type_of, types_of}
use Rattle.lf_terms.proofs.TypeLists.{length-types_of}
use Rattle.applications.specs.Candidates.{counting_from, hypotheses_from, hypotheses_of}
use Rattle.build_shared.specs.declared.hypotheses.Hypothesis.{Hypothesis}
use Rattle.build_shared.specs.Seen.{seen_hypothesis}

-- What is found, and what the entries from a place on give, are all hypotheses.
abbrev pub FoundBefore : List Ty → List Hypothesis → ℕ → Type 0
FoundBefore ts found i = map seen_hypothesis found ++ hypotheses_from i (types_of (drop i ts)) ≡ hypotheses_of (types_of ts)

first_here : (ts : List Ty) (i place : ℕ) (t : Ty) → i < length ts → t ≡ get_or ts i t →
    hypotheses_from place (types_of (drop i ts)) ≡ record { place = place; type = rename_type (next_by (length ts - i)) (type_of t) } ∷ hypotheses_from (suc place) (types_of (drop (suc i) ts))
first_here [] i place t within is = absurd (omega arith)
first_here (u ∷ ts) zero place t within is =
    let many : suc (length (types_of ts)) ≡ length (u ∷ ts) - 0 = omega (arith, length-types_of ts) in
    ap₂ (λ n x. record { place = place; type = rename_type (next_by n) (type_of x) } ∷ hypotheses_from (suc place) (types_of ts)) many (sym is)
first_here (u ∷ ts) (suc i) place t within is =
    let many : length ts - i ≡ length (u ∷ ts) - suc i = omega arith in
    first_here ts i place t (omega arith) is
    ∙ ap (λ n. record { place = place; type = rename_type (next_by n) (type_of t) } ∷ hypotheses_from (suc place) (types_of (drop (suc i) ts))) many

pub found_more : (ts : List Ty) (found new : List Hypothesis) (i : ℕ) (t : Ty) (h : Hypothesis) → i < length ts → t ≡ get_or ts i t → new ≡ found ++ h ∷ [] →
    seen_hypothesis h ≡ record { place = i; type = rename_type (next_by (length ts - i)) (type_of t) } → FoundBefore ts found i → FoundBefore ts new (i + 1)
found_more ts found new i t h within is pushed seen before =
    ap₂ (λ hs n. map seen_hypothesis hs ++ hypotheses_from n (types_of (drop n ts))) pushed (add-one i)
    ∙ ap (λ hs. hs ++ hypotheses_from (suc i) (types_of (drop (suc i) ts))) (map-append seen_hypothesis found (h ∷ []))
    ∙ append_assoc (map seen_hypothesis found) (seen_hypothesis h ∷ []) (hypotheses_from (suc i) (types_of (drop (suc i) ts)))
    ∙ ap (λ x. map seen_hypothesis found ++ x ∷ hypotheses_from (suc i) (types_of (drop (suc i) ts))) seen
    ∙ ap (λ hs. map seen_hypothesis found ++ hs) (sym (first_here ts i i t within is))
    ∙ before

pub place_more : (places new : List ℕ) (count i : ℕ) → i < count → new ≡ places ++ i ∷ [] → places ++ counting_from i (count - i) ≡ counting_from 0 count →
    new ++ counting_from (i + 1) (count - (i + 1)) ≡ counting_from 0 count
place_more places new count i within pushed before =
    let more : suc (count - (i + 1)) ≡ count - i = omega arith in
    ap₂ (λ ps n. ps ++ counting_from n (count - (i + 1))) pushed (add-one i)
    ∙ append_assoc places (i ∷ []) (counting_from (suc i) (count - (i + 1)))
    ∙ ap (λ n. places ++ counting_from i n) more
    ∙ before
