-- Alternatives that are cut out of one list.
use Rattle.std.proofs.Common.{◌≡◌, ℕ, zero, suc, ◌+◌, ◌<◌, ◌≤◌, List, [], ◌∷◌, ◌++◌, map, length, take, drop, replicate, Option, Some, None, refl, sym, ap, subst, ◌∙◌, arith, inl, inr, length-append, length-drop}
use Rattle.std.specs.Prelude.{sum, slice_get, slice_set}
use Rattle.std.proofs.lemmas.List.{take-append-le, drop-append-le, map-append, map-set, length-replicate, take_all, length-set}
use Rattle.std.proofs.Math.Seq.{drop-append_seam}
use Rattle.std.proofs.lemmas.Option.{slice_get_past}
use Rattle.tree_runs.specs.Shapes.{TreeShape, alternatives_at, placed, grown_above, grow, IsShape}
use Rattle.tree_runs.proofs.Lists.{below_or_past, same_or_other, slice_get-append, slice_get-append_past, slice_get-set_same, slice_get-set_other, slice_get-replicate, same_pairs}
use Rattle.tree_runs.proofs.Shapes.{IsShape-grow, length-grown_above}
use Rattle.tree_shape.specs.Room.{cut, shape_from, IsRepresented}
use Rattle.tree_shape.proofs.Growing.{length-placed}

-- every span stands within this many
abbrev pub IsWithin : List (Option (ℕ × ℕ)) → ℕ → Type 0
IsWithin spans bound = (node start width : ℕ) → slice_get spans node ≡ Some (Some (start, width)) → start + width ≤ bound

cut-append : (all more : List (ℕ × ℕ)) (span : Option (ℕ × ℕ)) → ((start width : ℕ) → span ≡ Some (start, width) → start + width ≤ length all) → cut (all ++ more) span ≡ cut all span
cut-append all more None h = refl
cut-append all more (Some span) h =
    let within : span.0 + span.1 ≤ length all = h span.0 span.1 refl in
    let low : span.0 ≤ length all = omega arith in
    let high : span.1 ≤ length (drop span.0 all) = omega (arith, length-drop span.0 all) in
    ap Some (ap (take span.1) (drop-append-le span.0 all more low) ∙ take-append-le span.1 (drop span.0 all) more high)

cuts-append : (all more : List (ℕ × ℕ)) (spans : List (Option (ℕ × ℕ))) → IsWithin spans (length all) → map (cut (all ++ more)) spans ≡ map (cut all) spans
cuts-append all more [] h = refl
cuts-append all more (span ∷ spans) h =
    let first = cut-append all more span (λ start width e. h 0 start width (ap Some e)) in
    let rest = cuts-append all more spans (λ node start width e. h (suc node) start width e) in
    cc

cut-new : (all : List (ℕ × ℕ)) (next : ℕ) (counts : List ℕ) → cut (all ++ placed next counts) (Some (length all, length counts)) ≡ Some (placed next counts)
cut-new all next counts = ap Some (ap (take (length counts)) (drop-append_seam all (placed next counts)) ∙ take_all (length counts) (placed next counts) (omega (arith, length-placed next counts)))

map-replicate_none : (all : List (ℕ × ℕ)) (n : ℕ) → map (cut all) (replicate n None) ≡ replicate n None
map-replicate_none all zero = refl
map-replicate_none all (suc n) = ap (λ rest. None ∷ rest) (map-replicate_none all n)

-- the vectors after growing show the grown shape
pub shape_from-grow : (above : List (Option (ℕ × ℕ × ℕ))) (spans : List (Option (ℕ × ℕ))) (all : List (ℕ × ℕ)) (node : ℕ) (counts : List ℕ) → IsWithin spans (length all) →
    shape_from (above ++ grown_above node 0 counts) (slice_set spans node (Some (length all, length counts)) ++ replicate (sum counts) None) (all ++ placed (length above) counts)
    ≡ grow (shape_from above spans all) node counts
unfolding grow
shape_from-grow above spans all node counts within =
    let after = all ++ placed (length above) counts in
    ap (λ alternatives. let s : TreeShape = record { above = above ++ grown_above node 0 counts; alternatives = alternatives } in s)
    (map-append (cut after) (slice_set spans node (Some (length all, length counts))) (replicate (sum counts) None)
    ∙ ap (λ xs. xs ++ map (cut after) (replicate (sum counts) None)) (map-set (cut after) spans node (Some (length all, length counts)))
    ∙ ap (λ xs. slice_set xs node (cut after (Some (length all, length counts))) ++ map (cut after) (replicate (sum counts) None)) (cuts-append all (placed (length above) counts) spans within)
    ∙ ap (λ x. slice_set (map (cut all) spans) node x ++ map (cut after) (replicate (sum counts) None)) (cut-new all (length above) counts)
    ∙ ap (λ xs. slice_set (map (cut all) spans) node (Some (placed (length above) counts)) ++ xs) (map-replicate_none after (sum counts)))

IsWithin-grow : (spans : List (Option (ℕ × ℕ))) (all more : List (ℕ × ℕ)) (node width count : ℕ) → IsWithin spans (length all) → length more ≡ width →
    IsWithin (slice_set spans node (Some (length all, width)) ++ replicate count None) (length (all ++ more))
IsWithin-grow spans all more node width count h size other start w e = elim (below_or_past (length (slice_set spans node (Some (length all, width)))) other) [
  | inl small ↦ let there : slice_get {X = Option (ℕ × ℕ)} (slice_set spans node (Some (length all, width))) other ≡ Some (Some (start, w)) = sym (slice_get-append _ _ other small) ∙ e in
      elim (same_or_other other node) [
        | inl same ↦ let inside : other < length spans = omega (arith, small, length-set spans node (Some (length all, width))) in
            let set_there : slice_get {X = Option (ℕ × ℕ)} (slice_set spans other (Some (length all, width))) other ≡ Some (Some (length all, width)) = slice_get-set_same spans other _ inside in
            let moved : slice_get {X = Option (ℕ × ℕ)} (slice_set spans other (Some (length all, width))) other ≡ Some (Some (start, w)) = ap (λ (n : ℕ). slice_get {X = Option (ℕ × ℕ)} (slice_set spans n (Some (length all, width))) other) same ∙ there in
            let twice : ◌≡◌ {A = Option (Option (ℕ × ℕ))} (Some (Some (length all, width))) (Some (Some (start, w))) = sym set_there ∙ moved in
            let pair = same_pairs (length all) start width w (let p : ◌≡◌ {A = Option (ℕ × ℕ)} (Some (length all, width)) (Some (start, w)) = cc in p) in
            omega (arith, pair.0, pair.1, size, length-append all more)
        | inr ne ↦ let old = h other start w (sym (slice_get-set_other spans node other (Some (length all, width)) ne) ∙ there) in omega (arith, old, length-append all more)
      ]
  | inr p ↦ absurd (none_there count p.0 start w (sym (slice_get-append_past (slice_set spans node (Some (length all, width))) (replicate count None) p.0 other p.1) ∙ e))
]
  where
    none_there : (n i start w : ℕ) → slice_get {X = Option (ℕ × ℕ)} (replicate n None) i ≡ Some (Some (start, w)) → ⊥
    none_there n i start w e = elim (below_or_past n i) [
      | inl h ↦ let clash : ◌≡◌ {A = Option (Option (ℕ × ℕ))} (Some None) (Some (Some (start, w))) = sym (slice_get-replicate n i None h) ∙ e in cc
      | inr p ↦ let clash : ◌≡◌ {A = Option (Option (ℕ × ℕ))} None (Some (Some (start, w))) = sym (slice_get_past (replicate n None) i (omega (arith, p.1, length-replicate {A = Option (ℕ × ℕ)} n None))) ∙ e in cc
    ]

pub IsRepresented-grow : (above : List (Option (ℕ × ℕ × ℕ))) (spans : List (Option (ℕ × ℕ))) (all : List (ℕ × ℕ)) (node : ℕ) (counts : List ℕ) →
    IsRepresented above spans all → node < length above → alternatives_at (shape_from above spans all) node ≡ None →
    IsRepresented (above ++ grown_above node 0 counts) (slice_set spans node (Some (length all, length counts)) ++ replicate (sum counts) None) (all ++ placed (length above) counts)
IsRepresented-grow above spans all node counts h stands ungrown = record {
  is_shape = subst IsShape (sym (shape_from-grow above spans all node counts h.within)) (IsShape-grow (shape_from above spans all) node counts h.is_shape stands ungrown);
  within = IsWithin-grow spans all (placed (length above) counts) node (length counts) (sum counts) h.within (length-placed (length above) counts);
}

-- the vectors before and after growing
pub record GrowsVectors (above above' : List (Option (ℕ × ℕ × ℕ))) (spans spans' : List (Option (ℕ × ℕ))) (all all' : List (ℕ × ℕ)) (node : ℕ) (counts : List ℕ) : Type 0 where
  pub shape : shape_from above' spans' all' ≡ grow (shape_from above spans all) node counts
  pub represented : IsRepresented above' spans' all'
  pub above_len : length above' ≡ length above + sum counts
  pub spans_len : length spans' ≡ length spans + sum counts
  pub all_len : length all' ≡ length all + length counts

pub grows_vectors : (above above' : List (Option (ℕ × ℕ × ℕ))) (spans spans' : List (Option (ℕ × ℕ))) (all all' : List (ℕ × ℕ)) (node : ℕ) (counts : List ℕ) (start width : ℕ) →
    IsRepresented above spans all → node < length above → alternatives_at (shape_from above spans all) node ≡ None →
    start ≡ length all → width ≡ length counts →
    above' ≡ above ++ grown_above node 0 counts → spans' ≡ slice_set spans node (Some (start, width)) ++ replicate (sum counts) None → all' ≡ all ++ placed (length above) counts →
    GrowsVectors above above' spans spans' all all' node counts
grows_vectors above above' spans spans' all all' node counts start width h stands ungrown s w a p o =
    let entry : ◌≡◌ {A = Option (ℕ × ℕ)} (Some (start, width)) (Some (length all, length counts)) = ap (λ (n : ℕ). Some (n, width)) s ∙ ap (λ (n : ℕ). Some (length all, n)) w in
    let spans_are : spans' ≡ slice_set spans node (Some (length all, length counts)) ++ replicate (sum counts) None = p ∙ ap (λ x. slice_set spans node x ++ replicate (sum counts) None) entry in
    record {
      shape = ap (λ xs. shape_from xs spans' all') a ∙ ap (λ xs. shape_from (above ++ grown_above node 0 counts) xs all') spans_are
          ∙ ap (λ xs. shape_from (above ++ grown_above node 0 counts) (slice_set spans node (Some (length all, length counts)) ++ replicate (sum counts) None) xs) o
          ∙ shape_from-grow above spans all node counts h.within;
      represented = subst (λ xs. IsRepresented xs spans' all') (sym a) (subst (λ xs. IsRepresented (above ++ grown_above node 0 counts) xs all') (sym spans_are)
          (subst (λ xs. IsRepresented (above ++ grown_above node 0 counts) (slice_set spans node (Some (length all, length counts)) ++ replicate (sum counts) None) xs) (sym o)
          (IsRepresented-grow above spans all node counts h stands ungrown)));
      above_len = ap length a ∙ length-append above (grown_above node 0 counts) ∙ ap (λ (n : ℕ). length above + n) (length-grown_above node 0 counts);
      spans_len = ap length spans_are ∙ length-append (slice_set spans node (Some (length all, length counts))) (replicate (sum counts) None)
          ∙ ap (λ (n : ℕ). n + length (replicate {A = Option (ℕ × ℕ)} (sum counts) None)) (length-set spans node (Some (length all, length counts)))
          ∙ ap (λ (n : ℕ). length spans + n) (length-replicate (sum counts) None);
      all_len = ap length o ∙ length-append all (placed (length above) counts) ∙ ap (λ (n : ℕ). length all + n) (length-placed (length above) counts);
    }
