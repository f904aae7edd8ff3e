-- One more child, and one more alternative.
use Rattle.std.proofs.Common.{◌≡◌, ℕ, zero, suc, ◌+◌, ◌<◌, ◌≤◌, List, [], ◌∷◌, ◌++◌, length, take, replicate, get_or, Option, Some, None, refl, sym, ap, ◌∙◌, arith, append_assoc, append-nil, length-append, add-one}
use Rattle.std.proofs.lemmas.List.{take_more, replicate-append-replicate, length-take-le, length-replicate}
use Rattle.std.specs.Prelude.{sum}
use Rattle.tree_runs.specs.Shapes.{children_above, grown_above, placed, first_child}
use Rattle.tree_runs.proofs.Shapes.{length-grown_above, sum-cons}

pub children_above-more : (node alternative place k : ℕ) →
    children_above node alternative place (suc k) ≡ children_above node alternative place k ++ Some (node, alternative, place + k) ∷ []
children_above-more node alternative place zero = ap (λ (p : ℕ). Some (node, alternative, p) ∷ []) (let e : place ≡ place + 0 = omega arith in e)
children_above-more node alternative place (suc k) =
    ap (λ rest. Some (node, alternative, place) ∷ rest) (children_above-more node alternative (suc place) k
    ∙ ap (λ (p : ℕ). children_above node alternative (suc place) k ++ Some (node, alternative, p) ∷ []) (let e : suc place + k ≡ place + suc k = omega arith in e))

pub replicate-more : {X : Type 0} (k : ℕ) (x : X) → replicate (k + 1) x ≡ replicate k x ++ x ∷ []
replicate-more k x = sym (replicate-append-replicate k 1 x)

nothing : sum [] ≡ 0
nothing = refl

pub sum-more : (counts : List ℕ) (count : ℕ) → sum (counts ++ count ∷ []) ≡ sum counts + count
sum-more [] count = omega (arith, sum-cons count [], nothing)
sum-more (first ∷ counts) count = omega (arith, sum-cons first (counts ++ count ∷ []), sum-cons first counts, sum-more counts count)

pub sum-take : (i : ℕ) (counts : List ℕ) → sum (take i counts) ≤ sum counts
sum-take zero [] = omega arith
sum-take (suc i) [] = omega arith
sum-take zero (count ∷ counts) = omega (arith, nothing)
sum-take (suc i) (count ∷ counts) = omega (arith, sum-cons count counts, sum-cons count (take i counts), sum-take i counts)

pub grown_above-more : (node base : ℕ) (counts : List ℕ) (count : ℕ) →
    grown_above node base (counts ++ count ∷ []) ≡ grown_above node base counts ++ children_above node (base + length counts) 0 count
grown_above-more node base [] count = append-nil (children_above node base 0 count) ∙ ap (λ (b : ℕ). children_above node b 0 count) (let e : base ≡ base + 0 = omega arith in e)
grown_above-more node base (first ∷ counts) count =
    ap (λ rest. children_above node base 0 first ++ rest) (grown_above-more node (suc base) counts count
    ∙ ap (λ (b : ℕ). grown_above node (suc base) counts ++ children_above node b 0 count) (let e : suc base + length counts ≡ base + length (first ∷ counts) = omega arith in e))
    ∙ sym (append_assoc (children_above node base 0 first) (grown_above node (suc base) counts) (children_above node (base + length (first ∷ counts)) 0 count))

pub placed-more : (next : ℕ) (counts : List ℕ) (count : ℕ) →
    placed next (counts ++ count ∷ []) ≡ placed next counts ++ (first_child (next + sum counts) count, count) ∷ []
placed-more next [] count = ap (λ (n : ℕ). (first_child n count, count) ∷ []) (let e : next ≡ next + sum [] = omega (arith, nothing) in e)
placed-more next (first ∷ counts) count =
    ap (λ rest. (first_child next first, first) ∷ rest) (placed-more (next + first) counts count
    ∙ ap (λ (n : ℕ). placed (next + first) counts ++ (first_child n count, count) ∷ []) (let e : next + first + sum counts ≡ next + sum (first ∷ counts) = omega (arith, sum-cons first counts) in e))

pub length-placed : (next : ℕ) (counts : List ℕ) → length (placed next counts) ≡ length counts
length-placed next [] = refl
length-placed next (count ∷ counts) = omega (arith, length-placed (next + count) counts)

-- what stands after the first alternatives, this many
pub record GrownTo (node : ℕ) (counts : List ℕ) (i : ℕ) (above above' : List (Option (ℕ × ℕ × ℕ))) (spans spans' : List (Option (ℕ × ℕ))) (all all' : List (ℕ × ℕ)) : Type 0 where
  pub above_is : above' ≡ above ++ grown_above node 0 (take i counts)
  pub spans_are : spans' ≡ spans ++ replicate (sum (take i counts)) None
  pub all_is : all' ≡ all ++ placed (length above) (take i counts)

-- one more entry at the end
pub one_more : {X : Type 0} (old front after more : List X) (x : X) → front ≡ old ++ more → after ≡ front ++ x ∷ [] → after ≡ old ++ (more ++ x ∷ [])
one_more old front after more x e f = f ∙ ap (λ xs. xs ++ x ∷ []) e ∙ append_assoc old more (x ∷ [])

pub next_child : (old front after : List (Option (ℕ × ℕ × ℕ))) (node alternative k : ℕ) → front ≡ old ++ children_above node alternative 0 k →
    after ≡ front ++ Some (node, alternative, k) ∷ [] → after ≡ old ++ children_above node alternative 0 (k + 1)
next_child old front after node alternative k e f =
    one_more old front after (children_above node alternative 0 k) (Some (node, alternative, k)) e f
    ∙ ap (λ xs. old ++ xs) (ap (λ (p : ℕ). children_above node alternative 0 k ++ Some (node, alternative, p) ∷ []) (let z : k ≡ 0 + k = omega arith in z)
    ∙ sym (children_above-more node alternative 0 k) ∙ ap (children_above node alternative 0) (sym (add-one k)))

pub next_none : {X : Type 0} (old front after : List (Option X)) (k : ℕ) → front ≡ old ++ replicate k None → after ≡ front ++ None ∷ [] → after ≡ old ++ replicate (k + 1) None
next_none old front after k e f = one_more old front after (replicate k None) None e f ∙ ap (λ xs. old ++ xs) (sym (replicate-more k None))

pub appended : {X : Type 0} (old front after one two both : List X) → front ≡ old ++ one → after ≡ front ++ two → one ++ two ≡ both → after ≡ old ++ both
appended old front after one two both e f g = f ∙ ap (λ xs. xs ++ two) e ∙ append_assoc old one two ∙ ap (λ xs. old ++ xs) g

-- what stands after one more alternative
pub next_alternative : (node : ℕ) (counts : List ℕ) (i count : ℕ) (above above' above'' : List (Option (ℕ × ℕ × ℕ))) (spans spans' spans'' : List (Option (ℕ × ℕ))) (all all' all'' : List (ℕ × ℕ)) →
    GrownTo node counts i above above' spans spans' all all' → i < length counts → count ≡ get_or counts i 0 →
    above'' ≡ above' ++ children_above node i 0 count → spans'' ≡ spans' ++ replicate count None → all'' ≡ all' ++ (first_child (length above') count, count) ∷ [] →
    GrownTo node counts (i + 1) above above'' spans spans'' all all''
next_alternative node counts i count above above' above'' spans spans' spans'' all all' all'' h within is a s o =
    let more : take (i + 1) counts ≡ take i counts ++ count ∷ [] = take_more counts i 0 within ∙ ap (λ (n : ℕ). take i counts ++ n ∷ []) (sym is) in
    let size : length (take i counts) ≡ i = length-take-le i counts (omega arith) in
    let place : 0 + length (take i counts) ≡ i = omega arith in
    record {
      above_is = appended above above' above'' _ _ _ h.above_is a
          (ap (λ (b : ℕ). grown_above node 0 (take i counts) ++ children_above node b 0 count) (sym place) ∙ sym (grown_above-more node 0 (take i counts) count) ∙ ap (grown_above node 0) (sym more));
      spans_are = appended spans spans' spans'' _ _ _ h.spans_are s
          (replicate-append-replicate (sum (take i counts)) count None ∙ ap (λ (n : ℕ). replicate n None) (sym (sum-more (take i counts) count) ∙ ap sum (sym more)));
      all_is = appended all all' all'' _ _ _ h.all_is o
          (ap (λ (n : ℕ). placed (length above) (take i counts) ++ (first_child n count, count) ∷ [])
          (ap length h.above_is ∙ length-append above (grown_above node 0 (take i counts)) ∙ ap (λ (n : ℕ). length above + n) (length-grown_above node 0 (take i counts)))
          ∙ sym (placed-more (length above) (take i counts) count) ∙ ap (placed (length above)) (sym more));
    }

pub none_grown : (node : ℕ) (counts : List ℕ) (above : List (Option (ℕ × ℕ × ℕ))) (spans : List (Option (ℕ × ℕ))) (all : List (ℕ × ℕ)) → GrownTo node counts 0 above above spans spans all all
none_grown node counts above spans all = record { above_is = sym (append-nil above); spans_are = sym (append-nil spans); all_is = sym (append-nil all) }

pub sum-step : (counts : List ℕ) (i count : ℕ) → i < length counts → count ≡ get_or counts i 0 → sum (take (i + 1) counts) ≡ sum (take i counts) + count
sum-step counts i count within is =
    ap sum (take_more counts i 0 within ∙ ap (λ (n : ℕ). take i counts ++ n ∷ []) (sym is)) ∙ sum-more (take i counts) count

module _ (node : ℕ) (counts : List ℕ) (i : ℕ) (above above' : List (Option (ℕ × ℕ × ℕ))) (spans spans' : List (Option (ℕ × ℕ))) (all all' : List (ℕ × ℕ))
    (h : GrownTo node counts i above above' spans spans' all all') where
  pub length-above : length above' ≡ length above + sum (take i counts)
  length-above = ap length h.above_is ∙ length-append above (grown_above node 0 (take i counts)) ∙ ap (λ (n : ℕ). length above + n) (length-grown_above node 0 (take i counts))

  pub length-spans : length spans' ≡ length spans + sum (take i counts)
  length-spans = ap length h.spans_are ∙ length-append spans (replicate (sum (take i counts)) None) ∙ ap (λ (n : ℕ). length spans + n) (length-replicate (sum (take i counts)) None)

  pub length-all : i ≤ length counts → length all' ≡ length all + i
  length-all within = ap length h.all_is ∙ length-append all (placed (length above) (take i counts))
      ∙ ap (λ (n : ℕ). length all + n) (length-placed (length above) (take i counts) ∙ length-take-le i counts within)
