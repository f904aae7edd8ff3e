-- What growing does to a shape.
use Rattle.std.proofs.Common.{◌≡◌, ◌≢◌, inl, inr, ℕ, zero, suc, ◌+◌, ◌<◌, List, [], ◌∷◌, length, replicate, Option, Some, None, refl, sym, ap, subst, ◌∙◌, arith, length-append}
use Rattle.std.specs.Option.{option_flatten}
use Rattle.std.proofs.lemmas.List.Sums.{sum_by-cons}
use Rattle.std.specs.Prelude.{sum, slice_get, slice_set}
use Rattle.std.proofs.lemmas.List.{length-replicate, length-set}
use Rattle.std.proofs.lemmas.Option.{slice_get_within, slice_get_past}
use Rattle.tree_runs.specs.Shapes.{TreeShape, root_shape, nodes_count, alternatives_at, placed, children_above, grown_above, grow, IsChild, IsShape}
use Rattle.tree_runs.proofs.Lists.{below_or_past, same_or_other, slice_get-append, slice_get-append_past, slice_get-set_same, slice_get-set_other, slice_get-replicate, same_pairs, same_ways}

pub sum-cons : (x : ℕ) (xs : List ℕ) → sum (x ∷ xs) ≡ x + sum xs
sum-cons x xs = sum_by-cons (λ (n : ℕ). n) x xs

pub length-children_above : (node alternative place left : ℕ) → length (children_above node alternative place left) ≡ left
length-children_above node alternative place zero = refl
length-children_above node alternative place (suc left) = omega (arith, length-children_above node alternative (suc place) left)

pub length-grown_above : (node alternative : ℕ) (counts : List ℕ) → length (grown_above node alternative counts) ≡ sum counts
length-grown_above node alternative [] = refl
length-grown_above node alternative (count ∷ counts) =
    length-append (children_above node alternative 0 count) (grown_above node (suc alternative) counts) ∙
    omega (arith, sum-cons count counts, length-children_above node alternative 0 count, length-grown_above node (suc alternative) counts)

pub child_entry : (node alternative place left k : ℕ) → k < left → slice_get (children_above node alternative place left) k ≡ Some (Some (node, alternative, place + k))
child_entry node alternative place zero k h = absurd (omega arith)
child_entry node alternative place (suc left) zero h = ap (λ (p : ℕ). Some (Some (node, alternative, p))) (let e : place ≡ place + 0 = omega arith in e)
child_entry node alternative place (suc left) (suc k) h =
    child_entry node alternative (suc place) left k (omega arith) ∙ ap (λ (p : ℕ). Some (Some (node, alternative, p))) (let e : suc place + k ≡ place + suc k = omega arith in e)

-- a child of what is being grown, by its place behind the nodes that stand
pub record IsPlaced (node base next : ℕ) (counts : List ℕ) (alternative place first count k : ℕ) : Type 0 where
  pub entry : slice_get (placed next counts) alternative ≡ Some (first, count)
  pub within : place < count
  pub number : first + place ≡ next + k
  pub bound : k < sum counts
  pub there : slice_get (grown_above node base counts) k ≡ Some (Some (node, base + alternative, place))

later_placed : (node base next count : ℕ) (counts : List ℕ) (alternative place first c k : ℕ) →
    IsPlaced node (suc base) (next + count) counts alternative place first c k → IsPlaced node base next (count ∷ counts) (suc alternative) place first c (count + k)
later_placed node base next count counts alternative place first c k h = record {
  entry = h.entry;
  within = h.within;
  number = omega (arith, h.number);
  bound = omega (arith, sum-cons count counts, h.bound);
  there = slice_get-append_past (children_above node base 0 count) (grown_above node (suc base) counts) k (count + k) (omega (arith, length-children_above node base 0 count))
      ∙ h.there ∙ ap (λ (p : ℕ). Some (Some (node, p, place))) (let e : suc base + alternative ≡ base + suc alternative = omega arith in e);
}

first_placed : (node base next count : ℕ) (counts : List ℕ) (k : ℕ) → k < count → IsPlaced node base next (count ∷ counts) 0 k next count k
first_placed node base next zero counts k h = absurd (omega arith)
first_placed node base next (suc count) counts k h = record {
  entry = refl;
  within = h;
  number = refl;
  bound = omega (arith, sum-cons (suc count) counts);
  there = slice_get-append (children_above node base 0 (suc count)) (grown_above node (suc base) counts) k (omega (arith, length-children_above node base 0 (suc count)))
      ∙ child_entry node base 0 (suc count) k h ∙ (let e : base ≡ base + 0 = omega arith in let f : 0 + k ≡ k = omega arith in cc);
}

pub placed_child : (node base next : ℕ) (counts : List ℕ) (alternative place first count : ℕ) →
    slice_get (placed next counts) alternative ≡ Some (first, count) → place < count → (k : ℕ) × IsPlaced node base next counts alternative place first count k
placed_child node base next [] alternative place first count e h = absurd cc
placed_child node base next (zero ∷ counts) zero place first count e h = absurd (let z : 0 ≡ count = (same_pairs _ _ _ _ e).1 in omega (arith, z))
placed_child node base next (suc c ∷ counts) zero place first count e h =
    let fits : suc c ≡ count = (same_pairs _ _ _ _ e).1 in
    let starts : next ≡ first = (same_pairs _ _ _ _ e).0 in (
      place,
      subst (λ (n : ℕ). IsPlaced node base next (suc c ∷ counts) 0 place n count place) starts
          (subst (λ (n : ℕ). IsPlaced node base next (suc c ∷ counts) 0 place next n place) fits (first_placed node base next (suc c) counts place (omega (arith, fits)))),
    )
placed_child node base next (c ∷ counts) (suc alternative) place first count e h =
    let rest = placed_child node (suc base) (next + c) counts alternative place first count e h in
    (c + rest.0, later_placed node base next c counts alternative place first count rest.0 rest.1)

pub record HasPlace (node base next : ℕ) (counts : List ℕ) (k : ℕ) : Type 0 where
  pub alternative : ℕ
  pub place : ℕ
  pub first : ℕ
  pub count : ℕ
  pub is_placed : IsPlaced node base next counts alternative place first count k

pub has_place : (node base next : ℕ) (counts : List ℕ) (k : ℕ) → k < sum counts → HasPlace node base next counts k
has_place node base next [] k h = absurd (let z : sum [] ≡ 0 = refl in omega (arith, z))
has_place node base next (count ∷ counts) k h = elim (below_or_past count k) [
  | inl small ↦ record { alternative = 0; place = k; first = next; count = count; is_placed = first_placed node base next count counts k small }
  | inr p ↦ let rest = has_place node (suc base) (next + count) counts p.0 (omega (arith, sum-cons count counts, p.1)) in
      record {
        alternative = suc rest.alternative;
        place = rest.place;
        first = rest.first;
        count = rest.count;
        is_placed = subst (IsPlaced node base next (count ∷ counts) (suc rest.alternative) rest.place rest.first rest.count) (sym p.1)
            (later_placed node base next count counts rest.alternative rest.place rest.first rest.count p.0 rest.is_placed);
      }
]

placed-childless : (next : ℕ) (counts : List ℕ) (alternative first : ℕ) → slice_get (placed next counts) alternative ≡ Some (first, 0) → first ≡ 0
placed-childless next [] alternative first e = absurd cc
placed-childless next (zero ∷ counts) zero first e = sym (same_pairs _ _ _ _ e).0
placed-childless next (suc c ∷ counts) zero first e = absurd (let z : suc c ≡ 0 = (same_pairs _ _ _ _ e).1 in omega (arith, z))
placed-childless next (c ∷ counts) (suc alternative) first e = placed-childless (next + c) counts alternative first e

flatten-replicate : {X : Type 0} (n i : ℕ) → option_flatten {T = X} (slice_get (replicate n None) i) ≡ None
flatten-replicate {X} n i = elim (below_or_past n i) [
  | inl h ↦ ap option_flatten (slice_get-replicate n i None h)
  | inr p ↦ ap option_flatten (slice_get_past (replicate n None) i (omega (arith, p.1, length-replicate {A = Option X} n None)))
]

pub nodes_count-grow : (shape : TreeShape) (node : ℕ) (counts : List ℕ) → nodes_count (grow shape node counts) ≡ nodes_count shape + sum counts
unfolding grow
nodes_count-grow shape node counts = length-append shape.above (grown_above node 0 counts) ∙ ap (λ (n : ℕ). nodes_count shape + n) (length-grown_above node 0 counts)

module _ (shape : TreeShape) (node : ℕ) (counts : List ℕ) (is_shape : IsShape shape) (stands : node < nodes_count shape) (ungrown : alternatives_at shape node ≡ None) where
  size : length (slice_set shape.alternatives node (Some (placed (nodes_count shape) counts))) ≡ nodes_count shape
  size = length-set shape.alternatives node (Some (placed (nodes_count shape) counts)) ∙ is_shape.sizes

  pub alternatives-grown : alternatives_at (grow shape node counts) node ≡ Some (placed (nodes_count shape) counts)
  unfolding grow
  alternatives-grown = ap option_flatten
      (slice_get-append (slice_set shape.alternatives node (Some (placed (nodes_count shape) counts))) (replicate (sum counts) None) node (omega (arith, size, stands))
      ∙ slice_get-set_same shape.alternatives node (Some (placed (nodes_count shape) counts)) (omega (arith, is_shape.sizes, stands)))

  pub alternatives-others : (other : ℕ) → other ≢ node → alternatives_at (grow shape node counts) other ≡ alternatives_at shape other
  unfolding grow
  alternatives-others other ne = elim (below_or_past (nodes_count shape) other) [
    | inl h ↦ ap option_flatten
        (slice_get-append (slice_set shape.alternatives node (Some (placed (nodes_count shape) counts))) (replicate (sum counts) None) other (omega (arith, size, h))
        ∙ slice_get-set_other shape.alternatives node other (Some (placed (nodes_count shape) counts)) ne)
    | inr p ↦
        ap option_flatten (slice_get-append_past (slice_set shape.alternatives node (Some (placed (nodes_count shape) counts))) (replicate (sum counts) None) p.0 other (omega (arith, size, p.1)))
        ∙ flatten-replicate (sum counts) p.0
        ∙ sym (ap option_flatten (slice_get_past shape.alternatives other (omega (arith, is_shape.sizes, p.1))))
  ]

  pub above-old : (child : ℕ) → child < nodes_count shape → slice_get (grow shape node counts).above child ≡ slice_get shape.above child
  unfolding grow
  above-old child h = slice_get-append shape.above (grown_above node 0 counts) child h

  pub above-new : (k child : ℕ) → child ≡ nodes_count shape + k → slice_get (grow shape node counts).above child ≡ slice_get (grown_above node 0 counts) k
  unfolding grow
  above-new k child e = slice_get-append_past shape.above (grown_above node 0 counts) k child e

  -- a node that stands and its children, when another is grown
  pub child-kept : (parent alternative place child : ℕ) → IsChild shape parent alternative place child → IsChild (grow shape node counts) parent alternative place child
  child-kept parent alternative place child h =
      let ne : parent ≢ node = λ e. let lost : None ≡ Some h.all = sym ungrown ∙ ap (alternatives_at shape) (sym e) ∙ h.grown in cc in
      record { all = h.all; first = h.first; count = h.count; grown = alternatives-others parent ne ∙ h.grown; there = h.there; within = h.within; number = h.number }

  pub record IsNewChild (alternative place child : ℕ) : Type 0 where
    pub first : ℕ
    pub count : ℕ
    pub k : ℕ
    pub is_placed : IsPlaced node 0 (nodes_count shape) counts alternative place first count k
    pub number : child ≡ nodes_count shape + k

  pub new-child : (alternative place child : ℕ) → IsChild (grow shape node counts) node alternative place child → IsNewChild alternative place child
  new-child alternative place child h =
      let same : h.all ≡ placed (nodes_count shape) counts = let e : Some h.all ≡ Some (placed (nodes_count shape) counts) = sym h.grown ∙ alternatives-grown in cc in
      let found = placed_child node 0 (nodes_count shape) counts alternative place h.first h.count (ap (λ all. slice_get all alternative) (sym same) ∙ h.there) h.within in
      record { first = h.first; count = h.count; k = found.0; is_placed = found.1; number = h.number ∙ found.1.number }

  pub old-child : (parent alternative place child : ℕ) → parent ≢ node → IsChild (grow shape node counts) parent alternative place child → IsChild shape parent alternative place child
  old-child parent alternative place child ne h =
      record { all = h.all; first = h.first; count = h.count; grown = sym (alternatives-others parent ne) ∙ h.grown; there = h.there; within = h.within; number = h.number }

  up-grow : (parent alternative place child : ℕ) → IsChild (grow shape node counts) parent alternative place child →
      slice_get (grow shape node counts).above child ≡ Some (Some (parent, alternative, place))
  up-grow parent alternative place child h = elim (same_or_other parent node) [
    | inl e ↦ let new = new-child alternative place child (subst (λ (n : ℕ). IsChild (grow shape node counts) n alternative place child) e h) in
        above-new new.k child new.number ∙ new.is_placed.there ∙ (let z : 0 + alternative ≡ alternative = omega arith in cc)
    | inr ne ↦ let old = is_shape.up parent alternative place child (old-child parent alternative place child ne h) in
        above-old child (slice_get_within shape.above child _ old) ∙ old
  ]

  down-grow : (parent alternative place child : ℕ) → slice_get (grow shape node counts).above child ≡ Some (Some (parent, alternative, place)) →
      IsChild (grow shape node counts) parent alternative place child × (parent < child)
  down-grow parent alternative place child e = elim (below_or_past (nodes_count shape) child) [
    | inl h ↦ let old : slice_get shape.above child ≡ Some (Some (parent, alternative, place)) = sym (above-old child h) ∙ e in
        (child-kept parent alternative place child (is_shape.down parent alternative place child old), is_shape.rises parent alternative place child old)
    | inr p ↦ let bound : p.0 < sum counts = (let b : p.0 < length (grown_above node 0 counts) = slice_get_within (grown_above node 0 counts) p.0 _ (sym (above-new p.0 child p.1) ∙ e) in omega (arith, b, length-grown_above node 0 counts)) in
        let found = has_place node 0 (nodes_count shape) counts p.0 bound in
        let there : Some (Some (node, 0 + found.alternative, found.place)) ≡ Some (Some (parent, alternative, place)) = sym found.is_placed.there ∙ sym (above-new p.0 child p.1) ∙ e in
        let same = same_ways node parent (0 + found.alternative) alternative found.place place there in
        let is_parent : node ≡ parent = same.0 in
        let is_alternative : found.alternative ≡ alternative = omega (arith, same.1) in
        let is_place : found.place ≡ place = same.2 in (
          record {
            all = placed (nodes_count shape) counts;
            first = found.first;
            count = found.count;
            grown = ap (alternatives_at (grow shape node counts)) (sym is_parent) ∙ alternatives-grown;
            there = ap (slice_get (placed (nodes_count shape) counts)) (sym is_alternative) ∙ found.is_placed.entry;
            within = omega (arith, found.is_placed.within, is_place);
            number = omega (arith, p.1, found.is_placed.number, is_place);
          },
          omega (arith, p.1, is_parent, stands),
        )
  ]

  pub IsShape-grow : IsShape (grow shape node counts)
  unfolding grow
  IsShape-grow = record {
    sizes = length-append (slice_set shape.alternatives node (Some (placed (nodes_count shape) counts))) (replicate (sum counts) None)
        ∙ (let e = nodes_count-grow shape node counts in omega (arith, size, length-replicate {A = Option (List (ℕ × ℕ))} (sum counts) None, e));
    up = up-grow;
    down = λ parent alternative place child e. (down-grow parent alternative place child e).0;
    rises = λ parent alternative place child e. (down-grow parent alternative place child e).1;
    root = above-old 0 (omega (arith, stands)) ∙ is_shape.root;
    others = λ child e. elim (below_or_past (nodes_count shape) (suc child)) [
      | inl h ↦ is_shape.others child (sym (above-old (suc child) h) ∙ e)
      | inr p ↦ let seen : slice_get (grown_above node 0 counts) p.0 ≡ Some None = sym (above-new p.0 (suc child) p.1) ∙ e in
          let bound : p.0 < length (grown_above node 0 counts) = slice_get_within (grown_above node 0 counts) p.0 _ seen in
          let found = has_place node 0 (nodes_count shape) counts p.0 (omega (arith, bound, length-grown_above node 0 counts)) in
          let clash : Some (Some (node, 0 + found.alternative, found.place)) ≡ Some None = sym found.is_placed.there ∙ seen in cc
    ];
    childless = λ parent alternative first all g e. elim (same_or_other parent node) [
      | inl same ↦ let is_placed : Some (placed (nodes_count shape) counts) ≡ Some all = sym alternatives-grown ∙ ap (alternatives_at (grow shape node counts)) (sym same) ∙ g in
          let is_all : placed (nodes_count shape) counts ≡ all = cc in
          placed-childless (nodes_count shape) counts alternative first (ap (λ entries. slice_get entries alternative) is_all ∙ e)
      | inr ne ↦ is_shape.childless parent alternative first all (sym (alternatives-others parent ne) ∙ g) e
    ];
  }

root_childless : (node alternative first : ℕ) (all : List (ℕ × ℕ)) → alternatives_at root_shape node ≡ Some all → ⊥
root_childless zero alternative first all e = cc
root_childless (suc node) alternative first all e = cc

root_above : (child : ℕ) (way : ℕ × ℕ × ℕ) → slice_get root_shape.above child ≡ Some (Some way) → ⊥
root_above zero way e = cc
root_above (suc child) way e = cc

root_others : (child : ℕ) → slice_get root_shape.above (suc child) ≡ Some None → ⊥
root_others child e = cc

pub IsShape-root : IsShape root_shape
IsShape-root = record {
  sizes = refl;
  up = λ node alternative place child h. absurd (root_childless node alternative h.first h.all h.grown);
  down = λ node alternative place child e. absurd (root_above child _ e);
  rises = λ node alternative place child e. absurd (root_above child _ e);
  root = refl;
  others = root_others;
  childless = λ node alternative first all g e. absurd (root_childless node alternative first all g);
}
