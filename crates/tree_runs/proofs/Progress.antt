-- Where the root is undecided, some relevant node isn't grown.
use Rattle.std.proofs.Common.{◌≡◌, ◌⊎◌, inl, inr, ℕ, zero, suc, ◌+◌, ◌<◌, ◌≤◌, Bool, true, false, not, ◌&&◌, ◌||◌, List, [], ◌∷◌, Option, Some, None, refl, sym, ap, ◌∙◌, arith}
use Rattle.std.specs.Option.{option_flatten}
use Rattle.std.specs.Prelude.{slice_get}
use Rattle.std.specs.List.{list_any, list_all}
use Rattle.std.proofs.lemmas.Option.{slice_get_within}
use Rattle.tree_runs.specs.Shapes.{TreeShape, nodes_count, above_at, alternatives_at, IsChild, IsShape}
use Rattle.tree_runs.specs.Marks.{all_from, any_from, all_children, some_child, proved_by, stuck_by, is_proved, is_stuck, is_decided, entry_at, alternative_decided, is_alternative_decided, relevant_from, relevant_by, is_relevant}
use Rattle.tree_runs.proofs.Marks.{is_proved-local, is_stuck-local, above-rises}

or_false : (a b : Bool) → (a || b) ≡ false → (a ≡ false) × (b ≡ false)
or_false true b h = absurd cc
or_false false b h = (refl, h)

true_or_false : (b : Bool) → (b ≡ true) ⊎ (b ≡ false)
true_or_false true = inl refl
true_or_false false = inr refl

-- ---- relevance satisfies its local equation

enough_height : (shape : TreeShape) → IsShape shape → (low high node : ℕ) (way : Option (ℕ × ℕ × ℕ)) → above_at shape node ≡ way → node ≤ low → node ≤ high → relevant_from shape low way ≡ relevant_from shape high way
enough_height shape is_shape low high node None e a b = refl
enough_height shape is_shape zero high node (Some way) e a b = absurd (let r = above-rises shape is_shape node way e in omega (arith, r))
enough_height shape is_shape (suc low) zero node (Some way) e a b = absurd (let r = above-rises shape is_shape node way e in omega (arith, r))
enough_height shape is_shape (suc low) (suc high) node (Some way) e a b =
    let r = above-rises shape is_shape node way e in
    ap (λ x. not (is_decided shape way.0) && not (is_alternative_decided shape way.0 way.1) && x) (enough_height shape is_shape low high way.0 (above_at shape way.0) refl (omega (arith, r)) (omega (arith, r)))

relevant_once : (shape : TreeShape) → IsShape shape → (node : ℕ) (way : Option (ℕ × ℕ × ℕ)) → above_at shape node ≡ way → relevant_from shape node way ≡ relevant_by shape (is_relevant shape) way
unfolding is_relevant
relevant_once shape is_shape node None e = refl
relevant_once shape is_shape zero (Some way) e = absurd (let r = above-rises shape is_shape zero way e in omega (arith, r))
relevant_once shape is_shape (suc node) (Some way) e =
    let r = above-rises shape is_shape (suc node) way e in
    ap (λ x. not (is_decided shape way.0) && not (is_alternative_decided shape way.0 way.1) && x) (enough_height shape is_shape node way.0 way.0 (above_at shape way.0) refl (omega (arith, r)) (omega arith))

pub is_relevant-local : (shape : TreeShape) → IsShape shape → (node : ℕ) → is_relevant shape node ≡ relevant_by shape (is_relevant shape) (above_at shape node)
unfolding is_relevant
is_relevant-local shape is_shape node = relevant_once shape is_shape node (above_at shape node) refl

pub root_relevant : (shape : TreeShape) → IsShape shape → is_relevant shape 0 ≡ true
root_relevant shape is_shape = is_relevant-local shape is_shape 0 ∙ ap (relevant_by shape (is_relevant shape)) (ap option_flatten is_shape.root)

-- ---- what fails somewhere

-- one of these numbers fails the test
record FailsAt (test : ℕ → Bool) (first count : ℕ) : Type 0 where
  place : ℕ
  within : place < count
  fails : test (first + place) ≡ false

some_fails : (test : ℕ → Bool) (first count : ℕ) → all_from test first count ≡ false → FailsAt test first count
some_fails test first zero h = absurd cc
some_fails test first (suc count) h = elim (true_or_false (test first)) [
  | inl passes ↦ let rest = some_fails test (suc first) count (ap (λ b. b && all_from test (suc first) count) (sym passes) ∙ h) in
      record { place = suc rest.place; within = omega (arith, rest.within); fails = ap test (let e : first + suc rest.place ≡ suc first + rest.place = omega arith in e) ∙ rest.fails }
  | inr fails ↦ record { place = 0; within = omega arith; fails = ap test (let e : first + 0 ≡ first = omega arith in e) ∙ fails }
]

none_passes : (test : ℕ → Bool) (first count place : ℕ) → any_from test first count ≡ false → place < count → test (first + place) ≡ false
none_passes test first zero place h within = absurd (omega arith)
none_passes test first (suc count) zero h within = ap test (let e : first + 0 ≡ first = omega arith in e) ∙ (or_false (test first) (any_from test (suc first) count) h).0
none_passes test first (suc count) (suc place) h within =
    ap test (let e : first + suc place ≡ suc first + place = omega arith in e) ∙ none_passes test (suc first) count place (or_false (test first) (any_from test (suc first) count) h).1 (omega arith)

-- an alternative with no stuck child, of a node that isn't proved
record IsUndecided (shape : TreeShape) (all : List (ℕ × ℕ)) : Type 0 where
  alternative : ℕ
  entry : ℕ × ℕ
  there : slice_get all alternative ≡ Some entry
  unproved : all_children (is_proved shape) entry ≡ false
  unstuck : some_child (is_stuck shape) entry ≡ false

find_undecided : (shape : TreeShape) (all : List (ℕ × ℕ)) → list_any (all_children (is_proved shape)) all ≡ false → list_all (some_child (is_stuck shape)) all ≡ false → IsUndecided shape all
find_undecided shape [] a b = absurd cc
find_undecided shape (entry ∷ all) a b =
    let parts = or_false (all_children (is_proved shape) entry) (list_any (all_children (is_proved shape)) all) a in
    elim (true_or_false (some_child (is_stuck shape) entry)) [
      | inl passes ↦ let rest = find_undecided shape all parts.1 (ap (λ x. x && list_all (some_child (is_stuck shape)) all) (sym passes) ∙ b) in
          record { alternative = suc rest.alternative; entry = rest.entry; there = rest.there; unproved = rest.unproved; unstuck = rest.unstuck }
      | inr fails ↦ record { alternative = 0; entry = entry; there = refl; unproved = parts.0; unstuck = fails }
    ]

-- a relevant node that stands and isn't grown
pub record HasOpenNode (shape : TreeShape) : Type 0 where
  pub node : ℕ
  pub stands : node < nodes_count shape
  pub ungrown : alternatives_at shape node ≡ None
  pub relevant : is_relevant shape node ≡ true

-- an undecided relevant child
record HasLower (shape : TreeShape) (node : ℕ) : Type 0 where
  child : ℕ
  rises : node < child
  stands : child < nodes_count shape
  undecided : is_decided shape child ≡ false
  relevant : is_relevant shape child ≡ true

module _ (shape : TreeShape) (is_shape : IsShape shape) where
  down : (node : ℕ) (o : Option (List (ℕ × ℕ))) → alternatives_at shape node ≡ o → node < nodes_count shape → is_decided shape node ≡ false → is_relevant shape node ≡ true → HasOpenNode shape ⊎ HasLower shape node
  down node None e stands undecided relevant = inl (record { node = node; stands = stands; ungrown = e; relevant = relevant })
  down node (Some all) e stands undecided relevant =
      let marks = or_false (is_proved shape node) (is_stuck shape node) undecided in
      let unproved : list_any (all_children (is_proved shape)) all ≡ false = sym (is_proved-local shape is_shape node ∙ ap (proved_by (is_proved shape)) e) ∙ marks.0 in
      let unstuck : list_all (some_child (is_stuck shape)) all ≡ false = sym (is_stuck-local shape is_shape node ∙ ap (stuck_by (is_stuck shape)) e) ∙ marks.1 in
      let found = find_undecided shape all unproved unstuck in
      let failing = some_fails (is_proved shape) found.entry.0 found.entry.1 found.unproved in
      let child : ℕ = found.entry.0 + failing.place in
      let is_child : IsChild shape node found.alternative failing.place child = record { all = all; first = found.entry.0; count = found.entry.1; grown = e; there = found.there; within = failing.within; number = refl } in
      let up = is_shape.up node found.alternative failing.place child is_child in
      let child_unstuck = none_passes (is_stuck shape) found.entry.0 found.entry.1 failing.place found.unstuck failing.within in
      let way : above_at shape child ≡ Some (node, found.alternative, failing.place) = ap option_flatten up in
      let open_way : is_alternative_decided shape node found.alternative ≡ false =
      ap (λ o. alternative_decided shape (entry_at o found.alternative)) e ∙ ap (alternative_decided shape) found.there ∙ ap (λ b. b || some_child (is_stuck shape) found.entry) found.unproved ∙ found.unstuck in
      inr (record {
        child = child;
        rises = is_shape.rises node found.alternative failing.place child up;
        stands = slice_get_within shape.above child _ up;
        undecided = ap (λ b. b || is_stuck shape child) failing.fails ∙ child_unstuck;
        relevant = is_relevant-local shape is_shape child ∙ ap (relevant_by shape (is_relevant shape)) way ∙ ap (λ b. not b && not (is_alternative_decided shape node found.alternative) && is_relevant shape node) undecided
            ∙ ap (λ b. not b && is_relevant shape node) open_way ∙ relevant;
      })

  walk : (depth node : ℕ) → nodes_count shape ≤ node + depth → node < nodes_count shape → is_decided shape node ≡ false → is_relevant shape node ≡ true → HasOpenNode shape
  walk zero node deep stands undecided relevant = absurd (omega arith)
  walk (suc depth) node deep stands undecided relevant = elim (down node (alternatives_at shape node) refl stands undecided relevant) [
    | inl found ↦ found
    | inr lower ↦ walk depth lower.child (omega (arith, lower.rises, deep)) lower.stands lower.undecided lower.relevant
  ]

  -- where the root is undecided, some relevant node stands that isn't grown
  pub progress : is_decided shape 0 ≡ false → HasOpenNode shape
  progress undecided = walk (nodes_count shape) 0 (omega arith) (slice_get_within shape.above 0 _ is_shape.root) undecided (root_relevant shape is_shape)
