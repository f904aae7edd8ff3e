-- Children and alternatives that are read one by one.
use Rattle.std.proofs.Common.{◌≡◌, ℕ, zero, suc, ◌+◌, ◌<◌, ◌≤◌, Bool, true, false, ◌&&◌, ◌||◌, List, [], ◌∷◌, length, Option, Some, None, refl, sym, ap, ◌∙◌, arith, add-one}
use Rattle.std.specs.Prelude.{slice_get}
use Rattle.std.specs.Option.{option_map}
use Rattle.std.specs.List.{list_any, list_all}
use Rattle.std.proofs.lemmas.Option.{slice_get_within}
use Rattle.tree_runs.specs.Shapes.{TreeShape, nodes_count, alternatives_at, IsShape}
use Rattle.tree_runs.specs.Marks.{all_from, any_from, all_children, some_child, proved_by, stuck_by, entry_at}
use Rattle.tree_marks.specs.TreeMarks.{EachEntry}

pub all_from-more : (test : ℕ → Bool) (first count : ℕ) → all_from test first (suc count) ≡ (all_from test first count && test (first + count))
all_from-more test first zero = let e : test (first + 0) ≡ test first = ap test (omega arith) in grind (arith, e)
all_from-more test first (suc count) =
    let rest = all_from-more test (suc first) count in
    let e : test (suc first + count) ≡ test (first + suc count) = ap test (omega arith) in
    grind (arith, rest, e)

pub any_from-more : (test : ℕ → Bool) (first count : ℕ) → any_from test first (suc count) ≡ (any_from test first count || test (first + count))
any_from-more test first zero = let e : test (first + 0) ≡ test first = ap test (omega arith) in grind (arith, e)
any_from-more test first (suc count) =
    let rest = any_from-more test (suc first) count in
    let e : test (suc first + count) ≡ test (first + suc count) = ap test (omega arith) in
    grind (arith, rest, e)

-- one that fails on the way makes the whole fail, and so on
pub all_from-fails : (test : ℕ → Bool) (first count place : ℕ) → place < count → test (first + place) ≡ false → all_from test first count ≡ false
all_from-fails test first zero place h e = absurd (omega arith)
all_from-fails test first (suc count) zero h e =
    let here : test first ≡ false = ap test (let z : first ≡ first + 0 = omega arith in z) ∙ e in ap (λ b. b && all_from test (suc first) count) here
all_from-fails test first (suc count) (suc place) h e =
    let rest = all_from-fails test (suc first) count place (omega arith) (ap test (let z : suc first + place ≡ first + suc place = omega arith in z) ∙ e) in
    ap (λ b. test first && b) rest ∙ and_false (test first)
  where
    and_false : (b : Bool) → (b && false) ≡ false
    and_false true = refl
    and_false false = refl

pub any_from-holds : (test : ℕ → Bool) (first count place : ℕ) → place < count → test (first + place) ≡ true → any_from test first count ≡ true
any_from-holds test first zero place h e = absurd (omega arith)
any_from-holds test first (suc count) zero h e =
    let here : test first ≡ true = ap test (let z : first ≡ first + 0 = omega arith in z) ∙ e in ap (λ b. b || any_from test (suc first) count) here
any_from-holds test first (suc count) (suc place) h e =
    let rest = any_from-holds test (suc first) count place (omega arith) (ap test (let z : suc first + place ≡ first + suc place = omega arith in z) ∙ e) in
    ap (λ b. test first || b) rest ∙ or_true (test first)
  where
    or_true : (b : Bool) → (b || true) ≡ true
    or_true true = refl
    or_true false = refl

pub list_any-at : {X : Type 0} (test : X → Bool) (xs : List X) (i : ℕ) (x : X) → slice_get xs i ≡ Some x → test x ≡ true → list_any test xs ≡ true
list_any-at test [] i x e h = absurd cc
list_any-at test (y ∷ xs) zero x e h = let same : y ≡ x = cc in ap (λ b. b || list_any test xs) (ap test same ∙ h)
list_any-at test (y ∷ xs) (suc i) x e h = let rest = list_any-at test xs i x e h in ap (λ b. test y || b) rest ∙ or_true (test y)
  where
    or_true : (b : Bool) → (b || true) ≡ true
    or_true true = refl
    or_true false = refl

pub list_any-none : {X : Type 0} (test : X → Bool) (xs : List X) → ((i : ℕ) (x : X) → slice_get xs i ≡ Some x → test x ≡ false) → list_any test xs ≡ false
list_any-none test [] h = refl
list_any-none test (y ∷ xs) h = let here = h 0 y refl in let rest = list_any-none test xs (λ i x e. h (suc i) x e) in cc

pub list_all-at : {X : Type 0} (test : X → Bool) (xs : List X) (i : ℕ) (x : X) → slice_get xs i ≡ Some x → test x ≡ false → list_all test xs ≡ false
list_all-at test [] i x e h = absurd cc
list_all-at test (y ∷ xs) zero x e h = let same : y ≡ x = cc in ap (λ b. b && list_all test xs) (ap test same ∙ h)
list_all-at test (y ∷ xs) (suc i) x e h = let rest = list_all-at test xs i x e h in ap (λ b. test y && b) rest ∙ and_false (test y)
  where
    and_false : (b : Bool) → (b && false) ≡ false
    and_false true = refl
    and_false false = refl

pub list_all-each : {X : Type 0} (test : X → Bool) (xs : List X) → ((i : ℕ) (x : X) → slice_get xs i ≡ Some x → test x ≡ true) → list_all test xs ≡ true
list_all-each test [] h = refl
list_all-each test (y ∷ xs) h = let here = h 0 y refl in let rest = list_all-each test xs (λ i x e. h (suc i) x e) in cc

-- ---- the alternatives of a node that has this many

width_known : (o : Option (List (ℕ × ℕ))) (width : ℕ) → Some width ≡ option_map length o → (all : List (ℕ × ℕ)) × (o ≡ Some all) × (length all ≡ width)
width_known None width e = absurd cc
width_known (Some all) width e = (all, refl, let same : width ≡ length all = cc in sym same)

pub record HasWidth (shape : TreeShape) (node width : ℕ) : Type 0 where
  pub all : List (ℕ × ℕ)
  pub grown : alternatives_at shape node ≡ Some all
  pub size : length all ≡ width

pub has_width : (shape : TreeShape) (node width : ℕ) → Some width ≡ option_map length (alternatives_at shape node) → HasWidth shape node width
has_width shape node width e = let known = width_known (alternatives_at shape node) width e in record { all = known.0; grown = known.1; size = known.2 }

no_width : (o : Option (List (ℕ × ℕ))) → None ≡ option_map length o → o ≡ None
no_width None e = refl
no_width (Some all) e = absurd cc

pub not_grown : (shape : TreeShape) (node : ℕ) → None ≡ option_map length (alternatives_at shape node) → alternatives_at shape node ≡ None
not_grown shape node e = no_width (alternatives_at shape node) e

-- an alternative's children stand
pub children_stand : (shape : TreeShape) → IsShape shape → (node alternative first count : ℕ) → entry_at (alternatives_at shape node) alternative ≡ Some (first, count) → first + count ≤ nodes_count shape
children_stand shape is_shape node alternative first count e = known (alternatives_at shape node) refl e
  where
    last : (all : List (ℕ × ℕ)) (c : ℕ) → alternatives_at shape node ≡ Some all → slice_get all alternative ≡ Some (first, c) → first + c ≤ nodes_count shape
    last all zero g f = let z : first ≡ 0 = is_shape.childless node alternative first all g f in omega (arith, z)
    last all (suc c) g f =
        let up = is_shape.up node alternative c (first + c) (record { all = all; first = first; count = suc c; grown = g; there = f; within = omega arith; number = refl }) in
        let stands = slice_get_within shape.above (first + c) _ up in
        omega (arith, stands)

    known : (o : Option (List (ℕ × ℕ))) → alternatives_at shape node ≡ o → entry_at o alternative ≡ Some (first, count) → first + count ≤ nodes_count shape
    known None g f = absurd cc
    known (Some all) g f = last all count g f

-- the entries of a node, one by one
pub entry_known : (shape : TreeShape) (node : ℕ) (all : List (ℕ × ℕ)) (alternative : ℕ) → alternatives_at shape node ≡ Some all → entry_at (alternatives_at shape node) alternative ≡ slice_get all alternative
entry_known shape node all alternative g = ap (λ o. entry_at o alternative) g

pub proved_found : (shape : TreeShape) (node alternative : ℕ) (entry : ℕ × ℕ) (proved : ℕ → Bool) → entry_at (alternatives_at shape node) alternative ≡ Some entry →
    all_children proved entry ≡ true → proved_by proved (alternatives_at shape node) ≡ true
proved_found shape node alternative entry proved e h = known (alternatives_at shape node) e
  where
    known : (o : Option (List (ℕ × ℕ))) → entry_at o alternative ≡ Some entry → proved_by proved o ≡ true
    known None f = absurd cc
    known (Some all) f = list_any-at (all_children proved) all alternative entry f h

pub stuck_refuted : (shape : TreeShape) (node alternative : ℕ) (entry : ℕ × ℕ) (stuck : ℕ → Bool) → entry_at (alternatives_at shape node) alternative ≡ Some entry →
    some_child stuck entry ≡ false → stuck_by stuck (alternatives_at shape node) ≡ false
stuck_refuted shape node alternative entry stuck e h = known (alternatives_at shape node) e
  where
    known : (o : Option (List (ℕ × ℕ))) → entry_at o alternative ≡ Some entry → stuck_by stuck o ≡ false
    known None f = absurd cc
    known (Some all) f = list_all-at (some_child stuck) all alternative entry f h

pub proved_refuted : (shape : TreeShape) (node width : ℕ) (proved : ℕ → Bool) → Some width ≡ option_map length (alternatives_at shape node) → EachEntry shape node width (all_children proved) false →
    proved_by proved (alternatives_at shape node) ≡ false
proved_refuted shape node width proved e h =
    let known = has_width shape node width e in
    ap (proved_by proved) known.grown ∙ list_any-none (all_children proved) known.all
    (λ i x f. h i x (let s = slice_get_within known.all i x f in omega (arith, s, known.size)) (entry_known shape node known.all i known.grown ∙ f))

pub stuck_found : (shape : TreeShape) (node width : ℕ) (stuck : ℕ → Bool) → Some width ≡ option_map length (alternatives_at shape node) → EachEntry shape node width (some_child stuck) true →
    stuck_by stuck (alternatives_at shape node) ≡ true
stuck_found shape node width stuck e h =
    let known = has_width shape node width e in
    ap (stuck_by stuck) known.grown ∙ list_all-each (some_child stuck) known.all
    (λ i x f. h i x (let s = slice_get_within known.all i x f in omega (arith, s, known.size)) (entry_known shape node known.all i known.grown ∙ f))

-- one more child that passes, or fails
pub all_from-next : (test : ℕ → Bool) (first count : ℕ) → all_from test first count ≡ true → test (first + count) ≡ true → all_from test first (count + 1) ≡ true
all_from-next test first count a b = ap (all_from test first) (add-one count) ∙ all_from-more test first count ∙ ap (λ x. x && test (first + count)) a ∙ b

pub any_from-next : (test : ℕ → Bool) (first count : ℕ) → any_from test first count ≡ false → test (first + count) ≡ false → any_from test first (count + 1) ≡ false
any_from-next test first count a b = ap (any_from test first) (add-one count) ∙ any_from-more test first count ∙ ap (λ x. x || test (first + count)) a ∙ b
