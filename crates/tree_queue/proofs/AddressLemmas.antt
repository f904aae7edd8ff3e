-- Addresses of nodes, from below.
use Rattle.std.proofs.Common.{◌≡◌, ℕ, zero, suc, ◌+◌, ◌<◌, ◌≤◌, [], ◌∷◌, ◌++◌, length, Option, Some, None, refl, sym, ap, subst, ◌∙◌, arith, length-append, slice_get, IsSome, unwrap_or}
use Rattle.std.specs.declared.cmp.Ordering.{Ordering}
use Rattle.std.specs.declared.cmp.Ordering.TheVariants.{Less, Equal, Greater}
use Rattle.std.specs.Ordering.{ordering_then, nat_cmp, MatchOrdering}
use Rattle.std.proofs.lemmas.Cmp.{tied_itself, ranked}
use Rattle.std.proofs.lemmas.List.{same_from_push}
use Rattle.std.proofs.lemmas.Option.{slice_get-get_or}
use Rattle.std.specs.Option.{option_flatten}
use Rattle.tree_runs.specs.Shapes.{TreeShape, nodes_count, above_at, IsShape, IsChild}
use Rattle.tree_runs.specs.Addresses.{Address}
use Rattle.tree_runs.specs.Addresses.{address_from, address_of}
use Rattle.tree_runs.specs.Best.{step_cmp, address_cmp}
use Rattle.tree_queue.proofs.EntryOrder.{address_cmp_total}

then_equal : (o : Ordering) → ordering_then o Equal ≡ o
then_equal Less = refl
then_equal Equal = refl
then_equal Greater = refl

then_groups : (a b c : Ordering) → ordering_then a (ordering_then b c) ≡ ordering_then (ordering_then a b) c
then_groups Less b c = refl
then_groups Equal b c = refl
then_groups Greater b c = refl

pub both_equal : (a b : Ordering) → ordering_then a b ≡ Equal → (a ≡ Equal) × (b ≡ Equal)
both_equal Less b h = cc
both_equal Equal b h = (refl, h)
both_equal Greater b h = cc

then_decided : (a b : Ordering) → (a ≡ Equal → ⊥) → ordering_then a b ≡ a
then_decided Less b n = refl
then_decided Equal b n = absurd (n refl)
then_decided Greater b n = refl

pub Some_inj : {A : Type 0} (x y : A) → Some x ≡ Some y → x ≡ y
Some_inj {A = A} x y h = let pick : Option A → A = λ o. unwrap_or o x in ap pick h

-- what the shape tells of a way up, in the form of its list
way_of : (found : Option (Option (ℕ × ℕ × ℕ))) (way : ℕ × ℕ × ℕ) → option_flatten found ≡ Some way → found ≡ Some (Some way)
way_of None way h = cc
way_of (Some x) way h = ap Some h

pub above_in_list : (shape : TreeShape) (node : ℕ) (way : ℕ × ℕ × ℕ) → above_at shape node ≡ Some way → slice_get shape.above node ≡ Some (Some way)
above_in_list shape node way h = way_of (slice_get shape.above node) way h

-- what is above a node has a smaller number
pub above_is_smaller : (shape : TreeShape) → IsShape shape → (node : ℕ) (way : ℕ × ℕ × ℕ) → above_at shape node ≡ Some way → way.0 < node
above_is_smaller shape s node way h = s.rises way.0 way.1 way.2 node (above_in_list shape node way h)

-- it does not matter how high one may go, once that is high enough
high_enough : (shape : TreeShape) → IsShape shape → (low high node : ℕ) (way : Option (ℕ × ℕ × ℕ)) → above_at shape node ≡ way → node ≤ low → node ≤ high → address_from shape low way ≡ address_from shape high way
high_enough shape s low high node None e a b = refl
high_enough shape s zero high node (Some way) e a b = absurd (let lt = above_is_smaller shape s node way e in omega (arith, lt, a))
high_enough shape s (suc low) zero node (Some way) e a b = absurd (let lt = above_is_smaller shape s node way e in omega (arith, lt, b))
high_enough shape s (suc low) (suc high) node (Some way) e a b =
    let lt = above_is_smaller shape s node way e in
    ap (λ xs. xs ++ (way.1, way.2) ∷ []) (high_enough shape s low high way.0 (above_at shape way.0) refl (omega (arith, lt, a)) (omega (arith, lt, b)))

-- an address is that of the node above, and one step
pub address_below : (shape : TreeShape) → IsShape shape → (node : ℕ) (way : ℕ × ℕ × ℕ) → above_at shape node ≡ Some way → address_of shape node ≡ address_of shape way.0 ++ (way.1, way.2) ∷ []
unfolding address_of
address_below shape s zero way h = absurd (let lt = above_is_smaller shape s 0 way h in omega (arith, lt))
address_below shape s (suc node) way h =
    let lt = above_is_smaller shape s (suc node) way h in
    ap (address_from shape (suc node)) h ∙
    ap (λ xs. xs ++ (way.1, way.2) ∷ []) (high_enough shape s node way.0 way.0 (above_at shape way.0) refl (omega (arith, lt)) (omega arith))

-- nothing is above: the address is empty
pub address_of_root : (shape : TreeShape) (node : ℕ) → above_at shape node ≡ None → address_of shape node ≡ []
unfolding address_of
address_of_root shape node h = ap (address_from shape node) h

-- nothing is above a node that stands: it is the root
root_in_list : (found : Option (Option (ℕ × ℕ × ℕ))) → IsSome found → option_flatten found ≡ None → found ≡ Some None
root_in_list None i h = cc
root_in_list (Some x) i h = ap Some h

pub only_root : (shape : TreeShape) → IsShape shape → (node : ℕ) → node < nodes_count shape → above_at shape node ≡ None → node ≡ 0
only_root shape s zero l h = refl
only_root shape s (suc node) l h = absurd (s.others node (root_in_list (slice_get shape.above (suc node)) (let e = slice_get-get_or shape.above (suc node) None l in rw e refl) h))

-- an address with a step is not the empty one
longer : (xs : Address) (x : ℕ × ℕ) → xs ++ x ∷ [] ≡ [] → ⊥
longer [] x h = cc
longer (y ∷ ys) x h = cc

-- what is the same child of the same node has one number
same_child : (shape : TreeShape) (a b node alternative place : ℕ) → IsChild shape node alternative place a → IsChild shape node alternative place b → a ≡ b
same_child shape a b node alternative place x y =
    let all_same : x.all ≡ y.all = Some_inj _ _ (sym x.grown ∙ y.grown) in
    let pair_same : (x.first, x.count) ≡ (y.first, y.count) = Some_inj _ _ (sym x.there ∙ (ap (λ all. slice_get all alternative) all_same ∙ y.there)) in
    x.number ∙ (ap (λ p. p.0 + place) pair_same ∙ sym y.number)

-- Nodes that differ have addresses that differ.
pub addresses_differ : (shape : TreeShape) → IsShape shape → (high a b : ℕ) → a ≤ high → a < nodes_count shape → b < nodes_count shape → address_of shape a ≡ address_of shape b → a ≡ b
addresses_differ shape s high a b h la lb e = by_ways high a b h la lb e (above_at shape a) (above_at shape b) refl refl
  where
    by_ways : (high a b : ℕ) → a ≤ high → a < nodes_count shape → b < nodes_count shape → address_of shape a ≡ address_of shape b →
        (x y : Option (ℕ × ℕ × ℕ)) → above_at shape a ≡ x → above_at shape b ≡ y → a ≡ b
    by_ways high a b h la lb e None None x y = only_root shape s a la x ∙ sym (only_root shape s b lb y)
    by_ways high a b h la lb e None (Some w) x y = absurd (longer _ _ (sym (address_below shape s b w y) ∙ (sym e ∙ address_of_root shape a x)))
    by_ways high a b h la lb e (Some v) None x y = absurd (longer _ _ (sym (address_below shape s a v x) ∙ (e ∙ address_of_root shape b y)))
    by_ways zero a b h la lb e (Some v) (Some w) x y = absurd (let lt = above_is_smaller shape s a v x in omega (arith, lt, h))
    by_ways (suc high) a b h la lb e (Some v) (Some w) x y =
        let la' = above_is_smaller shape s a v x in
        let lb' = above_is_smaller shape s b w y in
        let both = same_from_push _ _ _ _ (sym (address_below shape s a v x) ∙ (e ∙ address_below shape s b w y)) in
        let up = by_ways high v.0 w.0 (omega (arith, la', h)) (omega (arith, la', la)) (omega (arith, lb', lb)) both.0 (above_at shape v.0) (above_at shape w.0) refl refl in
        let first = s.down v.0 v.1 v.2 a (above_in_list shape a v x) in
        let second = s.down w.0 w.1 w.2 b (above_in_list shape b w y) in
        let steps : (v.1 ≡ w.1) × (v.2 ≡ w.2) = (ap (λ p. p.0) both.1, ap (λ p. p.1) both.1) in
        same_child shape a b v.0 v.1 v.2 first (rw (up, steps.0, steps.1) second)

-- the comparison of two lists of one length that go on by one step
pub cmp_of_pushed : (xs ys : Address) (x y : ℕ × ℕ) → length xs ≡ length ys → address_cmp (xs ++ x ∷ []) (ys ++ y ∷ []) ≡ ordering_then (address_cmp xs ys) (step_cmp x y)
cmp_of_pushed [] [] x y l = then_equal (step_cmp x y)
cmp_of_pushed [] (b ∷ ys) x y l = absurd (omega (arith, l))
cmp_of_pushed (a ∷ xs) [] x y l = absurd (omega (arith, l))
cmp_of_pushed (a ∷ xs) (b ∷ ys) x y l = ap (ordering_then (step_cmp a b)) (cmp_of_pushed xs ys x y (omega (arith, l))) ∙ then_groups (step_cmp a b) (address_cmp xs ys) (step_cmp x y)

-- lists that are alike in the comparison are one
numbers_alike : (a b : ℕ) → nat_cmp a b ≡ Equal → a ≡ b
numbers_alike a b h = subst (λ o. MatchOrdering o (a < b) (a ≡ b) (b < a)) h (ranked a b (nat_cmp a b) refl)

steps_alike : (x y : ℕ × ℕ) → step_cmp x y ≡ Equal → x ≡ y
steps_alike x y h = let both = both_equal (nat_cmp x.0 y.0) (nat_cmp x.1 y.1) h in
    let first = numbers_alike _ _ both.0 in
    let second = numbers_alike _ _ both.1 in ap (λ n. (n, x.1)) first ∙ ap (λ n. (y.0, n)) second

pub addresses_alike : (xs ys : Address) → address_cmp xs ys ≡ Equal → xs ≡ ys
addresses_alike [] [] h = refl
addresses_alike [] (y ∷ ys) h = cc
addresses_alike (x ∷ xs) [] h = cc
addresses_alike (x ∷ xs) (y ∷ ys) h =
    let both = both_equal (step_cmp x y) (address_cmp xs ys) h in
    ap (λ z. z ∷ xs) (steps_alike x y both.0) ∙ ap (λ zs. y ∷ zs) (addresses_alike xs ys both.1)

-- below one node, the steps decide
pub cmp_of_siblings : (xs : Address) (x y : ℕ × ℕ) → address_cmp (xs ++ x ∷ []) (xs ++ y ∷ []) ≡ step_cmp x y
cmp_of_siblings xs x y = cmp_of_pushed xs xs x y refl ∙ ap (λ o. ordering_then o (step_cmp x y)) (tied_itself address_cmp_total xs)

-- below two nodes, those decide
pub cmp_of_cousins : (xs ys : Address) (x y : ℕ × ℕ) → length xs ≡ length ys → (xs ≡ ys → ⊥) → address_cmp (xs ++ x ∷ []) (ys ++ y ∷ []) ≡ address_cmp xs ys
cmp_of_cousins xs ys x y l n = cmp_of_pushed xs ys x y l ∙ then_decided (address_cmp xs ys) (step_cmp x y) (λ e. n (addresses_alike xs ys e))

empty_of : (xs : Address) → length xs ≡ 0 → xs ≡ []
empty_of [] l = refl
empty_of (x ∷ xs) l = absurd (omega (arith, l))

-- nothing is above one of two nodes of one depth: they are alike
pub alike_at_root : (shape : TreeShape) (a b : ℕ) → above_at shape a ≡ None → length (address_of shape a) ≡ length (address_of shape b) → address_cmp (address_of shape a) (address_of shape b) ≡ Equal
alike_at_root shape a b h l =
    let first = address_of_root shape a h in
    let second = empty_of (address_of shape b) (sym l ∙ ap length first) in rw (first, second) refl

pub alike_at_root_back : (shape : TreeShape) (a b : ℕ) → above_at shape b ≡ None → length (address_of shape a) ≡ length (address_of shape b) → address_cmp (address_of shape a) (address_of shape b) ≡ Equal
alike_at_root_back shape a b h l =
    let second = address_of_root shape b h in
    let first = empty_of (address_of shape a) (l ∙ ap length second) in rw (first, second) refl

-- two nodes below one node compare by their steps
pub cmp_below_one : (shape : TreeShape) → IsShape shape → (a b : ℕ) (v w : ℕ × ℕ × ℕ) → above_at shape a ≡ Some v → above_at shape b ≡ Some w → v.0 ≡ w.0 →
    address_cmp (address_of shape a) (address_of shape b) ≡ step_cmp (v.1, v.2) (w.1, w.2)
cmp_below_one shape s a b v w x y e = rw (address_below shape s a v x, address_below shape s b w y, e) (cmp_of_siblings (address_of shape w.0) (v.1, v.2) (w.1, w.2))

-- the nodes above two of one depth have one depth
pub depth_above : (shape : TreeShape) → IsShape shape → (a b : ℕ) (v w : ℕ × ℕ × ℕ) → above_at shape a ≡ Some v → above_at shape b ≡ Some w → length (address_of shape a) ≡ length (address_of shape b) →
    length (address_of shape v.0) ≡ length (address_of shape w.0)
depth_above shape s a b v w x y l =
    let first = ap length (address_below shape s a v x) ∙ length-append (address_of shape v.0) ((v.1, v.2) ∷ []) in
    let second = ap length (address_below shape s b w y) ∙ length-append (address_of shape w.0) ((w.1, w.2) ∷ []) in omega (arith, first, second, l)

-- two nodes below different ones compare as those do
pub cmp_below_two : (shape : TreeShape) → IsShape shape → (a b : ℕ) (v w : ℕ × ℕ × ℕ) → a < nodes_count shape → b < nodes_count shape → above_at shape a ≡ Some v → above_at shape b ≡ Some w →
    length (address_of shape a) ≡ length (address_of shape b) → (v.0 ≡ w.0 → ⊥) → address_cmp (address_of shape a) (address_of shape b) ≡ address_cmp (address_of shape v.0) (address_of shape w.0)
cmp_below_two shape s a b v w la lb x y l n =
    let first = above_is_smaller shape s a v x in
    let second = above_is_smaller shape s b w y in
    rw (address_below shape s a v x, address_below shape s b w y)
    (cmp_of_cousins (address_of shape v.0) (address_of shape w.0) (v.1, v.2) (w.1, w.2) (depth_above shape s a b v w x y l)
    (λ e. n (addresses_differ shape s v.0 v.0 w.0 (omega arith) (omega (arith, first, la)) (omega (arith, second, lb)) e)))
