-- Marks are known by the local equation, exclude each other, and only grow.
use Rattle.std.proofs.Common.{◌≡◌, ◌⊎◌, inl, inr, ℕ, zero, suc, ◌+◌, ◌<◌, ◌≤◌, Bool, true, false, not, ◌&&◌, ◌||◌, List, [], ◌∷◌, Option, Some, None, refl, sym, ap, subst, ◌∙◌, arith}
use Rattle.std.specs.Option.{option_flatten}
use Rattle.std.specs.Prelude.{slice_get, sum}
use Rattle.std.specs.List.{list_any, list_all}
use Rattle.std.proofs.lemmas.Bool.{and_parts, and_from}
use Rattle.std.proofs.lemmas.Option.{slice_get_past}
use Rattle.tree_runs.specs.Shapes.{TreeShape, nodes_count, above_at, alternatives_at, grow, IsChild, IsShape}
use Rattle.tree_runs.specs.Marks.{all_from, any_from, all_children, some_child, proved_by, stuck_by, proved_within, stuck_within, is_proved, is_stuck, is_decided, entry_at, alternative_decided, is_alternative_decided, relevant_from, relevant_by, is_relevant}
use Rattle.tree_runs.proofs.Lists.{same_or_other}
use Rattle.tree_runs.proofs.Shapes.{alternatives-others, above-old, nodes_count-grow}

-- ---- tests that agree, or of which one follows from the other

pub all_from-agree : (p q : ℕ → Bool) (first count : ℕ) → ((place : ℕ) → place < count → p (first + place) ≡ q (first + place)) → all_from p first count ≡ all_from q first count
all_from-agree p q first zero h = refl
all_from-agree p q first (suc count) h =
    let here : p first ≡ q first = ap p (let e : first ≡ first + 0 = omega arith in e) ∙ h 0 (omega arith) ∙ ap q (let e : first + 0 ≡ first = omega arith in e) in
    let rest = all_from-agree p q (suc first) count (λ place within.
    ap p (let e : suc first + place ≡ first + suc place = omega arith in e) ∙ h (suc place) (omega arith) ∙ ap q (let e : first + suc place ≡ suc first + place = omega arith in e)) in
    cc

pub any_from-agree : (p q : ℕ → Bool) (first count : ℕ) → ((place : ℕ) → place < count → p (first + place) ≡ q (first + place)) → any_from p first count ≡ any_from q first count
any_from-agree p q first zero h = refl
any_from-agree p q first (suc count) h =
    let here : p first ≡ q first = ap p (let e : first ≡ first + 0 = omega arith in e) ∙ h 0 (omega arith) ∙ ap q (let e : first + 0 ≡ first = omega arith in e) in
    let rest = any_from-agree p q (suc first) count (λ place within.
    ap p (let e : suc first + place ≡ first + suc place = omega arith in e) ∙ h (suc place) (omega arith) ∙ ap q (let e : first + suc place ≡ suc first + place = omega arith in e)) in
    cc

list_any-agree : {X : Type 0} (p q : X → Bool) (xs : List X) → ((i : ℕ) (x : X) → slice_get xs i ≡ Some x → p x ≡ q x) → list_any p xs ≡ list_any q xs
list_any-agree p q [] h = refl
list_any-agree p q (x ∷ xs) h = let here = h 0 x refl in let rest = list_any-agree p q xs (λ i y e. h (suc i) y e) in cc

list_all-agree : {X : Type 0} (p q : X → Bool) (xs : List X) → ((i : ℕ) (x : X) → slice_get xs i ≡ Some x → p x ≡ q x) → list_all p xs ≡ list_all q xs
list_all-agree p q [] h = refl
list_all-agree p q (x ∷ xs) h = let here = h 0 x refl in let rest = list_all-agree p q xs (λ i y e. h (suc i) y e) in cc

-- two tests agree on the children of a node
abbrev pub AgreeBelow : TreeShape → (ℕ → Bool) → (ℕ → Bool) → ℕ → Type 0
AgreeBelow shape p q node = (alternative place child : ℕ) → IsChild shape node alternative place child → p child ≡ q child

module _ (shape : TreeShape) (p q : ℕ → Bool) (node : ℕ) (h : AgreeBelow shape p q node) where
  agree_at : (all : List (ℕ × ℕ)) → alternatives_at shape node ≡ Some all → (i : ℕ) (x : ℕ × ℕ) → slice_get all i ≡ Some x → (place : ℕ) → place < x.1 → p (x.0 + place) ≡ q (x.0 + place)
  agree_at all e i x f place within = h i place (x.0 + place) (record { all = all; first = x.0; count = x.1; grown = e; there = f; within = within; number = refl })

  proved_known : (o : Option (List (ℕ × ℕ))) → alternatives_at shape node ≡ o → proved_by p o ≡ proved_by q o
  proved_known None e = refl
  proved_known (Some all) e = list_any-agree (all_children p) (all_children q) all (λ i x f. all_from-agree p q x.0 x.1 (agree_at all e i x f))

  stuck_known : (o : Option (List (ℕ × ℕ))) → alternatives_at shape node ≡ o → stuck_by p o ≡ stuck_by q o
  stuck_known None e = refl
  stuck_known (Some all) e = list_all-agree (some_child p) (some_child q) all (λ i x f. any_from-agree p q x.0 x.1 (agree_at all e i x f))

  pub proved_by-agree : proved_by p (alternatives_at shape node) ≡ proved_by q (alternatives_at shape node)
  proved_by-agree = proved_known (alternatives_at shape node) refl

  pub stuck_by-agree : stuck_by p (alternatives_at shape node) ≡ stuck_by q (alternatives_at shape node)
  stuck_by-agree = stuck_known (alternatives_at shape node) refl

-- ---- marks are known by the local equation

module _ (shape : TreeShape) (is_shape : IsShape shape) where
  pub alternatives-past : (node : ℕ) → nodes_count shape ≤ node → alternatives_at shape node ≡ None
  alternatives-past node h = ap option_flatten (slice_get_past shape.alternatives node (omega (arith, is_shape.sizes)))

  pub child-rises : (node alternative place child : ℕ) → IsChild shape node alternative place child → node < child
  child-rises node alternative place child h = is_shape.rises node alternative place child (is_shape.up node alternative place child h)

  proved_known_within : (proved : ℕ → Bool) → ((node : ℕ) → proved node ≡ proved_by proved (alternatives_at shape node)) → (depth node : ℕ) → nodes_count shape ≤ node + depth → proved node ≡ proved_within shape depth node
  proved_known_within proved local zero node h = local node ∙ ap (proved_by proved) (alternatives-past node (omega arith))
  proved_known_within proved local (suc depth) node h = local node ∙ proved_by-agree shape proved (proved_within shape depth) node
      (λ alternative place child c. proved_known_within proved local depth child (let r = child-rises node alternative place child c in omega (arith, r)))

  stuck_known_within : (stuck : ℕ → Bool) → ((node : ℕ) → stuck node ≡ stuck_by stuck (alternatives_at shape node)) → (depth node : ℕ) → nodes_count shape ≤ node + depth → stuck node ≡ stuck_within shape depth node
  stuck_known_within stuck local zero node h = local node ∙ ap (stuck_by stuck) (alternatives-past node (omega arith))
  stuck_known_within stuck local (suc depth) node h = local node ∙ stuck_by-agree shape stuck (stuck_within shape depth) node
      (λ alternative place child c. stuck_known_within stuck local depth child (let r = child-rises node alternative place child c in omega (arith, r)))

  pub proved-unique : (proved : ℕ → Bool) → ((node : ℕ) → proved node ≡ proved_by proved (alternatives_at shape node)) → (node : ℕ) → proved node ≡ is_proved shape node
  unfolding is_proved
  proved-unique proved local node = proved_known_within proved local (nodes_count shape) node (omega arith)

  pub stuck-unique : (stuck : ℕ → Bool) → ((node : ℕ) → stuck node ≡ stuck_by stuck (alternatives_at shape node)) → (node : ℕ) → stuck node ≡ is_stuck shape node
  unfolding is_stuck
  stuck-unique stuck local node = stuck_known_within stuck local (nodes_count shape) node (omega arith)

  proved_deeper : (depth node : ℕ) → nodes_count shape ≤ node + depth → proved_within shape depth node ≡ proved_within shape (suc depth) node
  proved_deeper zero node h = sym (ap (proved_by (proved_within shape 0)) (alternatives-past node (omega arith)))
  proved_deeper (suc depth) node h = proved_by-agree shape (proved_within shape depth) (proved_within shape (suc depth)) node
      (λ alternative place child c. proved_deeper depth child (let r = child-rises node alternative place child c in omega (arith, r)))

  stuck_deeper : (depth node : ℕ) → nodes_count shape ≤ node + depth → stuck_within shape depth node ≡ stuck_within shape (suc depth) node
  stuck_deeper zero node h = sym (ap (stuck_by (stuck_within shape 0)) (alternatives-past node (omega arith)))
  stuck_deeper (suc depth) node h = stuck_by-agree shape (stuck_within shape depth) (stuck_within shape (suc depth)) node
      (λ alternative place child c. stuck_deeper depth child (let r = child-rises node alternative place child c in omega (arith, r)))

  pub is_proved-local : (node : ℕ) → is_proved shape node ≡ proved_by (is_proved shape) (alternatives_at shape node)
  unfolding is_proved
  is_proved-local node = proved_deeper (nodes_count shape) node (omega arith)

  pub is_stuck-local : (node : ℕ) → is_stuck shape node ≡ stuck_by (is_stuck shape) (alternatives_at shape node)
  unfolding is_stuck
  is_stuck-local node = stuck_deeper (nodes_count shape) node (omega arith)

flat : (o : Option (Option (ℕ × ℕ × ℕ))) (way : ℕ × ℕ × ℕ) → option_flatten o ≡ Some way → o ≡ Some (Some way)
flat None way e = absurd cc
flat (Some o) way e = ap Some e

-- what is above a node has a smaller number
pub above-rises : (shape : TreeShape) → IsShape shape → (node : ℕ) (way : ℕ × ℕ × ℕ) → above_at shape node ≡ Some way → way.0 < node
above-rises shape is_shape node way e = is_shape.rises way.0 way.1 way.2 node (flat (slice_get shape.above node) way e)

module _ (shape : TreeShape) (is_shape : IsShape shape) (relevant : ℕ → Bool) (local : (node : ℕ) → relevant node ≡ relevant_by shape relevant (above_at shape node)) where
  relevant_known : (height node : ℕ) (way : Option (ℕ × ℕ × ℕ)) → above_at shape node ≡ way → node ≤ height → relevant_by shape relevant way ≡ relevant_from shape height way
  relevant_known height node None e h = refl
  relevant_known zero node (Some way) e h = absurd (let r = above-rises shape is_shape node way e in omega (arith, r))
  relevant_known (suc height) node (Some way) e h =
      let r = above-rises shape is_shape node way e in
      ap (λ b. not (is_decided shape way.0) && not (is_alternative_decided shape way.0 way.1) && b)
      (local way.0 ∙ relevant_known height way.0 (above_at shape way.0) refl (omega (arith, r)))

  -- relevance is known by its local equation
  pub relevant-unique : (node : ℕ) → relevant node ≡ is_relevant shape node
  unfolding is_relevant
  relevant-unique node = local node ∙ relevant_known node node (above_at shape node) refl (omega arith)

-- ---- marks exclude each other

or_cases : (a b : Bool) → (a || b) ≡ true → (a ≡ true) ⊎ (b ≡ true)
or_cases true b h = inl refl
or_cases false b h = inr h

both_clash : (p q : ℕ → Bool) → ((n : ℕ) → p n ≡ true → q n ≡ true → ⊥) → (first count : ℕ) → all_from p first count ≡ true → any_from q first count ≡ true → ⊥
both_clash p q h first zero a b = absurd cc
both_clash p q h first (suc count) a b =
    let parts = and_parts (p first) (all_from p (suc first) count) a in
    elim (or_cases (q first) (any_from q (suc first) count) b) [ inl e ↦ h first parts.0 e | inr f ↦ both_clash p q h (suc first) count parts.1 f ]

alternatives_clash : (p q : ℕ → Bool) → ((n : ℕ) → p n ≡ true → q n ≡ true → ⊥) → (all : List (ℕ × ℕ)) → list_any (all_children p) all ≡ true → list_all (some_child q) all ≡ true → ⊥
alternatives_clash p q h [] a b = absurd cc
alternatives_clash p q h (x ∷ all) a b =
    let parts = and_parts (some_child q x) (list_all (some_child q) all) b in
    elim (or_cases (all_children p x) (list_any (all_children p) all) a) [ inl e ↦ both_clash p q h x.0 x.1 e parts.0 | inr f ↦ alternatives_clash p q h all f parts.1 ]

option_clash : (p q : ℕ → Bool) → ((n : ℕ) → p n ≡ true → q n ≡ true → ⊥) → (o : Option (List (ℕ × ℕ))) → proved_by p o ≡ true → stuck_by q o ≡ true → ⊥
option_clash p q h None a b = absurd cc
option_clash p q h (Some all) a b = alternatives_clash p q h all a b

pub within_exclude : (shape : TreeShape) (depth node : ℕ) → proved_within shape depth node ≡ true → stuck_within shape depth node ≡ true → ⊥
within_exclude shape zero node a b = absurd cc
within_exclude shape (suc depth) node a b = option_clash (proved_within shape depth) (stuck_within shape depth) (within_exclude shape depth) (alternatives_at shape node) a b

pub marks_exclude : (shape : TreeShape) (node : ℕ) → is_proved shape node ≡ true → is_stuck shape node ≡ true → ⊥
unfolding is_proved is_stuck
marks_exclude shape node a b = within_exclude shape (nodes_count shape) node a b

-- ---- marks only grow

abbrev pub Weaker : (ℕ → Bool) → (ℕ → Bool) → Type 0
Weaker p q = (n : ℕ) → p n ≡ true → q n ≡ true

or_weaker : (a b c d : Bool) → (a ≡ true → c ≡ true) → (b ≡ true → d ≡ true) → (a || b) ≡ true → (c || d) ≡ true
or_weaker true b c d f g h = let e = f refl in cc
or_weaker false b true d f g h = refl
or_weaker false b false d f g h = g h

and_weaker : (a b c d : Bool) → (a ≡ true → c ≡ true) → (b ≡ true → d ≡ true) → (a && b) ≡ true → (c && d) ≡ true
and_weaker a b c d f g h = let parts = and_parts a b h in and_from c d (f parts.0) (g parts.1)

pub all_from-weaker : (p q : ℕ → Bool) → Weaker p q → (first count : ℕ) → all_from p first count ≡ true → all_from q first count ≡ true
all_from-weaker p q h first zero a = refl
all_from-weaker p q h first (suc count) a = and_weaker (p first) (all_from p (suc first) count) _ _ (h first) (all_from-weaker p q h (suc first) count) a

pub any_from-weaker : (p q : ℕ → Bool) → Weaker p q → (first count : ℕ) → any_from p first count ≡ true → any_from q first count ≡ true
any_from-weaker p q h first zero a = absurd cc
any_from-weaker p q h first (suc count) a = or_weaker (p first) (any_from p (suc first) count) _ _ (h first) (any_from-weaker p q h (suc first) count) a

proved_by-weaker : (p q : ℕ → Bool) → Weaker p q → (o : Option (List (ℕ × ℕ))) → proved_by p o ≡ true → proved_by q o ≡ true
proved_by-weaker p q h None a = a
proved_by-weaker p q h (Some []) a = a
proved_by-weaker p q h (Some (x ∷ all)) a = or_weaker (all_children p x) (list_any (all_children p) all) _ _ (all_from-weaker p q h x.0 x.1) (proved_by-weaker p q h (Some all)) a

stuck_by-weaker : (p q : ℕ → Bool) → Weaker p q → (o : Option (List (ℕ × ℕ))) → stuck_by p o ≡ true → stuck_by q o ≡ true
stuck_by-weaker p q h None a = a
stuck_by-weaker p q h (Some []) a = a
stuck_by-weaker p q h (Some (x ∷ all)) a = and_weaker (some_child p x) (list_all (some_child p) all) _ _ (any_from-weaker p q h x.0 x.1) (stuck_by-weaker p q h (Some all)) a

proved_within-deeper : (shape : TreeShape) (depth more node : ℕ) → proved_within shape depth node ≡ true → proved_within shape (depth + more) node ≡ true
proved_within-deeper shape zero more node a = absurd cc
proved_within-deeper shape (suc depth) more node a = subst (λ (d : ℕ). proved_within shape d node ≡ true) (let e : suc (depth + more) ≡ suc depth + more = omega arith in e)
    (proved_by-weaker (proved_within shape depth) (proved_within shape (depth + more)) (λ n. proved_within-deeper shape depth more n) (alternatives_at shape node) a)

stuck_within-deeper : (shape : TreeShape) (depth more node : ℕ) → stuck_within shape depth node ≡ true → stuck_within shape (depth + more) node ≡ true
stuck_within-deeper shape zero more node a = absurd cc
stuck_within-deeper shape (suc depth) more node a = subst (λ (d : ℕ). stuck_within shape d node ≡ true) (let e : suc (depth + more) ≡ suc depth + more = omega arith in e)
    (stuck_by-weaker (stuck_within shape depth) (stuck_within shape (depth + more)) (λ n. stuck_within-deeper shape depth more n) (alternatives_at shape node) a)

not_weaker : (a b : Bool) → (a ≡ true → b ≡ true) → not b ≡ true → not a ≡ true
not_weaker false b f h = refl
not_weaker true b f h = absurd (let e = f refl in let g : not true ≡ true = ap not (sym e) ∙ h in cc)

module _ (shape : TreeShape) (node : ℕ) (counts : List ℕ) (is_shape : IsShape shape) (stands : node < nodes_count shape) (ungrown : alternatives_at shape node ≡ None) where
  proved_within-grow : (depth n : ℕ) → proved_within shape depth n ≡ true → proved_within (grow shape node counts) depth n ≡ true
  proved_within-grow zero n a = a
  proved_within-grow (suc depth) n a = elim (same_or_other n node) [
    | inl same ↦ absurd (let e : proved_by (proved_within shape depth) None ≡ true = ap (proved_by (proved_within shape depth)) (sym ungrown ∙ ap (alternatives_at shape) (sym same)) ∙ a in cc)
    | inr ne ↦ ap (proved_by (proved_within (grow shape node counts) depth)) (alternatives-others shape node counts is_shape stands ungrown n ne)
        ∙ proved_by-weaker (proved_within shape depth) (proved_within (grow shape node counts) depth) (proved_within-grow depth) (alternatives_at shape n) a
  ]

  stuck_within-grow : (depth n : ℕ) → stuck_within shape depth n ≡ true → stuck_within (grow shape node counts) depth n ≡ true
  stuck_within-grow zero n a = a
  stuck_within-grow (suc depth) n a = elim (same_or_other n node) [
    | inl same ↦ absurd (let e : stuck_by (stuck_within shape depth) None ≡ true = ap (stuck_by (stuck_within shape depth)) (sym ungrown ∙ ap (alternatives_at shape) (sym same)) ∙ a in cc)
    | inr ne ↦ ap (stuck_by (stuck_within (grow shape node counts) depth)) (alternatives-others shape node counts is_shape stands ungrown n ne)
        ∙ stuck_by-weaker (stuck_within shape depth) (stuck_within (grow shape node counts) depth) (stuck_within-grow depth) (alternatives_at shape n) a
  ]

  pub proved-grow : (n : ℕ) → is_proved shape n ≡ true → is_proved (grow shape node counts) n ≡ true
  unfolding is_proved
  proved-grow n a = ap (λ (d : ℕ). proved_within (grow shape node counts) d n) (nodes_count-grow shape node counts)
      ∙ proved_within-deeper (grow shape node counts) (nodes_count shape) (sum counts) n (proved_within-grow (nodes_count shape) n a)

  pub stuck-grow : (n : ℕ) → is_stuck shape n ≡ true → is_stuck (grow shape node counts) n ≡ true
  unfolding is_stuck
  stuck-grow n a = ap (λ (d : ℕ). stuck_within (grow shape node counts) d n) (nodes_count-grow shape node counts)
      ∙ stuck_within-deeper (grow shape node counts) (nodes_count shape) (sum counts) n (stuck_within-grow (nodes_count shape) n a)

  pub decided-grow : (n : ℕ) → is_decided shape n ≡ true → is_decided (grow shape node counts) n ≡ true
  decided-grow n a = or_weaker (is_proved shape n) (is_stuck shape n) _ _ (proved-grow n) (stuck-grow n) a

  entry_decided-grow : (o : Option (ℕ × ℕ)) → alternative_decided shape o ≡ true → alternative_decided (grow shape node counts) o ≡ true
  entry_decided-grow None a = a
  entry_decided-grow (Some x) a = or_weaker (all_children (is_proved shape) x) (some_child (is_stuck shape) x) _ _
      (all_from-weaker (is_proved shape) (is_proved (grow shape node counts)) proved-grow x.0 x.1) (any_from-weaker (is_stuck shape) (is_stuck (grow shape node counts)) stuck-grow x.0 x.1) a

  pub alternative_decided-grow : (n i : ℕ) → is_alternative_decided shape n i ≡ true → is_alternative_decided (grow shape node counts) n i ≡ true
  alternative_decided-grow n i a = elim (same_or_other n node) [
    | inl same ↦ absurd (let e : alternative_decided shape (entry_at None i) ≡ true = ap (λ o. alternative_decided shape (entry_at o i)) (sym ungrown ∙ ap (alternatives_at shape) (sym same)) ∙ a in cc)
    | inr ne ↦ ap (λ o. alternative_decided (grow shape node counts) (entry_at o i)) (alternatives-others shape node counts is_shape stands ungrown n ne)
        ∙ entry_decided-grow (entry_at (alternatives_at shape n) i) a
  ]

  relevant_from-grow : (height : ℕ) (way : Option (ℕ × ℕ × ℕ)) → ((w : ℕ × ℕ × ℕ) → way ≡ Some w → w.0 < nodes_count shape) → relevant_from (grow shape node counts) height way ≡ true → relevant_from shape height way ≡ true
  relevant_from-grow height None low a = refl
  relevant_from-grow zero (Some way) low a = refl
  relevant_from-grow (suc height) (Some way) low a =
      let first = and_parts _ _ a in
      let undecided = and_parts _ _ first.0 in
      let there : above_at (grow shape node counts) way.0 ≡ above_at shape way.0 = ap option_flatten (above-old shape node counts is_shape stands ungrown way.0 (low way refl)) in
      and_from _ _ (and_from _ _ (not_weaker _ _ (decided-grow way.0) undecided.0) (not_weaker _ _ (alternative_decided-grow way.0 way.1) undecided.1))
      (relevant_from-grow height (above_at shape way.0) (λ w e. omega (arith, above-rises shape is_shape way.0 w e, low way refl)) (ap (relevant_from (grow shape node counts) height) (sym there) ∙ first.1))

  -- relevance is never won back
  pub relevant-grow : (n : ℕ) → n < nodes_count shape → is_relevant (grow shape node counts) n ≡ true → is_relevant shape n ≡ true
  unfolding is_relevant
  relevant-grow n within a =
      let there : above_at (grow shape node counts) n ≡ above_at shape n = ap option_flatten (above-old shape node counts is_shape stands ungrown n within) in
      relevant_from-grow n (above_at shape n) (λ w e. omega (arith, above-rises shape is_shape n w e)) (ap (relevant_from (grow shape node counts) n) (sym there) ∙ a)
