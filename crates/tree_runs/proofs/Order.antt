-- The order of nodes is total, different nodes have different addresses, and the best node is one.
use Rattle.std.proofs.Common.{◌≡◌, ◌⊎◌, inl, inr, ℕ, zero, suc, ◌<◌, List, [], ◌∷◌, ◌++◌, length, get_or, Option, Some, None, refl, sym, ap, subst, ◌∙◌, arith}
use Rattle.std.specs.Option.{option_flatten}
use Rattle.std.specs.Prelude.{slice_get}
use Rattle.std.specs.declared.cmp.Ordering.{Ordering}
use Rattle.std.specs.declared.cmp.Ordering.TheVariants.{Less, Equal, Greater}
use Rattle.std.specs.Ordering.{nat_cmp, ordering_then, ordering_reverse, MatchOrdering}
use Rattle.std.specs.Cmp.{IsTotalOrder}
use Rattle.std.proofs.lemmas.Cmp.{nat_cmp_total, on_total, then_total, back_total, lists_total, ranked}
use Rattle.std.proofs.lemmas.List.{same_from_push}
use Rattle.std.proofs.lemmas.Option.{slice_get-get_or}
use Rattle.tree_runs.specs.Shapes.{TreeShape, nodes_count, IsChild, IsShape}
use Rattle.tree_runs.specs.Addresses.{Address, address_of}
use Rattle.tree_runs.specs.States.{TreeNode, TreeState}
use Rattle.tree_runs.specs.Best.{step_cmp, address_cmp, rank_cmp, IsBetter, Best}
use Rattle.tree_runs.proofs.Lists.{same_pairs}
use Rattle.tree_runs.proofs.Marks.{above-rises}
use Rattle.tree_runs.proofs.Addresses.{address_of-step, address_of-root}

step_cmp_total : IsTotalOrder step_cmp
step_cmp_total = then_total (on_total (λ step. step.0) nat_cmp_total) (on_total (λ step. step.1) nat_cmp_total)

pub rank_cmp_total : {S : Type 0} → IsTotalOrder (rank_cmp {S = S})
rank_cmp_total =
    then_total (on_total (λ node. node.priority) (back_total nat_cmp_total))
    (then_total (on_total (λ node. length node.address) nat_cmp_total) (on_total (λ node. node.address) (lists_total step_cmp_total)))

-- ---- what is tied is the same

then_tied : (a b : Ordering) → ordering_then a b ≡ Equal → (a ≡ Equal) × (b ≡ Equal)
then_tied Less b e = absurd cc
then_tied Equal b e = (refl, e)
then_tied Greater b e = absurd cc

nat_tied : (x y : ℕ) → nat_cmp x y ≡ Equal → x ≡ y
nat_tied x y e = subst (λ r. MatchOrdering r (x < y) (x ≡ y) (y < x)) e (ranked x y (nat_cmp x y) refl)

step_tied : (a b : ℕ × ℕ) → step_cmp a b ≡ Equal → a ≡ b
step_tied a b e =
    let parts = then_tied (nat_cmp a.0 b.0) (nat_cmp a.1 b.1) e in
    let first = nat_tied a.0 b.0 parts.0 in
    let second = nat_tied a.1 b.1 parts.1 in
    ap (λ (n : ℕ). let p : ℕ × ℕ = (n, a.1) in p) first ∙ ap (λ (n : ℕ). let p : ℕ × ℕ = (b.0, n) in p) second

address_tied : (a b : Address) → address_cmp a b ≡ Equal → a ≡ b
address_tied [] [] e = refl
address_tied [] (y ∷ b) e = absurd cc
address_tied (x ∷ a) [] e = absurd cc
address_tied (x ∷ a) (y ∷ b) e =
    let parts = then_tied (step_cmp x y) (address_cmp a b) e in
    ap (λ z. z ∷ a) (step_tied x y parts.0) ∙ ap (λ zs. y ∷ zs) (address_tied a b parts.1)

rank_tied : {S : Type 0} (a b : TreeNode S) → rank_cmp a b ≡ Equal → a.address ≡ b.address
rank_tied a b e =
    let parts = then_tied (nat_cmp b.priority a.priority) (ordering_then (nat_cmp (length a.address) (length b.address)) (address_cmp a.address b.address)) e in
    let rest = then_tied (nat_cmp (length a.address) (length b.address)) (address_cmp a.address b.address) parts.1 in
    address_tied a.address b.address rest.1

-- of two nodes with different addresses one is better
pub better_or_worse : {S : Type 0} (a b : TreeNode S) → (a.address ≡ b.address → ⊥) → IsBetter a b ⊎ IsBetter b a
better_or_worse a b ne = known (rank_cmp a b) refl
  where
    known : (o : Ordering) → rank_cmp a b ≡ o → IsBetter a b ⊎ IsBetter b a
    known Less e = inl e
    known Equal e = absurd (ne (rank_tied a b e))
    known Greater e = inr (rank_cmp_total.antisymm b a ∙ ap ordering_reverse e)

pub not_both_better : {S : Type 0} (a b : TreeNode S) → IsBetter a b → IsBetter b a → ⊥
not_both_better a b p q = let clash : Less ≡ Greater = sym p ∙ rank_cmp_total.antisymm a b ∙ ap ordering_reverse q in cc

pub better_trans : {S : Type 0} (a b c : TreeNode S) → IsBetter a b → IsBetter b c → IsBetter a c
better_trans a b c p q = rank_cmp_total.trans a b c p q

-- ---- the best node is one

pub best_is_one : {S : Type 0} (state : TreeState S) (node other : ℕ) → Best state node → Best state other → node ≡ other
best_is_one state node other h k = elim (h.better other k.content k.there k.eligible) [
  | inl same ↦ sym same
  | inr better ↦ elim (k.better node h.content h.there h.eligible) [ inl same ↦ same | inr worse ↦ absurd (not_both_better h.content k.content better worse) ]
]

-- ---- different nodes have different addresses

no_step : (xs : Address) (x : ℕ × ℕ) → [] ≡ xs ++ x ∷ [] → ⊥
no_step [] x e = cc
no_step (y ∷ xs) x e = cc

way_parts : (shape : TreeShape) (node : ℕ) (o : Option (Option (ℕ × ℕ × ℕ))) → slice_get shape.above node ≡ o → node < nodes_count shape → (o ≡ Some None) ⊎ ((way : ℕ × ℕ × ℕ) × (o ≡ Some (Some way)))
way_parts shape node None e stands = absurd (let clash : ◌≡◌ {A = Option (Option (ℕ × ℕ × ℕ))} None (Some (get_or shape.above node None)) = sym e ∙ slice_get-get_or shape.above node None stands in cc)
way_parts shape node (Some None) e stands = inl refl
way_parts shape node (Some (Some way)) e stands = inr (way, refl)

top_is_root : (shape : TreeShape) → IsShape shape → (node : ℕ) → slice_get shape.above node ≡ Some None → node ≡ 0
top_is_root shape is_shape zero e = refl
top_is_root shape is_shape (suc node) e = absurd (is_shape.others node e)

same_child : (shape : TreeShape) (node i p a b : ℕ) → IsChild shape node i p a → IsChild shape node i p b → a ≡ b
same_child shape node i p a b h k =
    let twice : ◌≡◌ {A = Option (List (ℕ × ℕ))} (Some h.all) (Some k.all) = sym h.grown ∙ k.grown in
    let all : h.all ≡ k.all = cc in
    let entries : ◌≡◌ {A = Option (ℕ × ℕ)} (Some (h.first, h.count)) (Some (k.first, k.count)) = sym h.there ∙ ap (λ xs. slice_get xs i) all ∙ k.there in
    let pair = same_pairs h.first k.first h.count k.count entries in
    omega (arith, h.number, k.number, pair.0)

module _ (shape : TreeShape) (is_shape : IsShape shape) where
  same_node : (bound a b : ℕ) → a < bound → a < nodes_count shape → b < nodes_count shape → address_of shape a ≡ address_of shape b → a ≡ b
  same_node zero a b low sa sb e = absurd (omega arith)
  same_node (suc bound) a b low sa sb e = elim (way_parts shape a (slice_get shape.above a) refl sa) [
    | inl top ↦ elim (way_parts shape b (slice_get shape.above b) refl sb) [
      | inl also ↦ top_is_root shape is_shape a top ∙ sym (top_is_root shape is_shape b also)
      | inr q ↦ absurd (no_step (address_of shape q.0.0) (q.0.1, q.0.2)
          (sym (ap (address_of shape) (top_is_root shape is_shape a top) ∙ address_of-root shape is_shape) ∙ e ∙ address_of-step shape is_shape b q.0 (ap option_flatten q.1)))
    ]
    | inr p ↦ elim (way_parts shape b (slice_get shape.above b) refl sb) [
      | inl also ↦ absurd (no_step (address_of shape p.0.0) (p.0.1, p.0.2)
          (sym (ap (address_of shape) (top_is_root shape is_shape b also) ∙ address_of-root shape is_shape) ∙ sym e ∙ address_of-step shape is_shape a p.0 (ap option_flatten p.1)))
      | inr q ↦
          let up = address_of-step shape is_shape a p.0 (ap option_flatten p.1) in
          let over = address_of-step shape is_shape b q.0 (ap option_flatten q.1) in
          let parts = same_from_push (address_of shape p.0.0) (address_of shape q.0.0) (p.0.1, p.0.2) (q.0.1, q.0.2) (sym up ∙ e ∙ over) in
          let pa = above-rises shape is_shape a p.0 (ap option_flatten p.1) in
          let qb = above-rises shape is_shape b q.0 (ap option_flatten q.1) in
          let parent = same_node bound p.0.0 q.0.0 (omega (arith, pa)) (omega (arith, pa)) (omega (arith, qb)) parts.0 in
          let i : p.0.1 ≡ q.0.1 = ap (λ (s : ℕ × ℕ). s.0) parts.1 in
          let j : p.0.2 ≡ q.0.2 = ap (λ (s : ℕ × ℕ). s.1) parts.1 in
          let first = is_shape.down p.0.0 p.0.1 p.0.2 a p.1 in
          let moved = subst (λ (n : ℕ). IsChild shape n p.0.1 p.0.2 a) parent first in
          let moved_i = subst (λ (n : ℕ). IsChild shape q.0.0 n p.0.2 a) i moved in
          let moved_j = subst (λ (n : ℕ). IsChild shape q.0.0 q.0.1 n a) j moved_i in
          same_child shape q.0.0 q.0.1 q.0.2 a b moved_j (is_shape.down q.0.0 q.0.1 q.0.2 b q.1)
    ]
  ]

  pub address_of-apart : (a b : ℕ) → a < nodes_count shape → b < nodes_count shape → address_of shape a ≡ address_of shape b → a ≡ b
  address_of-apart a b sa sb e = same_node (suc a) a b (omega arith) sa sb e
