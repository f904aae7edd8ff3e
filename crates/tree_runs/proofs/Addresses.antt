-- Addresses of nodes, from the node above.
use Rattle.std.proofs.Common.{◌≡◌, ℕ, zero, suc, ◌<◌, ◌≤◌, List, [], ◌∷◌, ◌++◌, Option, Some, None, refl, ap, ◌∙◌, arith}
use Rattle.std.specs.Option.{option_flatten}
use Rattle.tree_runs.specs.Shapes.{TreeShape, nodes_count, above_at, alternatives_at, grow, IsShape}
use Rattle.tree_runs.specs.Addresses.{Address, address_from, address_of, child_at, at_from}
use Rattle.tree_runs.proofs.Shapes.{above-old}
use Rattle.tree_runs.proofs.Marks.{above-rises}

high_enough : (shape : TreeShape) → IsShape shape → (low high node : ℕ) (way : Option (ℕ × ℕ × ℕ)) → above_at shape node ≡ way → node ≤ low → node ≤ high → address_from shape low way ≡ address_from shape high way
high_enough shape is_shape low high node None e a b = refl
high_enough shape is_shape zero high node (Some way) e a b = absurd (let r = above-rises shape is_shape node way e in omega (arith, r))
high_enough shape is_shape (suc low) zero node (Some way) e a b = absurd (let r = above-rises shape is_shape node way e in omega (arith, r))
high_enough shape is_shape (suc low) (suc high) node (Some way) e a b =
    let r = above-rises shape is_shape node way e in
    ap (λ xs. xs ++ (way.1, way.2) ∷ []) (high_enough shape is_shape low high way.0 (above_at shape way.0) refl (omega (arith, r)) (omega (arith, r)))

step_from : (shape : TreeShape) → IsShape shape → (node height : ℕ) (way : ℕ × ℕ × ℕ) → above_at shape node ≡ Some way → node ≤ height → address_from shape height (Some way) ≡ address_from shape way.0 (above_at shape way.0) ++ (way.1, way.2) ∷ []
step_from shape is_shape node zero way e h = absurd (let r = above-rises shape is_shape node way e in omega (arith, r))
step_from shape is_shape node (suc height) way e h =
    let r = above-rises shape is_shape node way e in
    ap (λ xs. xs ++ (way.1, way.2) ∷ []) (high_enough shape is_shape height way.0 way.0 (above_at shape way.0) refl (omega (arith, r)) (omega arith))

-- an address is that of the node above, and one step
pub address_of-step : (shape : TreeShape) → IsShape shape → (node : ℕ) (way : ℕ × ℕ × ℕ) → above_at shape node ≡ Some way → address_of shape node ≡ address_of shape way.0 ++ (way.1, way.2) ∷ []
unfolding address_of
address_of-step shape is_shape node way e = ap (address_from shape node) e ∙ step_from shape is_shape node node way e (omega arith)

pub address_of-root : (shape : TreeShape) → IsShape shape → address_of shape 0 ≡ []
unfolding address_of
address_of-root shape is_shape = ap (address_from shape 0) (ap option_flatten is_shape.root)

module _ (shape : TreeShape) (node : ℕ) (counts : List ℕ) (is_shape : IsShape shape) (stands : node < nodes_count shape) (ungrown : alternatives_at shape node ≡ None) where
  kept_from : (height : ℕ) (way : Option (ℕ × ℕ × ℕ)) → ((w : ℕ × ℕ × ℕ) → way ≡ Some w → w.0 < nodes_count shape) → address_from (grow shape node counts) height way ≡ address_from shape height way
  kept_from height None low = refl
  kept_from zero (Some way) low = refl
  kept_from (suc height) (Some way) low =
      let there : above_at (grow shape node counts) way.0 ≡ above_at shape way.0 = ap option_flatten (above-old shape node counts is_shape stands ungrown way.0 (low way refl)) in
      ap (λ xs. xs ++ (way.1, way.2) ∷ []) (ap (address_from (grow shape node counts) height) there
      ∙ kept_from height (above_at shape way.0) (λ w e. omega (arith, above-rises shape is_shape way.0 w e, low way refl)))

  -- growing keeps the addresses of the nodes that stood
  pub address_of-grow : (other : ℕ) → other < nodes_count shape → address_of (grow shape node counts) other ≡ address_of shape other
  unfolding address_of
  address_of-grow other within =
      ap (address_from (grow shape node counts) other) (ap option_flatten (above-old shape node counts is_shape stands ungrown other within))
      ∙ kept_from other (above_at shape other) (λ w e. omega (arith, above-rises shape is_shape other w e))

-- one step more in the unfolding
pub at-step : {S : Type 0} (branches : S → List (ℕ × List S)) (start : Option S) (address : Address) (seen : S) (alternative place : ℕ) →
    at_from branches start address ≡ Some seen → at_from branches start (address ++ (alternative, place) ∷ []) ≡ child_at branches seen alternative place
at-step branches None address seen alternative place e = absurd cc
at-step branches (Some first) [] seen alternative place e =
    let same : first ≡ seen = cc in
    nothing_more (child_at branches first alternative place) ∙ ap (λ s. child_at branches s alternative place) same
  where
    nothing_more : (o : Option _) → at_from branches o [] ≡ o
    nothing_more None = refl
    nothing_more (Some s) = refl
at-step branches (Some first) (step ∷ address) seen alternative place e = at-step branches (child_at branches first step.0 step.1) address seen alternative place e
