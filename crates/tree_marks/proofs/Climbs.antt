-- Marks that are written at one node: what stays local elsewhere.
use Rattle.std.proofs.Common.{◌≡◌, ◌≢◌, inl, inr, ℕ, zero, suc, ◌+◌, ◌<◌, Bool, false, List, [], ◌∷◌, length, get_or, Option, Some, None, refl, sym, ap, subst, ◌∙◌, arith}
use Rattle.std.specs.Prelude.{slice_get, slice_set}
use Rattle.std.specs.Option.{option_flatten}
use Rattle.tree_runs.specs.Shapes.{TreeShape, above_at, alternatives_at, IsChild, IsShape}
use Rattle.tree_runs.specs.Marks.{all_children, some_child, proved_by, stuck_by, entry_at}
use Rattle.tree_runs.proofs.Lists.{same_or_other, same_ways}
use Rattle.tree_runs.proofs.Marks.{all_from-agree, any_from-agree, proved_by-agree, stuck_by-agree, child-rises}
use Rattle.tree_marks.specs.TreeMarks.{marked, IsLocalAt}

pub get_or-set-same : {X : Type 0} (xs : List X) (i : ℕ) (x d : X) → i < length xs → get_or (slice_set xs i x) i d ≡ x
get_or-set-same [] i x d h = absurd (omega arith)
get_or-set-same (y ∷ xs) zero x d h = refl
get_or-set-same (y ∷ xs) (suc i) x d h = get_or-set-same xs i x d (omega arith)

pub get_or-set-other : {X : Type 0} (xs : List X) (i k : ℕ) (x d : X) → k ≢ i → get_or (slice_set xs i x) k d ≡ get_or xs k d
get_or-set-other [] i k x d ne = refl
get_or-set-other (y ∷ xs) zero zero x d ne = absurd (ne refl)
get_or-set-other (y ∷ xs) zero (suc k) x d ne = refl
get_or-set-other (y ∷ xs) (suc i) zero x d ne = refl
get_or-set-other (y ∷ xs) (suc i) (suc k) x d ne = get_or-set-other xs i k x d (λ e. ne (ap suc e))

-- a child of one node, below one alternative, is none of another
pub one_parent : (shape : TreeShape) → IsShape shape → (node other i j p q child : ℕ) → IsChild shape node i p child → IsChild shape other j q child → (node ≡ other) × (i ≡ j) × (p ≡ q)
one_parent shape is_shape node other i j p q child a b =
    same_ways node other i j p q (sym (is_shape.up node i p child a) ∙ is_shape.up other j q child b)

module _ (shape : TreeShape) (is_shape : IsShape shape) (node : ℕ) (proved stuck proved' stuck' : List Bool)
    (proved_elsewhere : (other : ℕ) → other ≢ node → marked proved' other ≡ marked proved other)
    (stuck_elsewhere : (other : ℕ) → other ≢ node → marked stuck' other ≡ marked stuck other) where
  -- the node is no child of this one
  abbrev NotBelow : ℕ → Type 0
  NotBelow other = (alternative place : ℕ) → IsChild shape other alternative place node → ⊥

  child_is_other : (other : ℕ) → NotBelow other → (alternative place child : ℕ) → IsChild shape other alternative place child → child ≢ node
  child_is_other other free alternative place child c e = free alternative place (subst (IsChild shape other alternative place) e c)

  pub local-elsewhere : (other : ℕ) → NotBelow other → other ≢ node → IsLocalAt shape proved stuck other → IsLocalAt shape proved' stuck' other
  local-elsewhere other free ne h = record {
    proved_is = proved_elsewhere other ne ∙ h.proved_is ∙ proved_by-agree shape (marked proved) (marked proved') other
        (λ alternative place child c. sym (proved_elsewhere child (child_is_other other free alternative place child c)));
    stuck_is = stuck_elsewhere other ne ∙ h.stuck_is ∙ stuck_by-agree shape (marked stuck) (marked stuck') other
        (λ alternative place child c. sym (stuck_elsewhere child (child_is_other other free alternative place child c)));
  }

  not_below_itself : NotBelow node
  not_below_itself alternative place c = let r = child-rises shape is_shape node alternative place node c in absurd (omega (arith, r))

  pub local-here : marked proved' node ≡ proved_by (marked proved) (alternatives_at shape node) → marked stuck' node ≡ stuck_by (marked stuck) (alternatives_at shape node) → IsLocalAt shape proved' stuck' node
  local-here p s = record {
    proved_is = p ∙ proved_by-agree shape (marked proved) (marked proved') node
        (λ alternative place child c. sym (proved_elsewhere child (child_is_other node not_below_itself alternative place child c)));
    stuck_is = s ∙ stuck_by-agree shape (marked stuck) (marked stuck') node
        (λ alternative place child c. sym (stuck_elsewhere child (child_is_other node not_below_itself alternative place child c)));
  }

-- what hangs below a node that has this above it
pub only_parent : (shape : TreeShape) → IsShape shape → (node : ℕ) (way : Option (ℕ × ℕ × ℕ)) → above_at shape node ≡ way → (other alternative place : ℕ) → IsChild shape other alternative place node →
    way ≡ Some (other, alternative, place)
only_parent shape is_shape node way e other alternative place c = sym e ∙ ap option_flatten (is_shape.up other alternative place node c)

-- a step of the climb, over lists that were written at the node: marks are local where the node above isn't
pub written : (shape : TreeShape) → IsShape shape → (node : ℕ) (proved stuck proved' stuck' : List Bool) (p s : Bool) → node < length proved → node < length stuck →
    proved' ≡ slice_set proved node p → stuck' ≡ slice_set stuck node s → p ≡ proved_by (marked proved) (alternatives_at shape node) → s ≡ stuck_by (marked stuck) (alternatives_at shape node) →
    ((other : ℕ) → (other ≡ node → ⊥) → IsLocalAt shape proved stuck other) → (other : ℕ) → ((alternative place : ℕ) → IsChild shape other alternative place node → ⊥) → IsLocalAt shape proved' stuck' other
written shape is_shape node proved stuck proved' stuck' p s within_p within_s wp ws vp vs h other free =
    let elsewhere_p : (other : ℕ) → other ≢ node → marked proved' other ≡ marked proved other = λ other ne. ap (λ flags. marked flags other) wp ∙ get_or-set-other proved node other p false ne in
    let elsewhere_s : (other : ℕ) → other ≢ node → marked stuck' other ≡ marked stuck other = λ other ne. ap (λ flags. marked flags other) ws ∙ get_or-set-other stuck node other s false ne in
    let here = local-here shape is_shape node proved stuck proved' stuck' elsewhere_p elsewhere_s
    (ap (λ flags. marked flags node) wp ∙ get_or-set-same proved node p false within_p ∙ vp) (ap (λ flags. marked flags node) ws ∙ get_or-set-same stuck node s false within_s ∙ vs) in
    elim (same_or_other other node) [
      | inl same ↦ subst (IsLocalAt shape proved' stuck') (sym same) here
      | inr ne ↦ local-elsewhere shape is_shape node proved stuck proved' stuck' elsewhere_p elsewhere_s other free ne (h other ne)
    ]

-- nothing has the root as a child
pub root_is_free : (shape : TreeShape) → IsShape shape → (node : ℕ) → above_at shape node ≡ None → (other alternative place : ℕ) → IsChild shape other alternative place node → ⊥
root_is_free shape is_shape node root other alternative place c = let clash : ◌≡◌ {A = Option (ℕ × ℕ × ℕ)} None (Some (other, alternative, place)) = only_parent shape is_shape node None root other alternative place c in cc

pub other_parent : (shape : TreeShape) → IsShape shape → (node : ℕ) (way : ℕ × ℕ × ℕ) → above_at shape node ≡ Some way → (other : ℕ) → other ≢ way.0 → (alternative place : ℕ) → IsChild shape other alternative place node → ⊥
other_parent shape is_shape node way e other ne alternative place c =
    let both : ◌≡◌ {A = Option (ℕ × ℕ × ℕ)} (Some way) (Some (other, alternative, place)) = only_parent shape is_shape node (Some way) e other alternative place c in
    let inside : ◌≡◌ {A = ℕ × ℕ × ℕ} way (other, alternative, place) = cc in
    ne (sym (ap (λ (w : ℕ × ℕ × ℕ). w.0) inside))

-- children below other alternatives keep their flags
module _ (shape : TreeShape) (node : ℕ) (flags flags' : List Bool) (elsewhere : (other : ℕ) → other ≢ node → marked flags' other ≡ marked flags other)
    (n i : ℕ) (entry : ℕ × ℕ) (free : (place : ℕ) → IsChild shape n i place node → ⊥) where
  away : (all : List (ℕ × ℕ)) → alternatives_at shape n ≡ Some all → slice_get all i ≡ Some entry → (place : ℕ) → place < entry.1 → entry.0 + place ≢ node
  away all g f place within e = free place (subst (IsChild shape n i place) e (record { all = all; first = entry.0; count = entry.1; grown = g; there = f; within = within; number = refl }))

  pub all_kept_at : (o : Option (List (ℕ × ℕ))) → alternatives_at shape n ≡ o → entry_at o i ≡ Some entry → all_children (marked flags') entry ≡ all_children (marked flags) entry
  all_kept_at None g f = absurd cc
  all_kept_at (Some all) g f = all_from-agree (marked flags') (marked flags) entry.0 entry.1 (λ place within. elsewhere (entry.0 + place) (away all g f place within))

  pub some_kept_at : (o : Option (List (ℕ × ℕ))) → alternatives_at shape n ≡ o → entry_at o i ≡ Some entry → some_child (marked flags') entry ≡ some_child (marked flags) entry
  some_kept_at None g f = absurd cc
  some_kept_at (Some all) g f = any_from-agree (marked flags') (marked flags) entry.0 entry.1 (λ place within. elsewhere (entry.0 + place) (away all g f place within))
