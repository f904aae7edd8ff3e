-- Each step spends an address that is committed, and no address is spent twice.
use Rattle.std.proofs.Common.{◌≡◌, ◌≢◌, ◌⊎◌, inl, inr, ℕ, suc, ◌+◌, ◌≤◌, List, [], ◌∷◌, ◌++◌, length, AllPairs, refl, sym, ◌∙◌, subst, arith}
use Rattle.std.specs.List.{Contains}
use Rattle.std.proofs.lemmas.List.Kept.{AllPairs-cons}
use Rattle.lf_definitions.specs.Typing.{LfGoal}
use Rattle.clusters.proofs.Elements.{all_elements}
use Rattle.tree_runs.specs.Addresses.{Address}
use Rattle.mark_laws.proofs.Entries.{contains_first, contains_later, contains_cases, no_longer}
use Rattle.chosen_scripts.proofs.Addresses.{no_own_step, one_step_only}

-- The address above this one, if it has one, is among some.
abbrev pub HasParentIn : List Address → Address → Type 0
HasParentIn used address = (above : Address) (step : ℕ × ℕ) → address ≡ above ++ step ∷ [] → Contains used above

-- These addresses are spent: they differ, are committed and have their parents among them, and with so many more steps they are as many as are committed. No goal carries one of
-- them, and each goal carries a child of one, or the empty address.
pub record IsSpent (committed used : List Address) (most : ℕ) (carried : ℕ → Address) (goals : List LfGoal) : Type 0 where
  pub differ : AllPairs (λ p q. p ≢ q) used
  pub among : (u : Address) → Contains used u → Contains committed u
  pub count : length committed ≤ length used + most
  pub parents : (u : Address) → Contains used u → HasParentIn used u
  pub unspent : (h : LfGoal) → Contains goals h → Contains used (carried h.id) → ⊥
  pub below : (h : LfGoal) → Contains goals h → HasParentIn used (carried h.id)

-- A goal after a step carries a child of the step's address, or it was there before and carries another address.
abbrev pub IsCarriedOn : (ℕ → Address) → List LfGoal → Address → (ℕ → Address) → LfGoal → Type 0
IsCarriedOn carried goals here onward h = ((step : ℕ × ℕ) × (onward h.id ≡ here ++ step ∷ [])) ⊎ (Contains goals h × (onward h.id ≡ carried h.id) × (carried h.id ≡ here → ⊥))

module _ (committed used : List Address) (most : ℕ) (carried : ℕ → Address) (goals : List LfGoal) (spent : IsSpent committed used most carried goals) (g : LfGoal) (has : Contains goals g)
    (is_committed : Contains committed (carried g.id))
  where
    abbrev here : Address
    here = carried g.id

    all_differ : AllPairs (λ p q. p ≢ q) (here ∷ used)
    all_differ = AllPairs-cons (λ (p : Address) q. p ≢ q) here used (all_elements (λ (u : Address). here ≢ u) used (λ u there e. spent.unspent g has (subst (Contains used) (sym e) there))) spent.differ

    all_committed : (u : Address) → Contains (here ∷ used) u → Contains committed u
    all_committed u there = elim (contains_cases here used u there) [ inl same ↦ subst (Contains committed) same is_committed | inr later ↦ spent.among u later ]

    -- One more step may be made.
    pub step_is_left : suc (length used) ≤ length committed
    step_is_left = no_longer (here ∷ used) committed all_differ all_committed

    pub some_are_left : most ≡ 0 → ⊥
    some_are_left none = let low = step_is_left in let count = spent.count in absurd (omega (arith, low, count, none))

    -- A child of it is not spent, and no other goal carries one.
    pub child_is_unspent : (step : ℕ × ℕ) → Contains used (here ++ step ∷ []) → ⊥
    child_is_unspent step there = spent.unspent g has (spent.parents (here ++ step ∷ []) there here step refl)

    pub no_goal_is_child : (h : LfGoal) → Contains goals h → (step : ℕ × ℕ) → carried h.id ≡ here ++ step ∷ [] → ⊥
    no_goal_is_child h there step e = spent.unspent g has (spent.below h there here step e)

    module _ (left : ℕ) (more : most ≡ suc left) (onward : ℕ → Address) (after : List LfGoal) (each : (h : LfGoal) → Contains after h → IsCarriedOn carried goals here onward h) where
      parents_after : (u : Address) → Contains (here ∷ used) u → HasParentIn (here ∷ used) u
      parents_after u there above step e = contains_later here used above (elim (contains_cases here used u there) [
        | inl same ↦ spent.below g has above step (same ∙ e)
        | inr later ↦ spent.parents u later above step e
      ])

      unspent_after : (h : LfGoal) → IsCarriedOn carried goals here onward h → Contains (here ∷ used) (onward h.id) → ⊥
      unspent_after h (inl moved) there = elim (contains_cases here used (onward h.id) there) [
        | inl same ↦ no_own_step here moved.0 (same ∙ moved.1)
        | inr later ↦ child_is_unspent moved.0 (subst (Contains used) moved.1 later)
      ]
      unspent_after h (inr old) there = elim (contains_cases here used (onward h.id) there) [
        | inl same ↦ old.2 (sym old.1 ∙ sym same)
        | inr later ↦ spent.unspent h old.0 (subst (Contains used) old.1 later)
      ]

      below_after : (h : LfGoal) → IsCarriedOn carried goals here onward h → HasParentIn (here ∷ used) (onward h.id)
      below_after h (inl moved) above step e = let one = one_step_only here above moved.0 step (sym moved.1 ∙ e) in subst (Contains (here ∷ used)) one.0 (contains_first used here)
      below_after h (inr old) above step e = contains_later here used above (spent.below h old.0 above step (sym old.1 ∙ e))

      pub spent_after : IsSpent committed (here ∷ used) left onward after
      spent_after = record {
        differ = all_differ;
        among = all_committed;
        count = let count = spent.count in omega (arith, count, more);
        parents = parents_after;
        unspent = λ h there. unspent_after h (each h there);
        below = λ h there. below_after h (each h there);
      }
