-- What holds of the state of a run, after each event.
use Rattle.std.proofs.Common.{◌≡◌, ◌⊎◌, ℕ, zero, suc, ◌+◌, ◌<◌, ◌≤◌, Bool, true, false, not, ◌==◌, ◌&&◌, List, [], ◌∷◌, length, Some, None, refl, sym, ap, subst, ◌∙◌, arith, nat_lt, slice_get, slice_index_or, inl, inr}
use mathlib.Core.Logic.{⊎_elim}
use Rattle.std.specs.List.{list_any, Contains, filter}
use Rattle.std.proofs.lemmas.Bool.{and_parts, eqb-false, ltb-true}
use Rattle.std.proofs.lemmas.List.Folds.{list_any_at}
use Rattle.tree_runs.specs.Shapes.{root_shape, alternatives_at}
use Rattle.tree_runs.specs.Addresses.{address_of}
use Rattle.tree_runs.specs.States.{TreeNode, TreeState, start, after, claim, release}
use Rattle.tree_runs.specs.Best.{is_open}
use Rattle.tree_runs.specs.Runs.{is_busy}
use Rattle.tree_runs.proofs.Shapes.{IsShape-root}
use Rattle.std.proofs.lemmas.Option.{slice_get_within}
use Rattle.tree_queue.proofs.AddressLemmas.{address_of_root, Some_inj}
use Rattle.tree_steps.specs.Trees.{IsRegular}

-- the first of a list, or one of the rest
pub Contains-first_or : {X : Type 0} (x y : X) (xs : List X) → Contains (x ∷ xs) y → (x ≡ y) ⊎ Contains xs y
Contains-first_or x y xs h = by_place h.0 h.1 h.2
  where
    by_place : (k : ℕ) → k < length (x ∷ xs) → slice_index_or (x ∷ xs) k y ≡ y → (x ≡ y) ⊎ Contains xs y
    by_place zero l e = inl e
    by_place (suc k) l e = inr (k, omega (arith, l), e)

pub Contains-later : {X : Type 0} (x y : X) (xs : List X) → Contains xs y → Contains (x ∷ xs) y
Contains-later x y xs h = (suc h.0, (let l = h.1 in omega (arith, l)), h.2)

-- what is left was there
pub Contains-filter : {X : Type 0} (test : X → Bool) (y : X) (xs : List X) → Contains (filter test xs) y → Contains xs y
Contains-filter test y [] h = absurd (let l = h.1 in omega (arith, l))
Contains-filter {X = X} test y (x ∷ xs) h = go (test x) refl (λ rest. Contains-later x y xs (Contains-filter test y xs rest))
  where
    go : (v : Bool) → test x ≡ v → (Contains (filter test xs) y → Contains (x ∷ xs) y) → Contains (x ∷ xs) y
    go true e later = ⊎_elim (λ same. (0, omega arith, same)) later (Contains-first_or x y (filter test xs) (rw e at h))
    go false e later = later (rw e at h)

length-filter_le : {X : Type 0} (test : X → Bool) (xs : List X) → length (filter test xs) ≤ length xs
length-filter_le test [] = omega arith
length-filter_le test (x ∷ xs) = go (test x) refl (length-filter_le test xs)
  where
    go : (v : Bool) → test x ≡ v → length (filter test xs) ≤ length xs → length (filter test (x ∷ xs)) ≤ length (x ∷ xs)
    go true e rest = rw e (omega (arith, rest))
    go false e rest = rw e (omega (arith, rest))

-- what is in a list passes no test that nothing passes
none_passes : {X : Type 0} (test : X → Bool) (xs : List X) (x : X) → list_any test xs ≡ false → Contains xs x → test x ≡ false
none_passes test xs x h there = go (test x) refl
  where
    go : (v : Bool) → test x ≡ v → test x ≡ false
    go true e = absurd (let found : list_any test xs ≡ true = list_any_at test xs there.0 x there.1 (ap test there.2 ∙ e) in let both : true ≡ false = sym found ∙ h in cc)
    go false e = e

false_from_not : (b : Bool) → not b ≡ true → b ≡ false
false_from_not true h = cc
false_from_not false h = refl

root_address : {S : Type 0} (root : S) (node : ℕ) (content : TreeNode S) → slice_get (start root).nodes node ≡ Some content → content.address ≡ address_of root_shape node
root_address root zero content h = ap (λ c. c.address) (sym (Some_inj _ _ h)) ∙ sym (address_of_root root_shape 0 refl)
root_address root (suc node) content h = absurd (let l = slice_get_within (start root).nodes (suc node) content h in omega (arith, l))

root_ungrown : (node : ℕ) → node < 1 → false ≡ false → alternatives_at root_shape node ≡ None
root_ungrown zero l h = refl
root_ungrown (suc node) l h = absurd (omega (arith, l))

module _ {S : Type 0} where
  pub regular_start : (root : S) (budget : ℕ) → IsRegular (start root) budget
  regular_start root budget = record {
    is_shape = IsShape-root;
    sizes = refl;
    addresses = root_address root;
    one_node = λ seat first second h g. absurd (let l = h.1 in omega (arith, l));
    one_seat = λ first second node h g. absurd (let l = h.1 in omega (arith, l));
    held_stands = λ seat node h. absurd (let l = h.1 in omega (arith, l));
    committed_stands = λ node h. cc;
    ungrown = root_ungrown;
    held_uncommitted = λ seat node h. absurd (let l = h.1 in omega (arith, l));
    count = omega arith;
  }

  module _ (branches : S → List (ℕ × List S)) (state : TreeState S) (budget : ℕ) (regular : IsRegular state budget) where
    -- an open node was claimed by a seat that held nothing
    pub regular_claimed : (seat node : ℕ) → is_busy state seat ≡ false → is_open state node ≡ true → length state.committed + length state.held < budget → IsRegular (after branches state (claim seat node)) budget
    unfolding after
    regular_claimed seat node idle opened few =
        let both = and_parts (nat_lt node (length state.nodes) && not (list_any (λ o. o == node) state.committed)) (not (list_any (λ pair. pair.1 == node) state.held)) opened in
        let first_two = and_parts (nat_lt node (length state.nodes)) (not (list_any (λ o. o == node) state.committed)) both.0 in
        let stands = ltb-true node (length state.nodes) first_two.0 in
        let uncommitted = false_from_not (list_any (λ o. o == node) state.committed) first_two.1 in
        let unheld = false_from_not (list_any (λ pair. pair.1 == node) state.held) both.1 in
        record {
          is_shape = regular.is_shape;
          sizes = regular.sizes;
          addresses = regular.addresses;
          one_node = λ s first second h g. ⊎_elim
              (λ e. ⊎_elim (λ f. sym (ap (λ p. p.1) e) ∙ ap (λ p. p.1) f) (λ f. absurd (idle_seat seat s second (ap (λ p. p.0) e) idle f)) (Contains-first_or (seat, node) (s, second) state.held g))
              (λ e. ⊎_elim (λ f. absurd (idle_seat seat s first (ap (λ p. p.0) f) idle e)) (λ f. regular.one_node s first second e f) (Contains-first_or (seat, node) (s, second) state.held g))
              (Contains-first_or (seat, node) (s, first) state.held h);
          one_seat = λ first second n h g. ⊎_elim
              (λ e. ⊎_elim (λ f. sym (ap (λ p. p.0) e) ∙ ap (λ p. p.0) f) (λ f. absurd (unheld_node node n second (ap (λ p. p.1) e) unheld f)) (Contains-first_or (seat, node) (second, n) state.held g))
              (λ e. ⊎_elim (λ f. absurd (unheld_node node n first (ap (λ p. p.1) f) unheld e)) (λ f. regular.one_seat first second n e f) (Contains-first_or (seat, node) (second, n) state.held g))
              (Contains-first_or (seat, node) (first, n) state.held h);
          held_stands = λ s n h. ⊎_elim (λ e. subst (λ m. m < length state.nodes) (ap (λ p. p.1) e) stands) (λ e. regular.held_stands s n e) (Contains-first_or (seat, node) (s, n) state.held h);
          committed_stands = regular.committed_stands;
          ungrown = regular.ungrown;
          held_uncommitted = λ s n h. ⊎_elim (λ e. subst (λ m. list_any (λ o. o == m) state.committed ≡ false) (ap (λ p. p.1) e) uncommitted) (λ e. regular.held_uncommitted s n e) (Contains-first_or (seat, node) (s, n) state.held h);
          count = omega (arith, few);
        }
      where
        idle_seat : (seat s n : ℕ) → seat ≡ s → list_any (λ pair. pair.0 == seat) state.held ≡ false → Contains state.held (s, n) → ⊥
        idle_seat seat s n e idle there = eqb-false s seat (none_passes (λ pair. pair.0 == seat) state.held (s, n) idle there) (sym e)

        unheld_node : (node n s : ℕ) → node ≡ n → list_any (λ pair. pair.1 == node) state.held ≡ false → Contains state.held (s, n) → ⊥
        unheld_node node n s e unheld there = eqb-false n node (none_passes (λ pair. pair.1 == node) state.held (s, n) unheld there) (sym e)

    pub regular_released : (seat node : ℕ) → IsRegular (after branches state (release seat node)) budget
    unfolding after
    regular_released seat node = record {
      is_shape = regular.is_shape;
      sizes = regular.sizes;
      addresses = regular.addresses;
      one_node = λ s first second h g. regular.one_node s first second (Contains-filter (λ pair. not (pair.0 == seat)) (s, first) state.held h) (Contains-filter (λ pair. not (pair.0 == seat)) (s, second) state.held g);
      one_seat = λ first second n h g. regular.one_seat first second n (Contains-filter (λ pair. not (pair.0 == seat)) (first, n) state.held h) (Contains-filter (λ pair. not (pair.0 == seat)) (second, n) state.held g);
      held_stands = λ s n h. regular.held_stands s n (Contains-filter (λ pair. not (pair.0 == seat)) (s, n) state.held h);
      committed_stands = regular.committed_stands;
      ungrown = regular.ungrown;
      held_uncommitted = λ s n h. regular.held_uncommitted s n (Contains-filter (λ pair. not (pair.0 == seat)) (s, n) state.held h);
      count = omega (arith, regular.count, length-filter_le (λ pair. not (pair.0 == seat)) state.held);
    }
