-- The still run is one.
use Rattle.std.proofs.Common.{◌≡◌, ℕ, true, false, List, [], ◌∷◌, Option, Some, None, refl, sym, ap, subst, ◌∙◌}
use Rattle.std.specs.Prelude.{slice_get, ◌==◌}
use Rattle.std.proofs.lemmas.Bool.{and_parts, and_from, eqb-true}
use Rattle.tree_runs.specs.States.{TreeEvent, claim, commit, TreeNode, TreeState, counts_of, after, state_from}
use Rattle.tree_runs.specs.Runs.{same_counts, are_counts, is_legal, Still, settled, step, is_run_from, is_settled}
use Rattle.tree_runs.proofs.Best.{Best-from_is_best}
use Rattle.tree_runs.proofs.Order.{best_is_one}

counts_are : (xs ys : List ℕ) → same_counts xs ys ≡ true → xs ≡ ys
counts_are [] [] e = refl
counts_are [] (y ∷ ys) e = absurd cc
counts_are (x ∷ xs) [] e = absurd cc
counts_are (x ∷ xs) (y ∷ ys) e =
    let parts = and_parts (x == y) (same_counts xs ys) e in
    ap (λ (n : ℕ). n ∷ xs) (eqb-true x y parts.0) ∙ ap (λ rest. y ∷ rest) (counts_are xs ys parts.1)

module _ {S : Type 0} (branches : S → List (ℕ × List S)) (budget : ℕ) where
  counts_known : (o : Option (TreeNode S)) (xs ys : List ℕ) → are_counts branches o xs ≡ true → are_counts branches o ys ≡ true → xs ≡ ys
  counts_known None xs ys a b = absurd cc
  counts_known (Some content) xs ys a b = counts_are xs (counts_of (branches content.seen)) a ∙ sym (counts_are ys (counts_of (branches content.seen)) b)

  claims_agree : (state : TreeState S) (node other : ℕ) → is_legal branches budget state (claim 0 node) ≡ true → is_legal branches budget state (claim 0 other) ≡ true → node ≡ other
  unfolding is_legal
  claims_agree state node other a b = best_is_one state node other (Best-from_is_best state node (and_parts _ _ a).1) (Best-from_is_best state other (and_parts _ _ b).1)

  commits_agree : (state : TreeState S) (node : ℕ) (xs ys : List ℕ) → is_legal branches budget state (commit 0 node xs) ≡ true → is_legal branches budget state (commit 0 node ys) ≡ true → xs ≡ ys
  unfolding is_legal
  commits_agree state node xs ys a b = counts_known (slice_get state.nodes node) xs ys (and_parts _ _ a).1 (and_parts _ _ b).1

  -- the state after a pair
  pair_after : TreeState S → ℕ → List ℕ → TreeState S
  pair_after state node counts = after branches (after branches state (claim 0 node)) (commit 0 node counts)

  pub still_is_one : (state : TreeState S) (one two : List TreeEvent) → Still branches budget state one → Still branches budget state two → one ≡ two
  unfolding pair_after
  still_is_one state one two (settled s e) (settled t f) = refl
  still_is_one state one two (settled s e) (step t node counts events going first second rest) = absurd (let clash : true ≡ false = sym e ∙ going in cc)
  still_is_one state one two (step s node counts events going first second rest) (settled t f) = absurd (let clash : false ≡ true = sym going ∙ f in cc)
  still_is_one state one two (step s node counts events going first second rest) (step t other others more goes third fourth tail) =
      let same : node ≡ other = claims_agree s node other first third in
      let moved = subst (λ (n : ℕ). is_legal branches budget (after branches s (claim 0 n)) (commit 0 n counts) ≡ true) same second in
      let equal : counts ≡ others = commits_agree (after branches s (claim 0 other)) other counts others moved fourth in
      let rest_there = subst (λ xs. Still branches budget (pair_after s other xs) events) equal (subst (λ (n : ℕ). Still branches budget (pair_after s n counts) events) same rest) in
      ap (λ (n : ℕ). claim 0 n ∷ commit 0 n counts ∷ events) same ∙ ap (λ xs. claim 0 other ∷ commit 0 other xs ∷ events) equal
      ∙ ap (λ es. claim 0 other ∷ commit 0 other others ∷ es) (still_is_one (pair_after s other others) events more rest_there tail)

  -- it is a run, and ends settled
  pub still_is_run : (state : TreeState S) (journal : List TreeEvent) → Still branches budget state journal →
      (is_run_from branches budget state journal ≡ true) × (is_settled branches budget (state_from branches state journal) ≡ true)
  still_is_run _ _ (settled state e) = (refl, e)
  still_is_run _ _ (step state node counts events going first second rest) =
      let found = still_is_run (after branches (after branches state (claim 0 node)) (commit 0 node counts)) events rest in
      (and_from _ _ first (and_from _ _ second found.0), found.1)
