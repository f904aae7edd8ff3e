-- The nodes that a run commits differ and stand in the unfolding, and so do their addresses.
use Rattle.std.proofs.Common.{◌≡◌, ◌≢◌, inl, inr, ℕ, ◌<◌, true, false, List, [], ◌∷◌, All, AllPairs, Option, Some, None, refl, sym, ap, subst, ◌∙◌, arith, eq-eqb}
use Rattle.std.specs.Prelude.{slice_get, ◌==◌}
use Rattle.std.specs.List.{list_any, Contains}
use Rattle.std.proofs.lemmas.Bool.{and_from, or_parts, eqb-false}
use Rattle.std.proofs.lemmas.List.Elements.{All-nil, All-cons, All-map, All-weaker, All-get_or, All-contains_itself}
use Rattle.tree_runs.specs.Shapes.{nodes_count}
use Rattle.tree_runs.specs.Addresses.{Address, address_of, at}
use Rattle.tree_runs.specs.States.{TreeEvent, claim, commit, release, TreeNode, TreeState, start, after_commit, after, state_of}
use Rattle.tree_runs.specs.Runs.{is_legal, is_run}
use Rattle.tree_runs.specs.Soundness.{is_committed, committed_addresses, IsSound}
use Rattle.tree_runs.proofs.Lists.{below_or_past}
use Rattle.tree_runs.proofs.Journals.{state_from-append, is_run_from-append, on_runs}
use Rattle.tree_runs.proofs.Marks.{alternatives-past}
use Rattle.tree_runs.proofs.Order.{address_of-apart}
use Rattle.tree_runs.proofs.Soundness.{not_committed_twice}
use Rattle.applications.proofs.Pairs.{one_pair, no_pair, AllPairs-append, AllPairs-map}
use Rattle.clusters.proofs.Elements.{found_any}
use Rattle.mark_laws.proofs.Entries.{entry_there}

-- numbers that differ
abbrev pub OtherNumbers : ℕ → ℕ → Type 0
OtherNumbers n m = n ≢ m

-- What no item of a list equals differs from each.
others_than : (n : ℕ) (xs : List ℕ) → list_any (λ other. other == n) xs ≡ false → All (λ x. All (OtherNumbers x) (n ∷ [])) xs
others_than n [] none = All-nil (λ x. All (OtherNumbers x) (n ∷ []))
others_than n (x ∷ xs) none =
    let parts = or_parts (x == n) (list_any (λ other. other == n) xs) none in
    All-cons (λ y. All (OtherNumbers y) (n ∷ [])) x xs (All-cons (OtherNumbers x) n [] (eqb-false x n parts.0) (All-nil (OtherNumbers x))) (others_than n xs parts.1)

module _ {S : Type 0} (branches : S → List (ℕ × List S)) (root : S) (budget : ℕ) where
  -- No node is among the committed ones twice.
  abbrev pub CommitsDiffer : TreeState S → Type 0
  CommitsDiffer state = AllPairs OtherNumbers state.committed

  commit_differs : (state : TreeState S) (seat node : ℕ) → is_committed state node ≡ false → CommitsDiffer state → (content : Option (TreeNode S)) → CommitsDiffer (after_commit branches state seat node content)
  commit_differs state seat node new differ None = differ
  commit_differs state seat node new differ (Some content) =
      AllPairs-append OtherNumbers state.committed (node ∷ []) differ (one_pair OtherNumbers node) (others_than node state.committed new)

  after_differ : (journal : List TreeEvent) (event : TreeEvent) → is_run branches budget root journal ≡ true → is_legal branches budget (state_of branches root journal) event ≡ true →
      CommitsDiffer (state_of branches root journal) → CommitsDiffer (after branches (state_of branches root journal) event)
  unfolding after
  after_differ journal (claim seat node) run legal differ = differ
  after_differ journal (commit seat node counts) run legal differ =
      let state = state_of branches root journal in
      let longer = is_run_from-append branches budget (start root) journal (commit seat node counts) ∙ and_from _ _ run legal in
      commit_differs state seat node (not_committed_twice branches root budget journal seat node counts longer) differ (slice_get state.nodes node)
  after_differ journal (release seat node) run legal differ = differ

  -- The committed nodes of a run differ.
  pub commits_differ : (journal : List TreeEvent) → is_run branches budget root journal ≡ true → CommitsDiffer (state_of branches root journal)
  commits_differ journal run = on_runs branches budget root (λ events. CommitsDiffer (state_of branches root events))
      (λ events event run_before differ legal. subst CommitsDiffer (sym (state_from-append branches (start root) events event)) (after_differ events event run_before legal differ))
      (no_pair OtherNumbers) journal run

  module _ (state : TreeState S) (sound : IsSound branches root budget state) where
    -- The node stands, and the unfolding has something at its address.
    pub record IsStanding (node : ℕ) : Type 0 where
      pub stands : node < nodes_count state.shape
      pub seen : S
      pub has : at branches root (address_of state.shape node) ≡ Some seen

    pub commit_stands : (node : ℕ) → Contains state.committed node → IsStanding node
    commit_stands node there =
        let is : is_committed state node ≡ true = found_any (λ other. other == node) state.committed node there (eq-eqb node node refl) in
        elim (below_or_past (nodes_count state.shape) node) [
          | inl stands ↦
              let entry = entry_there state.nodes node (omega (arith, stands, sound.nodes)) in
              record { stands = stands; seen = entry.0.seen; has = ap (at branches root) (sym (sound.addresses node entry.0 entry.1)) ∙ sound.unfolding_has node entry.0 entry.1 }
          | inr past ↦ absurd (sound.committed_grown node is (alternatives-past state.shape sound.is_shape node (omega (arith, past.1))))
        ]

    commits_stand : All IsStanding state.committed
    commits_stand = All-weaker (Contains state.committed) IsStanding commit_stands state.committed (All-contains_itself state.committed)

    -- The unfolding has something at each committed address.
    pub addresses_stand : All (λ address. (seen : S) × (at branches root address ≡ Some seen)) (committed_addresses state)
    addresses_stand = All-map (λ address. (seen : S) × (at branches root address ≡ Some seen)) (address_of state.shape) state.committed
        (All-weaker IsStanding (λ node. (seen : S) × (at branches root (address_of state.shape node) ≡ Some seen)) (λ node is. (is.seen, is.has)) state.committed commits_stand)

    -- Different committed nodes have different addresses.
    pub addresses_differ : CommitsDiffer state → AllPairs (λ (p : Address) q. p ≢ q) (committed_addresses state)
    addresses_differ differ = AllPairs-map (λ (p : Address) q. p ≢ q) (λ n m. IsStanding n × (IsStanding m × OtherNumbers n m)) (address_of state.shape)
        (λ n m known same. known.1.1 (address_of-apart state.shape sound.is_shape n m known.0.stands known.1.0.stands same)) state.committed
        (λ i j d below within. (
          All-get_or IsStanding state.committed i d (omega (arith, below, within)) commits_stand,
          (All-get_or IsStanding state.committed j d within commits_stand, differ i j d below within),
        ))
