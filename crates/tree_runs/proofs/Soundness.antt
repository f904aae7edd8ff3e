-- The state of each run is sound: each event keeps it so.
use Rattle.std.proofs.Common.{◌≡◌, ◌≢◌, ◌⊎◌, inl, inr, ℕ, zero, suc, ◌+◌, ◌<◌, Bool, true, false, not, ◌||◌, List, [], ◌∷◌, ◌++◌, length, Option, Some, None, refl, sym, ap, subst, ◌∙◌, arith, length-append, eq-eqb}
use Rattle.std.specs.Option.{option_flatten}
use Rattle.std.specs.Prelude.{slice_get, ◌==◌}
use Rattle.std.specs.List.{list_any}
use Rattle.std.proofs.lemmas.Bool.{and_parts, eqb-true, ltb-true}
use Rattle.std.proofs.lemmas.List.Folds.{list_any-append}
use Rattle.tree_runs.specs.Shapes.{root_shape, nodes_count, above_at, alternatives_at, placed, grow}
use Rattle.tree_runs.specs.Addresses.{address_of, at, child_of}
use Rattle.tree_runs.specs.States.{TreeEvent, claim, commit, release, TreeNode, TreeState, start, without_seat, branch_nodes, counts_of, after_commit, after, state_of}
use Rattle.tree_runs.specs.Runs.{is_busy, is_holding, are_counts, is_legal, is_run}
use Rattle.tree_runs.specs.Soundness.{is_committed, IsSound}
use Rattle.tree_runs.proofs.Journals.{state_from-append, is_run_from-append, on_runs}
use Rattle.tree_runs.proofs.Lists.{below_or_past, same_or_other, slice_get-append, slice_get-append_past}
use Rattle.tree_runs.proofs.Shapes.{IsShape-root, IsShape-grow, alternatives-grown, alternatives-others, above-new, nodes_count-grow}
use Rattle.tree_runs.proofs.Addresses.{address_of-step, address_of-root, address_of-grow, at-step}
use Rattle.tree_runs.proofs.Births.{child_in, is_born, length-branch_nodes}
use Rattle.tree_runs.proofs.Holding.{holds, claimed, holds_seat, holds_node, given_back, no_more_held, one_fewer_held}
use Rattle.tree_runs.proofs.Best.{or_cases, or_left, or_right, Best-from_is_best}

root_ungrown : (n : ℕ) (all : List (ℕ × ℕ)) → alternatives_at root_shape n ≡ Some all → ⊥
root_ungrown zero all e = cc
root_ungrown (suc n) all e = cc

not_true : (b : Bool) → not b ≡ true → b ≡ false
not_true true e = absurd cc
not_true false e = refl

child_known : {S : Type 0} (branches : S → List (ℕ × List S)) (o : Option (ℕ × List S)) (place : ℕ) → child_of branches o place ≡ child_in o place
child_known branches None place = refl
child_known branches (Some branch) place = refl

module _ {S : Type 0} (branches : S → List (ℕ × List S)) (root : S) (budget : ℕ) where
  start_address : (node : ℕ) (content : TreeNode S) → slice_get (start root).nodes node ≡ Some content → (content.address ≡ address_of root_shape node) × (at branches root content.address ≡ Some content.seen)
  start_address zero content e =
      let first : TreeNode S = record { address = []; seen = root; priority = 1_000_000_000_000_000_000 } in
      let same : first ≡ content = cc in
      (ap (λ c. c.address) (sym same) ∙ sym (address_of-root root_shape IsShape-root), ap (λ c. at branches root c.address) (sym same) ∙ ap (λ c. Some c.seen) same)
  start_address (suc node) content e = absurd cc

  pub start_sound : IsSound branches root budget (start root)
  start_sound = record {
    is_shape = IsShape-root;
    nodes = refl;
    addresses = λ node content e. (start_address node content e).0;
    unfolding_has = λ node content e. (start_address node content e).1;
    committed_grown = λ node e. absurd cc;
    grown_committed = λ node all e. absurd (root_ungrown node all e);
    held_stand = λ seat node e. absurd cc;
    held_ungrown = λ seat node e. absurd cc;
    one_seat = λ seat other node e f. absurd cc;
    one_node = λ seat node other e f. absurd cc;
    within = omega arith;
  }

  -- ---- a claim

  record IsClaimed (state : TreeState S) (seat node : ℕ) : Type 0 where
    stands : node < length state.nodes
    uncommitted : is_committed state node ≡ false
    unheld : list_any (λ pair. pair.1 == node) state.held ≡ false
    idle : is_busy state seat ≡ false
    room : length state.committed + length state.held < budget

  claim_known : (state : TreeState S) (seat node : ℕ) → is_legal branches budget state (claim seat node) ≡ true → IsClaimed state seat node
  unfolding is_legal
  claim_known state seat node h =
      let last = and_parts _ _ h in
      let third = and_parts _ _ last.0 in
      let second = and_parts _ _ third.0 in
      let best = Best-from_is_best state node last.1 in
      let eligible = and_parts _ _ best.eligible in
      let is_open_now = and_parts _ _ eligible.0 in
      let stands = and_parts _ _ is_open_now.0 in
      record {
        stands = ltb-true _ _ stands.0;
        uncommitted = not_true _ stands.1;
        unheld = not_true _ is_open_now.1;
        idle = not_true _ third.1;
        room = ltb-true _ _ second.1;
      }

  ungrown_known : (state : TreeState S) → IsSound branches root budget state → (node : ℕ) → is_committed state node ≡ false → (o : Option (List (ℕ × ℕ))) → alternatives_at state.shape node ≡ o → o ≡ None
  ungrown_known state h node e None f = refl
  ungrown_known state h node e (Some all) f = absurd (let clash : false ≡ true = sym e ∙ h.grown_committed node all f in cc)

  claim_sound : (state : TreeState S) → IsSound branches root budget state → (seat node : ℕ) → IsClaimed state seat node → IsSound branches root budget (record state { held = (seat, node) ∷ state.held })
  claim_sound state h seat node c = record {
    is_shape = h.is_shape;
    nodes = h.nodes;
    addresses = h.addresses;
    unfolding_has = h.unfolding_has;
    committed_grown = h.committed_grown;
    grown_committed = h.grown_committed;
    held_stand = λ s n e. elim (claimed seat node state.held s n e) [ inl new ↦ omega (arith, new.1, c.stands, h.nodes) | inr old ↦ h.held_stand s n old ];
    held_ungrown = λ s n e. elim (claimed seat node state.held s n e) [
      | inl new ↦ ap (alternatives_at state.shape) (sym new.1) ∙ ungrown_known state h node c.uncommitted (alternatives_at state.shape node) refl
      | inr old ↦ h.held_ungrown s n old
    ];
    one_seat = λ s t n e f. elim (claimed seat node state.held s n e) [
      | inl new ↦ elim (claimed seat node state.held t n f) [
        | inl also ↦ sym new.0 ∙ also.0
        | inr old ↦ absurd (let clash : false ≡ true = sym c.unheld ∙ holds_node state.held t node (ap (holds state.held t) new.1 ∙ old) in cc)
      ]
      | inr old ↦ elim (claimed seat node state.held t n f) [
        | inl also ↦ absurd (let clash : false ≡ true = sym c.unheld ∙ holds_node state.held s node (ap (holds state.held s) also.1 ∙ old) in cc)
        | inr older ↦ h.one_seat s t n old older
      ]
    ];
    one_node = λ s n m e f. elim (claimed seat node state.held s n e) [
      | inl new ↦ elim (claimed seat node state.held s m f) [
        | inl also ↦ sym new.1 ∙ also.1
        | inr old ↦ absurd (let clash : false ≡ true = sym c.idle ∙ holds_seat state.held seat m (ap (λ (x : ℕ). holds state.held x m) new.0 ∙ old) in cc)
      ]
      | inr old ↦ elim (claimed seat node state.held s m f) [
        | inl also ↦ absurd (let clash : false ≡ true = sym c.idle ∙ holds_seat state.held seat n (ap (λ (x : ℕ). holds state.held x n) also.0 ∙ old) in cc)
        | inr older ↦ h.one_node s n m old older
      ]
    ];
    within = omega (arith, c.room);
  }

  -- ---- a release

  release_sound : (state : TreeState S) → IsSound branches root budget state → (seat : ℕ) → IsSound branches root budget (record state { held = without_seat seat state.held })
  release_sound state h seat = record {
    is_shape = h.is_shape;
    nodes = h.nodes;
    addresses = h.addresses;
    unfolding_has = h.unfolding_has;
    committed_grown = h.committed_grown;
    grown_committed = h.grown_committed;
    held_stand = λ s n e. h.held_stand s n (given_back seat state.held s n e).1;
    held_ungrown = λ s n e. h.held_ungrown s n (given_back seat state.held s n e).1;
    one_seat = λ s t n e f. h.one_seat s t n (given_back seat state.held s n e).1 (given_back seat state.held t n f).1;
    one_node = λ s n m e f. h.one_node s n m (given_back seat state.held s n e).1 (given_back seat state.held s m f).1;
    within = (let fewer = no_more_held seat state.held in omega (arith, fewer, h.within));
  }

  -- ---- a commit

  module _ (state : TreeState S) (h : IsSound branches root budget state) (seat node : ℕ) (holding : is_holding state seat node ≡ true) (content : TreeNode S) (there : slice_get state.nodes node ≡ Some content) where
    abbrev counts : List ℕ
    counts = counts_of (branches content.seen)

    abbrev committed_state : TreeState S
    committed_state = after_commit branches state seat node (Some content)

    stands : node < nodes_count state.shape
    stands = h.held_stand seat node holding

    ungrown : alternatives_at state.shape node ≡ None
    ungrown = h.held_ungrown seat node holding

    record StandsRight (n : ℕ) (born : TreeNode S) : Type 0 where
      address : born.address ≡ address_of (grow state.shape node counts) n
      has : at branches root born.address ≡ Some born.seen

    stands_right : (n : ℕ) (born : TreeNode S) → slice_get (state.nodes ++ branch_nodes content 0 (branches content.seen)) n ≡ Some born → StandsRight n born
    stands_right n born e = elim (below_or_past (length state.nodes) n) [
      | inl old ↦
          let was = sym (slice_get-append state.nodes (branch_nodes content 0 (branches content.seen)) n old) ∙ e in
          record { address = h.addresses n born was ∙ sym (address_of-grow state.shape node counts h.is_shape stands ungrown n (omega (arith, h.nodes))); has = h.unfolding_has n born was }
      | inr p ↦
          let b = is_born content node 0 p.0 (branches content.seen) born (sym (slice_get-append_past state.nodes (branch_nodes content 0 (branches content.seen)) p.0 n p.1) ∙ e) in
          let z : 0 + b.alternative ≡ b.alternative = omega arith in
          let up : above_at (grow state.shape node counts) n ≡ Some (node, b.alternative, b.place) =
          ap option_flatten (above-new state.shape node counts h.is_shape stands ungrown p.0 n (omega (arith, p.1, h.nodes)) ∙ b.above) ∙ ap (λ (a : ℕ). Some (node, a, b.place)) z in
          let address : born.address ≡ content.address ++ (b.alternative, b.place) ∷ [] = b.address ∙ ap (λ (a : ℕ). content.address ++ (a, b.place) ∷ []) z in
          record {
            address = address
                ∙ ap (λ a. a ++ (b.alternative, b.place) ∷ []) (h.addresses node content there ∙ sym (address_of-grow state.shape node counts h.is_shape stands ungrown node stands))
                ∙ sym (address_of-step (grow state.shape node counts) (IsShape-grow state.shape node counts h.is_shape stands ungrown) n (node, b.alternative, b.place) up);
            has = ap (at branches root) address ∙ at-step branches (Some root) content.address content.seen b.alternative b.place (h.unfolding_has node content there)
                ∙ child_known branches (slice_get (branches content.seen) b.alternative) b.place ∙ b.child;
          }
    ]

    more_committed : (n : ℕ) → is_committed committed_state n ≡ (is_committed state n || (node == n || false))
    more_committed n = list_any-append (λ other. other == n) state.committed (node ∷ [])

    was_committed : (n : ℕ) → is_committed committed_state n ≡ true → (is_committed state n ≡ true) ⊎ (node ≡ n)
    was_committed n e = elim (or_cases (is_committed state n) (node == n || false) (sym (more_committed n) ∙ e)) [
      | inl old ↦ inl old
      | inr new ↦ elim (or_cases (node == n) false new) [ inl same ↦ inr (eqb-true node n same) | inr no_more ↦ absurd cc ]
    ]

    others_kept : (n : ℕ) → n ≢ node → alternatives_at (grow state.shape node counts) n ≡ alternatives_at state.shape n
    others_kept n ne = alternatives-others state.shape node counts h.is_shape stands ungrown n ne

    left_over : (s n : ℕ) → holds (without_seat seat state.held) s n ≡ true → (n ≢ node) × (holds state.held s n ≡ true)
    left_over s n e =
        let found = given_back seat state.held s n e in
        ((λ same. found.0 (h.one_seat s seat node (ap (holds state.held s) (sym same) ∙ found.1) holding)), found.1)

    commit_sound : IsSound branches root budget committed_state
    commit_sound = record {
      is_shape = IsShape-grow state.shape node counts h.is_shape stands ungrown;
      nodes = length-append state.nodes (branch_nodes content 0 (branches content.seen))
          ∙ (let a = length-branch_nodes content 0 (branches content.seen) in let b = nodes_count-grow state.shape node counts in omega (arith, a, b, h.nodes));
      addresses = λ n born e. (stands_right n born e).address;
      unfolding_has = λ n born e. (stands_right n born e).has;
      committed_grown = λ n e f. elim (same_or_other n node) [
        | inl same ↦ let clash : ◌≡◌ {A = Option (List (ℕ × ℕ))} (Some (placed (nodes_count state.shape) counts)) None =
            sym (alternatives-grown state.shape node counts h.is_shape stands ungrown) ∙ ap (alternatives_at (grow state.shape node counts)) (sym same) ∙ f in cc
        | inr ne ↦ elim (was_committed n e) [ inl old ↦ h.committed_grown n old (sym (others_kept n ne) ∙ f) | inr new ↦ absurd (ne (sym new)) ]
      ];
      grown_committed = λ n all e. elim (same_or_other n node) [
        | inl same ↦ more_committed n ∙ or_right (is_committed state n) (node == n || false) (or_left (node == n) false (eq-eqb node n (sym same)))
        | inr ne ↦ more_committed n ∙ or_left (is_committed state n) (node == n || false) (h.grown_committed n all (sym (others_kept n ne) ∙ e))
      ];
      held_stand = λ s n e. (let old = h.held_stand s n (left_over s n e).1 in let b = nodes_count-grow state.shape node counts in omega (arith, old, b));
      held_ungrown = λ s n e. others_kept n (left_over s n e).0 ∙ h.held_ungrown s n (left_over s n e).1;
      one_seat = λ s t n e f. h.one_seat s t n (left_over s n e).1 (left_over t n f).1;
      one_node = λ s n m e f. h.one_node s n m (left_over s n e).1 (left_over s m f).1;
      within = (let fewer = one_fewer_held seat node state.held holding in let longer = length-append state.committed (node ∷ []) in omega (arith, fewer, longer, h.within));
    }

  commit_known : (state : TreeState S) → IsSound branches root budget state → (seat node : ℕ) (counts : List ℕ) → is_holding state seat node ≡ true → (o : Option (TreeNode S)) → slice_get state.nodes node ≡ o →
      are_counts branches o counts ≡ true → IsSound branches root budget (after_commit branches state seat node o)
  commit_known state h seat node counts holding None e f = absurd cc
  commit_known state h seat node counts holding (Some content) e f = commit_sound state h seat node holding content e

  pub after_sound : (state : TreeState S) (event : TreeEvent) → IsSound branches root budget state → is_legal branches budget state event ≡ true → IsSound branches root budget (after branches state event)
  unfolding after is_legal
  after_sound state (claim seat node) h legal = claim_sound state h seat node (claim_known state seat node legal)
  after_sound state (commit seat node counts) h legal =
      let parts = and_parts (is_holding state seat node) (are_counts branches (slice_get state.nodes node) counts) legal in
      commit_known state h seat node counts parts.0 (slice_get state.nodes node) refl parts.1
  after_sound state (release seat node) h legal = release_sound state h seat

  -- the state of each run is sound
  pub runs_are_sound : (journal : List TreeEvent) → is_run branches budget root journal ≡ true → IsSound branches root budget (state_of branches root journal)
  runs_are_sound journal run = on_runs branches budget root (λ events. IsSound branches root budget (state_of branches root events))
      (λ events event is_run_before sound legal. subst (IsSound branches root budget) (sym (state_from-append branches (start root) events event)) (after_sound (state_of branches root events) event sound legal))
      start_sound journal run

  -- no node is committed twice
  pub not_committed_twice : (journal : List TreeEvent) (seat node : ℕ) (counts : List ℕ) → is_run branches budget root (journal ++ commit seat node counts ∷ []) ≡ true → is_committed (state_of branches root journal) node ≡ false
  unfolding is_legal
  not_committed_twice journal seat node counts run =
      let parts = and_parts _ _ (sym (is_run_from-append branches budget (start root) journal (commit seat node counts)) ∙ run) in
      let sound = runs_are_sound journal parts.0 in
      let holding = (and_parts _ _ parts.1).0 in
      known sound (sound.held_ungrown seat node holding) (is_committed (state_of branches root journal) node) refl
    where
      known : IsSound branches root budget (state_of branches root journal) → alternatives_at (state_of branches root journal).shape node ≡ None → (b : Bool) → is_committed (state_of branches root journal) node ≡ b → b ≡ false
      known sound ungrown true e = absurd (sound.committed_grown node e ungrown)
      known sound ungrown false e = refl
