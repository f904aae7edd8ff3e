-- One pair of a still run after another.
use Rattle.std.proofs.Common.{◌≡◌, ℕ, ◌+◌, ◌-◌, ◌<◌, Bool, true, false, not, ◌==◌, ◌&&◌, ◌||◌, List, [], ◌∷◌, ◌++◌, length, Option, Some, None, refl, sym, ap, subst, ◌∙◌, arith, length-append, append_assoc, append-nil, nat_lt, slice_get}
use Rattle.std.specs.List.{list_any}
use Rattle.std.specs.Option.{option_map}
use Rattle.std.proofs.lemmas.Bool.{and_parts, ltb-true, eqb-true, eq-eqb}
use Rattle.tree_runs.specs.Marks.{is_decided}
use Rattle.tree_runs.specs.States.{TreeEvent, TreeNode, TreeState, claim, commit, start, after, after_commit, state_of, without_seat}
use Rattle.tree_runs.specs.Runs.{is_holding, is_legal, is_run, are_counts, is_settled, Still, settled, step}
use Rattle.tree_runs.proofs.Journals.{state_from-append, is_run_from-append}
use Rattle.tree_queue.proofs.AddressLemmas.{Some_inj}
use Rattle.tree_steps.specs.declared.tree.Tree.{Tree}
use Rattle.tree_steps.specs.Trees.{IsTree, state_of_tree}
use Rattle.tree_shared.specs.Stills.{IsPair}

false_from_not : (b : Bool) → not b ≡ true → b ≡ false
false_from_not true h = cc
false_from_not false h = refl

unequal : (m n : ℕ) → m < n → (m == n) ≡ false
unequal m n l = go (m == n) refl
  where
    go : (v : Bool) → (m == n) ≡ v → (m == n) ≡ false
    go true e = absurd (let same = eqb-true m n e in omega (arith, same, l))
    go false e = e

and_none : (b : Bool) → (b && (false || false)) ≡ false
and_none true = refl
and_none false = refl

module _ {S : Type 0} (branches : S → List (ℕ × List S)) (budget : ℕ) (state : TreeState S) (node : ℕ) where
  pub claim_needs : is_legal branches budget state (claim 0 node) ≡ true → (is_decided state.shape 0 ≡ false) × (length state.committed + length state.held < budget)
  unfolding is_legal
  claim_needs h =
      let p = and_parts (not (is_decided state.shape 0)) (nat_lt (length state.committed + length state.held) budget) (and_parts _ _ (and_parts _ _ h).0).0 in
      (false_from_not (is_decided state.shape 0) p.0, ltb-true (length state.committed + length state.held) budget p.1)

  pub not_settled : is_decided state.shape 0 ≡ false → length state.committed + length state.held < budget → is_settled branches budget state ≡ false
  not_settled undecided few =
      ap (λ d. (length state.held == 0) && (d || length state.committed == budget)) undecided ∙
      (ap (λ e. (length state.held == 0) && (false || e)) (unequal (length state.committed) budget (omega (arith, few))) ∙ and_none (length state.held == 0))

  pub pair_idle : (counts : List ℕ) → state.held ≡ [] → (after branches (after branches state (claim 0 node)) (commit 0 node counts)).held ≡ []
  unfolding after
  pair_idle counts idle = given (slice_get state.nodes node)
    where
      given : (o : Option (TreeNode S)) → (after_commit branches (record state { held = (0, node) ∷ state.held }) 0 node o).held ≡ []
      given None = ap (λ held. without_seat 0 ((0, node) ∷ held)) idle
      given (Some content) = ap (λ held. without_seat 0 ((0, node) ∷ held)) idle

  pub one_more : (counts : List ℕ) → is_legal branches budget (after branches state (claim 0 node)) (commit 0 node counts) ≡ true →
      length (after branches (after branches state (claim 0 node)) (commit 0 node counts)).committed ≡ length state.committed + 1
  unfolding is_legal after
  one_more counts h = given (slice_get state.nodes node) (and_parts _ _ h).1
    where
      given : (o : Option (TreeNode S)) → are_counts branches o counts ≡ true → length (after_commit branches (record state { held = (0, node) ∷ state.held }) 0 node o).committed ≡ length state.committed + 1
      given None h = cc
      given (Some content) h = length-append state.committed (node ∷ [])

module _ {P S N : Type 0} (branches : S → List (ℕ × List S)) (seen : N → S) (own : N → Type 0) where
  -- what is still to be done of the still run is all that is missing of it
  pub record IsOnStill (root : N) (budget : ℕ) (tree : Tree P N S) : Type 0 where
    pub is_tree : IsTree branches seen own tree
    pub root_is : tree.root ≡ root
    pub budget_is : tree.budget ≡ budget
    pub idle : (state_of_tree branches seen own tree).held ≡ []
    pub goes : (rest : List TreeEvent) → Still branches budget (state_of_tree branches seen own tree) rest → Still branches budget (start (seen root)) (tree.journal.events ++ rest)

  module _ (old new : Tree P N S) (is_tree : IsTree branches seen own new) (root_same : new.root ≡ old.root) (budget_same : new.budget ≡ old.budget) (pair : IsPair branches seen own old new) where
    abbrev first : TreeEvent
    first = claim 0 pair.node

    abbrev second : TreeEvent
    second = commit 0 pair.node pair.counts

    abbrev before : TreeState S
    before = state_of_tree branches seen own old

    pub events_are : new.journal.events ≡ (old.journal.events ++ first ∷ []) ++ second ∷ []
    events_are = pair.events ∙ sym (append_assoc old.journal.events (first ∷ []) (second ∷ []))

    after_first : state_of branches (seen old.root) (old.journal.events ++ first ∷ []) ≡ after branches before first
    after_first = state_from-append branches (start (seen old.root)) old.journal.events first

    pub state_is : state_of_tree branches seen own new ≡ after branches (after branches before first) second
    state_is =
        ap (λ r. state_of branches (seen r) new.journal.events) root_same ∙ (ap (state_of branches (seen old.root)) events_are ∙
        (state_from-append branches (start (seen old.root)) (old.journal.events ++ first ∷ []) second ∙ ap (λ s. after branches s second) after_first))

    run_is : is_run branches old.budget (seen old.root) ((old.journal.events ++ first ∷ []) ++ second ∷ []) ≡ true
    run_is = subst (λ es. is_run branches old.budget (seen old.root) es ≡ true) events_are
        (subst (λ b. is_run branches b (seen old.root) new.journal.events ≡ true) budget_same (subst (λ r. is_run branches new.budget (seen r) new.journal.events ≡ true) root_same is_tree.run))

    both_legal : (is_run branches old.budget (seen old.root) (old.journal.events ++ first ∷ []) ≡ true) × (is_legal branches old.budget (state_of branches (seen old.root) (old.journal.events ++ first ∷ [])) second ≡ true)
    both_legal = and_parts _ _ (sym (is_run_from-append branches old.budget (start (seen old.root)) (old.journal.events ++ first ∷ []) second) ∙ run_is)

    pub first_legal : is_legal branches old.budget before first ≡ true
    first_legal = (and_parts _ _ (sym (is_run_from-append branches old.budget (start (seen old.root)) old.journal.events first) ∙ both_legal.0)).1

    pub second_legal : is_legal branches old.budget (after branches before first) second ≡ true
    second_legal = subst (λ s. is_legal branches old.budget s second ≡ true) after_first both_legal.1

    -- nothing is held after it, where nothing was before
    pub stays_idle : before.held ≡ [] → (state_of_tree branches seen own new).held ≡ []
    stays_idle idle = ap (λ s. s.held) state_is ∙ pair_idle branches old.budget before pair.node pair.counts idle

    pub goes_on : (root : N) (budget : ℕ) → IsOnStill root budget old → IsOnStill root budget new
    goes_on root budget on =
        let needs = claim_needs branches old.budget before pair.node first_legal in
        let going : is_settled branches budget before ≡ false = subst (λ b. is_settled branches b before ≡ false) on.budget_is (not_settled branches old.budget before pair.node needs.0 needs.1) in
        let legal_first = subst (λ b. is_legal branches b before first ≡ true) on.budget_is first_legal in
        let legal_second = subst (λ b. is_legal branches b (after branches before first) second ≡ true) on.budget_is second_legal in
        record {
          is_tree = is_tree;
          root_is = root_same ∙ on.root_is;
          budget_is = budget_same ∙ on.budget_is;
          idle = stays_idle on.idle;
          goes = λ rest s.
              let later = subst (λ st. Still branches budget st rest) state_is s in
              let whole = on.goes (first ∷ second ∷ rest) (step before pair.node pair.counts rest going legal_first legal_second later) in
              subst (Still branches budget (start (seen root))) (sym (ap (λ es. es ++ rest) pair.events ∙ append_assoc old.journal.events (first ∷ second ∷ []) rest)) whole;
        }

    -- fewer commits are left
    pub fewer_left : IsTree branches seen own old → (budget : ℕ) → old.budget ≡ budget → budget - new.commits < budget - old.commits
    fewer_left old_tree budget e =
        let needs = claim_needs branches old.budget before pair.node first_legal in
        let more = ap (λ s. length s.committed) state_is ∙ one_more branches old.budget before pair.node pair.counts second_legal in
        omega (arith, needs.1, more, is_tree.shows.commits, old_tree.shows.commits, e)

  pub ends : (root : N) (budget : ℕ) (tree : Tree P N S) → IsOnStill root budget tree → is_settled branches tree.budget (state_of_tree branches seen own tree) ≡ true → Still branches budget (start (seen root)) tree.journal.events
  ends root budget tree on h =
      subst (Still branches budget (start (seen root))) (append-nil tree.journal.events)
      (on.goes [] (settled (state_of_tree branches seen own tree) (subst (λ b. is_settled branches b (state_of_tree branches seen own tree) ≡ true) on.budget_is h)))

module _ {S : Type 0} (branches : S → List (ℕ × List S)) where
  claim_holds : (state : TreeState S) (node : ℕ) → is_holding (after branches state (claim 0 node)) 0 node ≡ true
  unfolding after
  claim_holds state node = ap (λ b. b || list_any (λ pair. pair.0 == 0 && pair.1 == node) state.held) (eq-eqb node node refl)

  claim_nodes : (state : TreeState S) (node : ℕ) → (after branches state (claim 0 node)).nodes ≡ state.nodes
  unfolding after
  claim_nodes state node = refl

  made_of : (made : List (ℕ × List S)) (seen : S) (found : Option (TreeNode S)) → made ≡ branches seen → Some seen ≡ option_map (λ n. n.seen) found → Some made ≡ option_map (λ n. branches n.seen) found
  made_of made seen None e h = cc
  made_of made seen (Some n) e h = ap Some (e ∙ ap branches (Some_inj seen n.seen h))

-- a tree whose seat 0 just claimed a node
module _ {P S N : Type 0} (branches : S → List (ℕ × List S)) (seen : N → S) (own : N → Type 0) (old new : Tree P N S) (node : ℕ) (root : new.root ≡ old.root) (events : new.journal.events ≡ old.journal.events ++ claim 0 node ∷ []) where
  claimed_state : state_of_tree branches seen own new ≡ after branches (state_of_tree branches seen own old) (claim 0 node)
  claimed_state = ap (λ r. state_of branches (seen r) new.journal.events) root ∙ (ap (state_of branches (seen old.root)) events ∙ state_from-append branches (start (seen old.root)) old.journal.events (claim 0 node))

  pub holds_now : is_holding (state_of_tree branches seen own new) 0 node ≡ true
  holds_now = subst (λ s. is_holding s 0 node ≡ true) (sym claimed_state) (claim_holds branches (state_of_tree branches seen own old) node)

  pub branches_now : (made : List (ℕ × List S)) (content : S) → made ≡ branches content → Some content ≡ option_map (λ n. n.seen) (slice_get (state_of_tree branches seen own old).nodes node) →
      Some made ≡ option_map (λ n. branches n.seen) (slice_get (state_of_tree branches seen own new).nodes node)
  branches_now made content e h =
      let nodes = ap (λ s. s.nodes) claimed_state ∙ claim_nodes branches (state_of_tree branches seen own old) node in
      made_of branches made content (slice_get (state_of_tree branches seen own old).nodes node) e h ∙ ap (λ ns. option_map (λ n. branches n.seen) (slice_get ns node)) (sym nodes)
