-- A tree after a commit.
use Rattle.std.proofs.Common.{◌≡◌, ℕ, ◌+◌, ◌≤◌, true, not, ◌==◌, List, [], ◌∷◌, ◌++◌, map, length, Some, All, IsPermutation, refl, sym, ap, subst, ◌∙◌, arith, slice_get, slice_index_or, length-append}
use Rattle.std.specs.List.{Contains, filter}
use Rattle.std.proofs.lemmas.Bool.{and_from}
use Rattle.std.proofs.lemmas.List.{map-append}
use Rattle.std.proofs.lemmas.List.Elements.{All-append}
use Rattle.std.proofs.lemmas.Option.{slice_get_within}
use Rattle.tree_runs.specs.Shapes.{grow}
use Rattle.tree_runs.specs.States.{TreeNode, TreeState, start, state_of, after, after_commit, commit, without_seat, branch_nodes, counts_of}
use Rattle.tree_runs.specs.Runs.{is_holding, is_legal, is_run, same_counts, are_counts}
use Rattle.tree_runs.proofs.Lists.{slice_get-append}
use Rattle.tree_marks.specs.TreeMarks.{Settled}
use Rattle.tree_queue.specs.declared.entry.Entry.{Entry}
use Rattle.tree_queue.specs.Queues.{IsQueueOf}
use Rattle.tree_runs.proofs.Journals.{state_from-append, is_run_from-append}
use Rattle.tree_steps.specs.declared.tree.Tree.{Tree}
use Rattle.tree_steps.specs.declared.tree.Holding.{Holding}
use Rattle.tree_steps.specs.Trees.{IsRegular, IsEntryOf, Shows, IsTree, state_of_tree, contents_of, entries_from}
use Rattle.tree_steps.proofs.BestEntries.{same_number}
use Rattle.tree_steps.proofs.Commits.{fits_committed}
use Rattle.tree_steps.proofs.Holdings.{pair_of, pairs_left, All-filter, in_state, entry_is_of, fewer_held}
use Rattle.tree_steps.proofs.SoundRuns.{regular_run}

same_counts-refl : (xs : List ℕ) → same_counts xs xs ≡ true
same_counts-refl [] = refl
same_counts-refl (x ∷ xs) = and_from (x == x) (same_counts xs xs) (same_number x) (same_counts-refl xs)

module _ {S : Type 0} (branches : S → List (ℕ × List S)) (state : TreeState S) (seat node : ℕ) (content : TreeNode S) (there : slice_get state.nodes node ≡ Some content) where
  pub commit_legal : (budget : ℕ) → is_holding state seat node ≡ true → is_legal branches budget state (commit seat node (counts_of (branches content.seen))) ≡ true
  unfolding is_legal
  commit_legal budget h = and_from (is_holding state seat node) _ h (subst (λ o. are_counts branches o (counts_of (branches content.seen)) ≡ true) (sym there) (same_counts-refl (counts_of (branches content.seen))))

  pub commit_state : (counts : List ℕ) → after branches state (commit seat node counts) ≡ after_commit branches state seat node (Some content)
  unfolding after
  commit_state counts = ap (after_commit branches state seat node) there

  pub told_after_commit : (holdings : List Holding) → All (λ holding. IsEntryOf state holding.entry) holdings → All (λ holding. IsEntryOf (after_commit branches state seat node (Some content)) holding.entry) holdings
  told_after_commit holdings all k d l =
      let e = all k d l in
      record { content = e.content; there = slice_get-append state.nodes (branch_nodes content 0 (branches content.seen)) (slice_index_or holdings k d).entry.node (slice_get_within state.nodes (slice_index_or holdings k d).entry.node e.content e.there) ∙ e.there; priority = e.priority; depth = e.depth }

-- what a commit does to the parts
pub record Commits {P S N : Type 0} (branches : S → List (ℕ × List S)) (seen : N → S) (own : N → Type 0) (old new : Tree P N S) (state : TreeState S) (seat node : ℕ) (content : TreeNode S) (more : List N) : Type 0 where
  pub root : new.root ≡ old.root
  pub budget : new.budget ≡ old.budget
  pub commits : new.commits ≡ old.commits + 1
  pub events : new.journal.events ≡ old.journal.events ++ commit seat node (counts_of (branches content.seen)) ∷ []
  pub held : new.held.items ≡ filter (λ holding. not (holding.seat == seat)) old.held.items
  pub shape : new.shape.shape ≡ grow old.shape.shape node (counts_of (branches content.seen))
  pub marks : Settled new.shape.shape new.marks.marks
  pub others : new.others.items ≡ old.others.items ++ more
  pub more_seen : map seen more ≡ map (λ n. n.seen) (branch_nodes content 0 (branches content.seen))
  pub more_own : All own more
  pub ordered : IsQueueOf new.shape.shape new.queue.entries
  pub put : IsPermutation (entries_from (length state.nodes) (branch_nodes content 0 (branches content.seen)) ++ old.queue.entries) new.queue.entries
  pub queue_room : length old.held.items ≤ new.queue.spare + 1
  pub journal_room : new.journal.spare + 1 ≡ old.journal.spare

module _ {P S N : Type 0} (branches : S → List (ℕ × List S)) (seen : N → S) (own : N → Type 0) (old new : Tree P N S) (tree : IsTree branches seen own old) (seat node : ℕ) (entry : Entry)
    (there : Contains old.held.items (record { seat = seat; entry = entry })) (holds : is_holding (state_of_tree branches seen own old) seat node ≡ true)
    (content : TreeNode S) (at_node : slice_get (state_of_tree branches seen own old).nodes node ≡ Some content) (more : List N) (did : Commits branches seen own old new (state_of_tree branches seen own old) seat node content more) where
  run_after : is_run branches new.budget (seen new.root) new.journal.events ≡ true
  run_after = rw (did.root, did.budget, did.events) (is_run_from-append branches old.budget (start (seen old.root)) old.journal.events (commit seat node (counts_of (branches content.seen))) ∙
      and_from _ _ tree.run (commit_legal branches (state_of_tree branches seen own old) seat node content at_node old.budget holds))

  next_is : state_of_tree branches seen own new ≡ after_commit branches (state_of_tree branches seen own old) seat node (Some content)
  next_is = ap (λ r. state_of branches (seen r) new.journal.events) did.root ∙ (ap (state_of branches (seen old.root)) did.events ∙
      (state_from-append branches (start (seen old.root)) old.journal.events (commit seat node (counts_of (branches content.seen))) ∙ commit_state branches (state_of_tree branches seen own old) seat node content at_node (counts_of (branches content.seen))))

  pub committed : IsTree branches seen own new
  committed =
      let state = state_of_tree branches seen own old in
      let kids = branch_nodes content 0 (branches content.seen) in
      let counts = counts_of (branches content.seen) in
      let next = after_commit branches state seat node (Some content) in
      let holding = subst (λ n. Contains state.held (seat, n)) (entry_is_of branches seen own old tree seat node entry there holds) (in_state branches seen own old tree seat node entry there holds) in
      let less = fewer_held branches seen own old tree seat node entry there holds in
      let shape_is : new.shape.shape ≡ grow state.shape node counts = did.shape ∙ ap (λ s. grow s node counts) tree.shows.shape in
      record {
        run = run_after;
        shows = subst (λ s. Shows branches seen own s new) (sym next_is) (record {
          regular = subst (λ s. IsRegular s new.budget) next_is (regular_run branches (seen new.root) new.budget new.journal.events run_after);
          shape = shape_is;
          marks = subst (λ s. Settled s new.marks.marks) shape_is did.marks;
          contents = ap (λ n. seen n ∷ map seen new.others.items) did.root ∙ (ap (λ ns. seen old.root ∷ map seen ns) did.others ∙
              (ap (λ ss. seen old.root ∷ ss) (map-append seen old.others.items more) ∙ (ap (λ ss. map seen (contents_of branches seen own old) ++ ss) did.more_seen ∙
              (ap (λ ss. ss ++ map (λ n. n.seen) kids) tree.shows.contents ∙ sym (map-append (λ n. n.seen) state.nodes kids)))));
          own_nodes = subst (λ n. All own (n ∷ new.others.items)) (sym did.root) (subst (λ ns. All own (old.root ∷ ns)) (sym did.others) (All-append own (contents_of branches seen own old) more tree.shows.own_nodes did.more_own));
          held = ap (map pair_of) did.held ∙ (pairs_left seat old.held.items ∙ ap (without_seat seat) tree.shows.held);
          told = subst (All (λ h. IsEntryOf next h.entry)) (sym did.held) (told_after_commit branches state seat node content at_node (filter (λ h. not (h.seat == seat)) old.held.items) (All-filter (λ h. IsEntryOf state h.entry) (λ h. not (h.seat == seat)) old.held.items tree.shows.told));
          commits = did.commits ∙ (ap (λ n. n + 1) tree.shows.commits ∙ sym (length-append state.committed (node ∷ [])));
          ordered = subst (λ s. IsQueueOf s new.queue.entries) shape_is did.ordered;
          fits = fits_committed branches state old.budget tree.shows.regular seat node holding content at_node old.queue.entries new.queue.entries tree.shows.fits did.put;
          queue_room = omega (arith, ap length did.held, less, did.queue_room);
          journal_room = omega (arith, ap length did.held, less, did.journal_room, tree.shows.journal_room);
        });
      }
