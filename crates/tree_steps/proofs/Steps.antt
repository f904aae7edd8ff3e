-- A tree after a change of its parts.
use Rattle.std.proofs.Common.{◌≡◌, ℕ, ◌+◌, ◌<◌, ◌≤◌, true, false, List, [], ◌∷◌, ◌++◌, map, length, Some, All, IsPermutation, refl, sym, ap, subst, ◌∙◌, arith, slice_get}
use Rattle.std.proofs.lemmas.Bool.{and_from, lt-ltb}
use Rattle.std.proofs.lemmas.List.Elements.{All-cons}
use Rattle.tree_runs.specs.Marks.{is_decided, is_relevant}
use Rattle.tree_runs.specs.States.{TreeState, TreeEvent, start, state_of, after, claim}
use Rattle.tree_runs.specs.Best.{is_best, is_open}
use Rattle.tree_runs.specs.Runs.{is_busy, is_legal, is_run}
use Rattle.tree_runs.proofs.Journals.{state_from-append, is_run_from-append}
use Rattle.tree_queue.specs.declared.entry.Entry.{Entry}
use Rattle.tree_queue.specs.Queues.{IsQueueOf, IsBestOf}
use Rattle.tree_steps.specs.declared.tree.Tree.{Tree}
use Rattle.tree_steps.specs.declared.tree.Holding.{Holding}
use Rattle.tree_marks.specs.TreeMarks.{Settled}
use Rattle.tree_steps.specs.Trees.{IsRegular, IsEntryOf, FitsQueue, Shows, IsTree, state_of_tree, contents_of}
use Rattle.tree_steps.proofs.BestEntries.{best_is_best, best_open, best_described}
use Rattle.tree_steps.proofs.Claims.{fits_claimed}
use Rattle.tree_steps.proofs.Regular.{regular_claimed}

module _ {S : Type 0} (branches : S → List (ℕ × List S)) (state : TreeState S) where
  claim_legal : (budget seat node : ℕ) → is_decided state.shape 0 ≡ false → length state.committed + length state.held < budget → is_busy state seat ≡ false → is_best state node ≡ true → is_legal branches budget state (claim seat node) ≡ true
  unfolding is_legal
  claim_legal budget seat node undecided few idle best = rw (undecided, lt-ltb (length state.committed + length state.held) budget few, idle, best) refl

  claim_shape : (seat node : ℕ) → (after branches state (claim seat node)).shape ≡ state.shape
  unfolding after
  claim_shape seat node = refl

  claim_nodes : (seat node : ℕ) → (after branches state (claim seat node)).nodes ≡ state.nodes
  unfolding after
  claim_nodes seat node = refl

  claim_held : (seat node : ℕ) → (after branches state (claim seat node)).held ≡ (seat, node) ∷ state.held
  unfolding after
  claim_held seat node = refl

  claim_committed : (seat node : ℕ) → (after branches state (claim seat node)).committed ≡ state.committed
  unfolding after
  claim_committed seat node = refl

  told_after_claim : (seat node : ℕ) (holdings : List Holding) → All (λ holding. IsEntryOf state holding.entry) holdings → All (λ holding. IsEntryOf (after branches state (claim seat node)) holding.entry) holdings
  unfolding after
  told_after_claim seat node holdings all k d l = let e = all k d l in record { content = e.content; there = e.there; priority = e.priority; depth = e.depth }

module _ {P S N : Type 0} (branches : S → List (ℕ × List S)) (seen : N → S) (own : N → Type 0) where
  -- the parts that a state shows in, and the room for what is held
  pub record SameParts (old new : Tree P N S) : Type 0 where
    pub root : new.root ≡ old.root
    pub others : new.others.items ≡ old.others.items
    pub shape : new.shape.shape ≡ old.shape.shape
    pub marks : new.marks.marks ≡ old.marks.marks
    pub commits : new.commits ≡ old.commits
    pub budget : new.budget ≡ old.budget

  pub contents_kept : (old new : Tree P N S) → SameParts old new → map seen (contents_of branches seen own new) ≡ map seen (contents_of branches seen own old)
  contents_kept old new same = ap (λ n. seen n ∷ map seen new.others.items) same.root ∙ ap (λ ns. seen old.root ∷ map seen ns) same.others

  pub own_kept : (old new : Tree P N S) → SameParts old new → All own (contents_of branches seen own old) → All own (contents_of branches seen own new)
  own_kept old new same all = subst (λ n. All own (n ∷ new.others.items)) (sym same.root) (subst (λ ns. All own (old.root ∷ ns)) (sym same.others) all)

  state_kept : (old new : Tree P N S) → SameParts old new → new.journal.events ≡ old.journal.events → state_of_tree branches seen own new ≡ state_of_tree branches seen own old
  state_kept old new same events = ap (λ r. state_of branches (seen r) new.journal.events) same.root ∙ ap (state_of branches (seen old.root)) events

  pub state_next : (old new : Tree P N S) (event : TreeEvent) → SameParts old new → new.journal.events ≡ old.journal.events ++ event ∷ [] → state_of_tree branches seen own new ≡ after branches (state_of_tree branches seen own old) event
  state_next old new event same events = ap (λ r. state_of branches (seen r) new.journal.events) same.root ∙ (ap (state_of branches (seen old.root)) events ∙ state_from-append branches (start (seen old.root)) old.journal.events event)

  pub run_next : (old new : Tree P N S) (event : TreeEvent) → SameParts old new → new.journal.events ≡ old.journal.events ++ event ∷ [] → is_run branches old.budget (seen old.root) old.journal.events ≡ true →
      is_legal branches old.budget (state_of_tree branches seen own old) event ≡ true → is_run branches new.budget (seen new.root) new.journal.events ≡ true
  run_next old new event same events run legal =
      rw (same.root, same.budget, events) (is_run_from-append branches old.budget (start (seen old.root)) old.journal.events event ∙ and_from _ _ run legal)

  -- neither an event nor a holding was added
  pub stays : (old new : Tree P N S) → SameParts old new → new.journal.events ≡ old.journal.events → new.held.items ≡ old.held.items → IsTree branches seen own old →
      IsQueueOf (state_of_tree branches seen own old).shape new.queue.entries → FitsQueue (state_of_tree branches seen own old) new.queue.entries →
      length old.held.items ≤ new.queue.spare → length old.held.items ≤ new.journal.spare → IsTree branches seen own new
  stays old new same events held tree ordered fits queue_room journal_room = record {
    run = rw (same.root, same.budget, events) tree.run;
    shows = subst (λ s. Shows branches seen own s new) (sym (state_kept old new same events)) (record {
      regular = subst (IsRegular (state_of_tree branches seen own old)) (sym same.budget) tree.shows.regular;
      shape = same.shape ∙ tree.shows.shape;
      marks = subst (Settled (state_of_tree branches seen own old).shape) (sym same.marks) tree.shows.marks;
      contents = contents_kept old new same ∙ tree.shows.contents;
      own_nodes = own_kept old new same tree.shows.own_nodes;
      held = ap (map (λ holding. (holding.seat, holding.entry.node))) held ∙ tree.shows.held;
      told = subst (All (λ holding. IsEntryOf (state_of_tree branches seen own old) holding.entry)) (sym held) tree.shows.told;
      commits = same.commits ∙ tree.shows.commits;
      ordered = ordered;
      fits = fits;
      queue_room = omega (arith, ap length held, queue_room);
      journal_room = omega (arith, ap length held, journal_room);
    });
  }

  -- a seat that held nothing took the best node
  pub claimed : (old new : Tree P N S) (seat : ℕ) (entry : Entry) → SameParts old new → IsTree branches seen own old →
      is_decided (state_of_tree branches seen own old).shape 0 ≡ false →
      length (state_of_tree branches seen own old).committed + length (state_of_tree branches seen own old).held < old.budget →
      is_busy (state_of_tree branches seen own old) seat ≡ false →
      slice_get old.queue.entries 0 ≡ Some entry → is_relevant (state_of_tree branches seen own old).shape entry.node ≡ true → IsBestOf (state_of_tree branches seen own old).shape old.queue.entries entry →
      new.journal.events ≡ old.journal.events ++ claim seat entry.node ∷ [] → new.held.items ≡ record { seat = seat; entry = entry } ∷ old.held.items →
      IsQueueOf (state_of_tree branches seen own old).shape new.queue.entries → IsPermutation old.queue.entries (entry ∷ new.queue.entries) →
      length old.held.items + 1 ≤ new.queue.spare → length old.held.items + 1 ≤ new.journal.spare → IsTree branches seen own new
  claimed old new seat entry same tree undecided few idle first relevant best events held ordered taken queue_room journal_room = record {
    run = run_next old new (claim seat entry.node) same events tree.run (claim_legal branches (state_of_tree branches seen own old) old.budget seat entry.node undecided few idle best_now);
    shows = subst (λ s. Shows branches seen own s new) (sym (state_next old new (claim seat entry.node) same events)) (record {
      regular = subst (IsRegular (after branches (state_of_tree branches seen own old) (claim seat entry.node))) (sym same.budget) (regular_claimed branches (state_of_tree branches seen own old) old.budget tree.shows.regular seat entry.node idle open_now few);
      shape = same.shape ∙ (tree.shows.shape ∙ sym (claim_shape branches (state_of_tree branches seen own old) seat entry.node));
      marks = subst (λ s. Settled s new.marks.marks) (sym (claim_shape branches (state_of_tree branches seen own old) seat entry.node)) (subst (Settled (state_of_tree branches seen own old).shape) (sym same.marks) tree.shows.marks);
      contents = contents_kept old new same ∙ (tree.shows.contents ∙ ap (map (λ node. node.seen)) (sym (claim_nodes branches (state_of_tree branches seen own old) seat entry.node)));
      own_nodes = own_kept old new same tree.shows.own_nodes;
      held = ap (map (λ holding. (holding.seat, holding.entry.node))) held ∙ (ap (λ hs. (seat, entry.node) ∷ hs) tree.shows.held ∙ sym (claim_held branches (state_of_tree branches seen own old) seat entry.node));
      told = subst (All (λ holding. IsEntryOf (after branches (state_of_tree branches seen own old) (claim seat entry.node)) holding.entry)) (sym held)
          (told_after_claim branches (state_of_tree branches seen own old) seat entry.node (record { seat = seat; entry = entry } ∷ old.held.items) (All-cons (λ holding. IsEntryOf (state_of_tree branches seen own old) holding.entry) (record { seat = seat; entry = entry }) old.held.items described tree.shows.told));
      commits = same.commits ∙ (tree.shows.commits ∙ ap length (sym (claim_committed branches (state_of_tree branches seen own old) seat entry.node)));
      ordered = subst (λ s. IsQueueOf s new.queue.entries) (sym (claim_shape branches (state_of_tree branches seen own old) seat entry.node)) ordered;
      fits = fits_claimed branches (state_of_tree branches seen own old) seat entry old.queue.entries new.queue.entries tree.shows.fits taken;
      queue_room = omega (arith, ap length held, queue_room);
      journal_room = omega (arith, ap length held, journal_room);
    });
  }
    where
      best_now : is_best (state_of_tree branches seen own old) entry.node ≡ true
      best_now = best_is_best (state_of_tree branches seen own old) old.budget tree.shows.regular old.queue.entries tree.shows.fits entry first relevant best

      open_now : is_open (state_of_tree branches seen own old) entry.node ≡ true
      open_now = best_open (state_of_tree branches seen own old) old.budget tree.shows.regular old.queue.entries tree.shows.fits entry first relevant best

      described : IsEntryOf (state_of_tree branches seen own old) entry
      described = best_described (state_of_tree branches seen own old) old.budget tree.shows.regular old.queue.entries tree.shows.fits entry first relevant best
