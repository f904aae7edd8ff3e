-- What seats hold, and a tree after a release.
use Rattle.std.proofs.Common.{◌≡◌, ℕ, ◌+◌, ◌≤◌, Bool, true, false, not, ◌==◌, ◌&&◌, List, [], ◌∷◌, ◌++◌, map, length, All, IsPermutation, refl, sym, ap, subst, ◌∙◌, arith}
use mathlib.Core.Logic.{⊎_elim, ◌⊎◌}
use Rattle.std.specs.List.{list_any, Contains, filter}
use Rattle.std.proofs.lemmas.Bool.{and_parts, or_left, or_right, or_cases}
use Rattle.std.proofs.lemmas.List.{length-map, get_or-map}
use Rattle.std.proofs.lemmas.List.Elements.{All-head, All-tail, All-cons, All-contains}
use Rattle.tree_runs.specs.Shapes.{TreeShape}
use Rattle.tree_runs.specs.States.{TreeState, after, release, without_seat}
use Rattle.tree_runs.specs.Runs.{is_holding, is_legal}
use Rattle.tree_marks.specs.TreeMarks.{Settled}
use Rattle.tree_queue.specs.declared.entry.Entry.{Entry}
use Rattle.std.proofs.lemmas.Option.{slice_get_within}
use Rattle.tree_queue.specs.Orders.{IsPlaced}
use Rattle.tree_queue.specs.Queues.{IsQueueOf}
use Rattle.tree_steps.specs.declared.tree.Tree.{Tree}
use Rattle.tree_steps.specs.declared.tree.Holding.{Holding}
use Rattle.tree_steps.specs.Trees.{IsRegular, IsEntryOf, Shows, IsTree, state_of_tree}
use Rattle.tree_steps.proofs.BestEntries.{same_number}
use Rattle.tree_steps.proofs.Regular.{Contains-first_or, regular_released}
use Rattle.tree_steps.proofs.Releases.{fits_released}
use Rattle.tree_runs.proofs.Soundness.{runs_are_sound}
use Rattle.tree_steps.proofs.SoundRuns.{holding_of}
use Rattle.tree_steps.proofs.Steps.{SameParts, state_next, run_next, contents_kept, own_kept}

abbrev pub pair_of : Holding → ℕ × ℕ
pair_of holding = (holding.seat, holding.entry.node)

-- what is left of the holdings, as pairs
pub pairs_left : (seat : ℕ) (holdings : List Holding) → map pair_of (filter (λ holding. not (holding.seat == seat)) holdings) ≡ without_seat seat (map pair_of holdings)
pairs_left seat [] = refl
pairs_left seat (holding ∷ holdings) = go (holding.seat == seat) refl (pairs_left seat holdings)
  where
    go : (v : Bool) → (holding.seat == seat) ≡ v → map pair_of (filter (λ h. not (h.seat == seat)) holdings) ≡ without_seat seat (map pair_of holdings) →
        map pair_of (filter (λ h. not (h.seat == seat)) (holding ∷ holdings)) ≡ without_seat seat (map pair_of (holding ∷ holdings))
    go true e rest = rw e rest
    go false e rest = rw e (ap (λ ps. pair_of holding ∷ ps) rest)

pub All-filter : {X : Type 0} (P : X → Type 0) (test : X → Bool) (xs : List X) → All P xs → All P (filter test xs)
All-filter P test [] all = all
All-filter {X = X} P test (x ∷ xs) all = go (test x) refl (All-filter P test xs (All-tail P x xs all))
  where
    go : (v : Bool) → test x ≡ v → All P (filter test xs) → All P (filter test (x ∷ xs))
    go true e rest = subst (All P) (let same : x ∷ filter test xs ≡ filter test (x ∷ xs) = rw e refl in same) (All-cons P x (filter test xs) (All-head P x xs all) rest)
    go false e rest = subst (All P) (let same : filter test xs ≡ filter test (x ∷ xs) = rw e refl in same) rest

length-filter_le : {X : Type 0} (test : X → Bool) (xs : List X) → length (filter test xs) ≤ length xs
length-filter_le test [] = omega arith
length-filter_le test (x ∷ xs) = go (test x) refl (length-filter_le test xs)
  where
    go : (v : Bool) → test x ≡ v → length (filter test xs) ≤ length xs → length (filter test (x ∷ xs)) ≤ length (x ∷ xs)
    go true e rest = rw e (omega (arith, rest))
    go false e rest = rw e (omega (arith, rest))

-- one that fails the test goes
fewer : {X : Type 0} (test : X → Bool) (y : X) (xs : List X) → test y ≡ false → Contains xs y → length (filter test xs) + 1 ≤ length xs
fewer test y [] h c = absurd (let l = c.1 in omega (arith, l))
fewer {X = X} test y (x ∷ xs) h c = go (test x) refl (λ later. fewer test y xs h later) (Contains-first_or x y xs c)
  where
    go : (v : Bool) → test x ≡ v → (Contains xs y → length (filter test xs) + 1 ≤ length xs) → (x ≡ y) ⊎ Contains xs y → length (filter test (x ∷ xs)) + 1 ≤ length (x ∷ xs)
    go true e later w = rw e (⊎_elim (λ same. absurd (let both : true ≡ false = sym e ∙ (ap test same ∙ h) in cc)) (λ c. let l = later c in omega (arith, l)) w)
    go false e later w = rw e (let l = length-filter_le test xs in omega (arith, l))

Contains-map : {A B : Type 0} (f : A → B) (x : A) (xs : List A) → Contains xs x → Contains (map f xs) (f x)
Contains-map f x xs c = (c.0, (let l = c.1 in omega (arith, l, length-map xs f)), get_or-map f xs c.0 x (f x) c.1 ∙ ap f c.2)

module _ {S : Type 0} (branches : S → List (ℕ × List S)) (state : TreeState S) where
  release_legal : (budget seat node : ℕ) → is_holding state seat node ≡ true → is_legal branches budget state (release seat node) ≡ true
  unfolding is_legal
  release_legal budget seat node h = h

  release_shape : (seat node : ℕ) → (after branches state (release seat node)).shape ≡ state.shape
  unfolding after
  release_shape seat node = refl

  release_nodes : (seat node : ℕ) → (after branches state (release seat node)).nodes ≡ state.nodes
  unfolding after
  release_nodes seat node = refl

  release_held : (seat node : ℕ) → (after branches state (release seat node)).held ≡ without_seat seat state.held
  unfolding after
  release_held seat node = refl

  release_committed : (seat node : ℕ) → (after branches state (release seat node)).committed ≡ state.committed
  unfolding after
  release_committed seat node = refl

  told_after_release : (seat node : ℕ) (holdings : List Holding) → All (λ holding. IsEntryOf state holding.entry) holdings → All (λ holding. IsEntryOf (after branches state (release seat node)) holding.entry) holdings
  unfolding after
  told_after_release seat node holdings all k d l = let e = all k d l in record { content = e.content; there = e.there; priority = e.priority; depth = e.depth }

module _ {P S N : Type 0} (branches : S → List (ℕ × List S)) (seen : N → S) (own : N → Type 0) (old : Tree P N S) (tree : IsTree branches seen own old) (seat node : ℕ) (entry : Entry)
    (there : Contains old.held.items (record { seat = seat; entry = entry })) (holds : is_holding (state_of_tree branches seen own old) seat node ≡ true) where
  pub in_state : Contains (state_of_tree branches seen own old).held (seat, entry.node)
  in_state = subst (λ ps. Contains ps (seat, entry.node)) tree.shows.held (Contains-map pair_of (record { seat = seat; entry = entry }) old.held.items there)

  -- the entry is of the node that the seat holds
  pub entry_is_of : entry.node ≡ node
  entry_is_of =
      let state = state_of_tree branches seen own old in
      let sound = runs_are_sound branches (seen old.root) old.budget old.journal.events tree.run in
      sound.one_node seat entry.node node (holding_of branches (seen old.root) old.budget state seat entry.node in_state) holds

  pub entry_told : IsEntryOf (state_of_tree branches seen own old) entry
  entry_told = All-contains (λ holding. IsEntryOf (state_of_tree branches seen own old) holding.entry) old.held.items (record { seat = seat; entry = entry }) tree.shows.told there

  pub fewer_held : length (filter (λ holding. not (holding.seat == seat)) old.held.items) + 1 ≤ length old.held.items
  fewer_held = fewer (λ holding. not (holding.seat == seat)) (record { seat = seat; entry = entry }) old.held.items (rw (same_number seat) refl) there

  pub released : (new : Tree P N S) → SameParts branches seen own old new → new.journal.events ≡ old.journal.events ++ release seat node ∷ [] → new.held.items ≡ filter (λ holding. not (holding.seat == seat)) old.held.items →
      IsQueueOf old.shape.shape new.queue.entries → IsPermutation (entry ∷ old.queue.entries) new.queue.entries → new.queue.spare + 1 ≡ old.queue.spare → new.journal.spare + 1 ≡ old.journal.spare → IsTree branches seen own new
  released new same events held ordered put queue_room journal_room =
      let state = state_of_tree branches seen own old in
      let next = after branches state (release seat node) in
      let holding = subst (λ n. Contains state.held (seat, n)) entry_is_of in_state in
      let less = fewer_held in
      record {
        run = run_next branches seen own old new (release seat node) same events tree.run (release_legal branches state old.budget seat node holds);
        shows = subst (λ s. Shows branches seen own s new) (sym (state_next branches seen own old new (release seat node) same events)) (record {
          regular = subst (IsRegular next) (sym same.budget) (regular_released branches state old.budget tree.shows.regular seat node);
          shape = same.shape ∙ (tree.shows.shape ∙ sym (release_shape branches state seat node));
          marks = subst (λ s. Settled s new.marks.marks) (sym (release_shape branches state seat node)) (subst (Settled state.shape) (sym same.marks) tree.shows.marks);
          contents = contents_kept branches seen own old new same ∙ (tree.shows.contents ∙ ap (map (λ n. n.seen)) (sym (release_nodes branches state seat node)));
          own_nodes = own_kept branches seen own old new same tree.shows.own_nodes;
          held = ap (map pair_of) held ∙ (pairs_left seat old.held.items ∙ (ap (without_seat seat) tree.shows.held ∙ sym (release_held branches state seat node)));
          told = subst (All (λ h. IsEntryOf next h.entry)) (sym held) (told_after_release branches state seat node (filter (λ h. not (h.seat == seat)) old.held.items) (All-filter (λ h. IsEntryOf state h.entry) (λ h. not (h.seat == seat)) old.held.items tree.shows.told));
          commits = same.commits ∙ (tree.shows.commits ∙ ap length (sym (release_committed branches state seat node)));
          ordered = subst (λ s. IsQueueOf s new.queue.entries) (tree.shows.shape ∙ sym (release_shape branches state seat node)) ordered;
          fits = fits_released state old.budget tree.shows.regular seat node holding branches entry old.queue.entries new.queue.entries tree.shows.fits entry_told entry_is_of put;
          queue_room = omega (arith, ap length held, less, queue_room, tree.shows.queue_room);
          journal_room = omega (arith, ap length held, less, journal_room, tree.shows.journal_room);
        });
      }

-- a seat that holds a node has an entry
pub some_there : (seat node : ℕ) (holdings : List Holding) → list_any (λ pair. pair.0 == seat && pair.1 == node) (map pair_of holdings) ≡ true → list_any (λ holding. holding.seat == seat) holdings ≡ true
some_there seat node [] h = cc
some_there seat node (holding ∷ holdings) h = ⊎_elim
    (λ e. or_left (holding.seat == seat) _ (and_parts (holding.seat == seat) (holding.entry.node == node) e).0)
    (λ e. or_right (holding.seat == seat) _ (some_there seat node holdings e))
    (or_cases (holding.seat == seat && holding.entry.node == node) _ h)

-- an entry that tells of a node is placed
pub placed_of : {S : Type 0} (state : TreeState S) (budget : ℕ) (regular : IsRegular state budget) (shape : TreeShape) → shape ≡ state.shape → (entry : Entry) → IsEntryOf state entry → IsPlaced shape entry
placed_of state budget regular shape e entry told = subst (λ s. IsPlaced s entry) (sym e) (record {
  stands = (let l = slice_get_within state.nodes entry.node told.content told.there in omega (arith, l, regular.sizes));
  depth = told.depth ∙ ap length (regular.addresses entry.node told.content told.there);
})
