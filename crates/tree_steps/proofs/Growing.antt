-- The parts of a tree while a commit grows them.
use Rattle.std.proofs.Common.{◌≡◌, ℕ, zero, suc, ◌+◌, ◌<◌, ◌≤◌, true, not, ◌==◌, List, [], ◌∷◌, ◌++◌, map, length, sum, Option, Some, None, All, IsPermutation, refl, sym, ap, subst, ◌∙◌, arith, slice_get, slice_index_or, length-append}
use Rattle.std.specs.List.{Contains, filter}
use Rattle.std.specs.Option.{option_map}
use Rattle.std.proofs.lemmas.List.{length-map}
use Rattle.std.proofs.lemmas.List.Elements.{All-head, All-tail, All-append, All-nil, All-cons}
use Rattle.std.proofs.lemmas.List.Sorted.{IsPermutation-append_comm, IsPermutation-trans}
use Rattle.std.proofs.lemmas.Option.{slice_get_within}
use Rattle.tree_runs.specs.Shapes.{TreeShape, nodes_count, above_at, alternatives_at, grown_above, grow, IsShape}
use Rattle.tree_runs.specs.Addresses.{address_from, address_of}
use Rattle.tree_runs.specs.States.{TreeNode, TreeState, state_of, after, after_commit, commit, branch_nodes, counts_of}
use Rattle.tree_runs.specs.Runs.{is_holding}
use Rattle.tree_runs.proofs.Shapes.{length-grown_above}
use Rattle.tree_runs.proofs.Addresses.{address_of-grow}
use Rattle.tree_runs.proofs.Soundness.{runs_are_sound, after_sound}
use Rattle.tree_marks.specs.TreeMarks.{Settled}
use Rattle.tree_queue.specs.declared.entry.Entry.{Entry}
use Rattle.tree_queue.specs.Heaps.{parent}
use Rattle.tree_queue.specs.Orders.{is_ahead, IsPlaced}
use Rattle.tree_queue.specs.Queues.{IsQueueOf}
use Rattle.tree_queue.proofs.AddressLemmas.{Some_inj}
use Rattle.tree_steps.specs.declared.branches.Branch.{Branch}
use Rattle.tree_steps.specs.declared.tree.Tree.{Tree}
use Rattle.tree_steps.specs.Seen.{branch_seen}
use Rattle.tree_steps.specs.Children.{children_of, nodes_made, widths}
use Rattle.tree_steps.specs.Trees.{IsRegular, IsEntryOf, FitsQueue, IsTree, state_of_tree, entries_from}
use Rattle.tree_steps.proofs.ChildEntries.{child_entries, made_seen}
use Rattle.tree_steps.proofs.Commits.{entries_tell}
use Rattle.tree_steps.proofs.Committed.{commit_legal, commit_state, committed}
use Rattle.tree_steps.proofs.Holdings.{entry_told, entry_is_of, in_state, placed_of}
use Rattle.tree_steps.proofs.SoundRuns.{regular_of_sound}
use Rattle.tree_steps.proofs.Steps.{SameParts, stays}

low_from : (shape : TreeShape) (height : ℕ) (way : Option (ℕ × ℕ × ℕ)) → length (address_from shape height way) ≤ height
low_from shape height None = omega arith
low_from shape zero (Some way) = omega arith
low_from shape (suc height) (Some way) = omega (arith, length-append (address_from shape height (above_at shape way.0)) ((way.1, way.2) ∷ []), low_from shape height (above_at shape way.0))

-- an address is no longer than its node's number
pub address_low : (shape : TreeShape) (node : ℕ) → length (address_of shape node) ≤ node
unfolding address_of
address_low shape node = low_from shape node (above_at shape node)

pub count_grown : (shape : TreeShape) (node : ℕ) (counts : List ℕ) → nodes_count (grow shape node counts) ≡ nodes_count shape + sum counts
unfolding grow
count_grown shape node counts = length-append shape.above (grown_above node 0 counts) ∙ ap (λ n. nodes_count shape + n) (length-grown_above node 0 counts)

-- a queue of a shape is one of the grown shape
module _ (shape : TreeShape) (node : ℕ) (counts : List ℕ) (is_shape : IsShape shape) (stands : node < nodes_count shape) (ungrown : alternatives_at shape node ≡ None) where
  ahead_kept : (a b : Entry) → a.node < nodes_count shape → b.node < nodes_count shape → is_ahead (grow shape node counts) a b ≡ is_ahead shape a b
  ahead_kept a b la lb = rw (address_of-grow shape node counts is_shape stands ungrown a.node la, address_of-grow shape node counts is_shape stands ungrown b.node lb) refl

  pub queue_grown : (entries : List Entry) → IsQueueOf shape entries → IsQueueOf (grow shape node counts) entries
  queue_grown entries queue = record {
    placed = λ k d l.
        let p = queue.placed k d l in
        record {
          stands = omega (arith, p.stands, count_grown shape node counts);
          depth = p.depth ∙ ap length (sym (address_of-grow shape node counts is_shape stands ungrown (slice_index_or entries k d).node p.stands));
        };
    heap = λ j d low high.
        ahead_kept (slice_index_or entries j d) (slice_index_or entries (parent j) d) (queue.placed j d high).stands (queue.placed (parent j) d (omega (arith, low, high))).stands ∙ queue.heap j d low high;
  }

module _ {S N : Type 0} (seen : N → S) where
  counts_seen : (bs : List (Branch N)) → widths bs ≡ counts_of (map (branch_seen seen) bs)
  counts_seen [] = refl
  counts_seen (b ∷ bs) = ap (λ n. n ∷ widths bs) (sym (length-map b.nodes.items seen)) ∙ ap (λ ns. length (map seen b.nodes.items) ∷ ns) (counts_seen bs)

  percents_seen : (bs : List (Branch N)) → All (λ branch. branch.0 ≤ 100) (map (branch_seen seen) bs) → All (λ branch. branch.percent ≤ 100) bs
  percents_seen [] all = All-nil (λ branch. branch.percent ≤ 100)
  percents_seen (b ∷ bs) all = All-cons (λ branch. branch.percent ≤ 100) b bs
      (All-head (λ branch. branch.0 ≤ 100) (branch_seen seen b) (map (branch_seen seen) bs) all)
      (percents_seen bs (All-tail (λ branch. branch.0 ≤ 100) (branch_seen seen b) (map (branch_seen seen) bs) all))

own_made : {N : Type 0} (own : N → Type 0) (bs : List (Branch N)) → All (λ branch. All own branch.nodes.items) bs → All own (nodes_made bs)
own_made own [] all = All-nil own
own_made own (b ∷ bs) all = All-append own b.nodes.items (nodes_made bs) (All-head (λ branch. All own branch.nodes.items) b bs all) (own_made own bs (All-tail (λ branch. All own branch.nodes.items) b bs all))

-- a seat holds a node, and these are the node's branches
module _ {P S N : Type 0} (branches : S → List (ℕ × List S)) (seen : N → S) (own : N → Type 0) (old : Tree P N S) (tree : IsTree branches seen own old) (seat node : ℕ) (entry : Entry)
    (there : Contains old.held.items (record { seat = seat; entry = entry })) (holds : is_holding (state_of_tree branches seen own old) seat node ≡ true) (made : List (Branch N))
    (are : Some (map (branch_seen seen) made) ≡ option_map (λ n. branches n.seen) (slice_get (state_of_tree branches seen own old).nodes node)) where
  abbrev state : TreeState S
  state = state_of_tree branches seen own old

  abbrev told : IsEntryOf state entry
  told = entry_told branches seen own old tree seat node entry there holds

  abbrev kids : List (TreeNode S)
  kids = branch_nodes told.content 0 (branches told.content.seen)

  abbrev next : TreeState S
  next = after_commit branches state seat node (Some told.content)

  at_node : slice_get state.nodes node ≡ Some told.content
  at_node = subst (λ n. slice_get state.nodes n ≡ Some told.content) (entry_is_of branches seen own old tree seat node entry there holds) told.there

  made_is : map (branch_seen seen) made ≡ branches told.content.seen
  made_is = Some_inj _ _ (are ∙ ap (option_map (λ n. branches n.seen)) at_node)

  counts_is : widths made ≡ counts_of (branches told.content.seen)
  counts_is = counts_seen seen made ∙ ap counts_of made_is

  in_nodes : node < length state.nodes
  in_nodes = slice_get_within state.nodes node told.content at_node

  pub stands : node < nodes_count old.shape.shape
  stands = omega (arith, in_nodes, tree.shows.regular.sizes, ap nodes_count tree.shows.shape)

  pub ungrown : alternatives_at old.shape.shape node ≡ None
  ungrown =
      let holding = subst (λ n. Contains state.held (seat, n)) (entry_is_of branches seen own old tree seat node entry there holds) (in_state branches seen own old tree seat node entry there holds) in
      subst (λ s. alternatives_at s node ≡ None) (sym tree.shows.shape) (tree.shows.regular.ungrown node in_nodes (tree.shows.regular.held_uncommitted seat node holding))

  pub settled_before : Settled old.shape.shape old.marks.marks
  settled_before = subst (λ s. Settled s old.marks.marks) (sym tree.shows.shape) tree.shows.marks

  pub queue_now : (shape : TreeShape) → shape ≡ grow old.shape.shape node (widths made) → IsQueueOf shape old.queue.entries
  queue_now shape e = subst (λ s. IsQueueOf s old.queue.entries) (sym e)
      (queue_grown old.shape.shape node (widths made) settled_before.is_shape stands ungrown old.queue.entries (subst (λ s. IsQueueOf s old.queue.entries) (sym tree.shows.shape) tree.shows.ordered))

  -- so the next depth is a number
  pub depth_low : entry.depth + 1 ≤ nodes_count old.shape.shape
  depth_low =
      let depth = told.depth ∙ ap length (tree.shows.regular.addresses entry.node told.content told.there) in
      omega (arith, depth, address_low state.shape entry.node, slice_get_within state.nodes entry.node told.content told.there, tree.shows.regular.sizes, ap nodes_count tree.shows.shape)

  pub percents : ((s : S) → All (λ branch. branch.0 ≤ 100) (branches s)) → All (λ branch. branch.percent ≤ 100) made
  percents law = percents_seen seen made (subst (All (λ branch. branch.0 ≤ 100)) (sym made_is) (law told.content.seen))

  regular_next : IsRegular next old.budget
  regular_next =
      let counts = counts_of (branches told.content.seen) in
      let sound = runs_are_sound branches (seen old.root) old.budget old.journal.events tree.run in
      let after_it = after_sound branches (seen old.root) old.budget state (commit seat node counts) sound (commit_legal branches state seat node told.content at_node old.budget holds) in
      subst (λ s. IsRegular s old.budget) (commit_state branches state seat node told.content at_node counts) (regular_of_sound branches (seen old.root) old.budget (after branches state (commit seat node counts)) after_it)

  next_shape : (shape : TreeShape) → shape ≡ grow old.shape.shape node (widths made) → shape ≡ next.shape
  next_shape shape e = e ∙ (ap (λ s. grow s node (widths made)) tree.shows.shape ∙ ap (grow state.shape node) counts_is)

  entries_are : (first : ℕ) → first ≡ nodes_count old.shape.shape → entries_from (length state.nodes) kids ≡ children_of first entry.depth entry.priority made
  entries_are first f =
      let number : length state.nodes ≡ first = tree.shows.regular.sizes ∙ (ap nodes_count (sym tree.shows.shape) ∙ sym f) in
      ap (λ bs. entries_from (length state.nodes) (branch_nodes told.content 0 bs)) (sym made_is) ∙
      (child_entries seen told.content (length state.nodes) 0 made ∙
      (ap (λ n. children_of n (length told.content.address) told.content.priority made) number ∙
      (ap (λ d. children_of first d told.content.priority made) (sym told.depth) ∙ ap (λ p. children_of first entry.depth p made) (sym told.priority))))

  pub children_placed : (shape : TreeShape) → shape ≡ grow old.shape.shape node (widths made) → (first : ℕ) → first ≡ nodes_count old.shape.shape → All (IsPlaced shape) (children_of first entry.depth entry.priority made)
  children_placed shape e first f = subst (All (IsPlaced shape)) (entries_are first f)
      (λ k d l. placed_of next old.budget regular_next shape (next_shape shape e) (slice_index_or (entries_from (length state.nodes) kids) k d) (entries_tell next state.nodes kids refl k d l))

  -- what the parts are once all is done
  pub record Done (new : Tree P N S) : Type 0 where
    pub root : new.root ≡ old.root
    pub budget : new.budget ≡ old.budget
    pub commits : new.commits ≡ old.commits + 1
    pub events : new.journal.events ≡ old.journal.events ++ commit seat node (widths made) ∷ []
    pub held : new.held.items ≡ filter (λ holding. not (holding.seat == seat)) old.held.items
    pub shape : new.shape.shape ≡ grow old.shape.shape node (widths made)
    pub marks : Settled new.shape.shape new.marks.marks
    pub others : new.others.items ≡ old.others.items ++ nodes_made made
    pub made_own : All (λ branch. All own branch.nodes.items) made
    pub ordered : IsQueueOf new.shape.shape new.queue.entries
    pub first : ℕ
    pub first_is : first ≡ nodes_count old.shape.shape
    pub put : IsPermutation (old.queue.entries ++ children_of first entry.depth entry.priority made) new.queue.entries
    pub queue_room : length old.held.items ≤ new.queue.spare + 1
    pub journal_room : new.journal.spare + 1 ≡ old.journal.spare

  pub is_tree_after : (new : Tree P N S) → Done new → IsTree branches seen own new
  is_tree_after new done =
      let fresh = entries_from (length state.nodes) kids in
      let put : IsPermutation (old.queue.entries ++ fresh) new.queue.entries = subst (λ es. IsPermutation (old.queue.entries ++ es) new.queue.entries) (sym (entries_are done.first done.first_is)) done.put in
      committed branches seen own old new tree seat node entry there holds told.content at_node (nodes_made made) (record {
        root = done.root;
        budget = done.budget;
        commits = done.commits;
        events = done.events ∙ ap (λ cs. old.journal.events ++ commit seat node cs ∷ []) counts_is;
        held = done.held;
        shape = done.shape ∙ ap (grow old.shape.shape node) counts_is;
        marks = done.marks;
        others = done.others;
        more_seen = made_seen seen told.content 0 made ∙ ap (λ bs. map (λ n. n.seen) (branch_nodes told.content 0 bs)) made_is;
        more_own = own_made own made done.made_own;
        ordered = done.ordered;
        put = IsPermutation-trans (fresh ++ old.queue.entries) (old.queue.entries ++ fresh) new.queue.entries (IsPermutation-append_comm fresh old.queue.entries) put;
        queue_room = done.queue_room;
        journal_room = done.journal_room;
      })

-- only the room grew
pub roomier : {P S N : Type 0} (branches : S → List (ℕ × List S)) (seen : N → S) (own : N → Type 0) (old new : Tree P N S) → SameParts branches seen own old new → new.journal.events ≡ old.journal.events →
    new.held.items ≡ old.held.items → new.queue.entries ≡ old.queue.entries → old.queue.spare ≤ new.queue.spare → old.journal.spare ≤ new.journal.spare → IsTree branches seen own old → IsTree branches seen own new
roomier branches seen own old new same events held entries queue_room journal_room tree =
    stays branches seen own old new same events held tree
    (subst (λ es. IsQueueOf (state_of_tree branches seen own old).shape es) (sym entries) tree.shows.ordered)
    (subst (λ es. FitsQueue (state_of_tree branches seen own old) es) (sym entries) tree.shows.fits)
    (omega (arith, queue_room, tree.shows.queue_room))
    (omega (arith, journal_room, tree.shows.journal_room))

-- the same journal from the same root leads to the same state
pub same_state : {P S N : Type 0} (branches : S → List (ℕ × List S)) (seen : N → S) (own : N → Type 0) (old new : Tree P N S) → new.root ≡ old.root → new.journal.events ≡ old.journal.events →
    state_of_tree branches seen own new ≡ state_of_tree branches seen own old
same_state branches seen own old new root events = ap (λ r. state_of branches (seen r) new.journal.events) root ∙ ap (state_of branches (seen old.root)) events
