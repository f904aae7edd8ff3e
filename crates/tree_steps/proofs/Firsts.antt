-- The first entry of a tree's queue, and the tree after entries were dropped.
use Rattle.std.proofs.Common.{◌≡◌, ℕ, zero, suc, ◌+◌, ◌<◌, ◌≤◌, List, [], ◌∷◌, map, length, Some, refl, sym, ap, subst, ◌∙◌, arith, slice_get}
use Rattle.std.specs.Option.{option_map}
use Rattle.std.proofs.lemmas.List.{length-map}
use Rattle.std.proofs.lemmas.Option.{slice_get_within, get_or_from_slice_get}
use Rattle.tree_queue.specs.declared.entry.Entry.{Entry}
use Rattle.tree_queue.specs.Queues.{IsQueueOf, DropsIrrelevant}
use Rattle.tree_steps.specs.declared.tree.Tree.{Tree}
use Rattle.tree_steps.specs.Trees.{IsEntryOf, IsTree, state_of_tree, contents_of}
use Rattle.tree_steps.proofs.Claims.{fits_dropped}
use Rattle.tree_steps.proofs.Steps.{SameParts, stays}

slice_get-map : {A B : Type 0} (f : A → B) (xs : List A) (i : ℕ) → slice_get (map f xs) i ≡ option_map f (slice_get xs i)
slice_get-map f [] i = refl
slice_get-map f (x ∷ xs) zero = refl
slice_get-map f (x ∷ xs) (suc i) = slice_get-map f xs i

module _ {P S N : Type 0} (branches : S → List (ℕ × List S)) (seen : N → S) (own : N → Type 0) where
  -- entries of irrelevant nodes were dropped, and nothing else changed
  pub dropped : (old new : Tree P N S) → SameParts branches seen own old new → new.journal.events ≡ old.journal.events → new.held.items ≡ old.held.items → IsTree branches seen own old →
      DropsIrrelevant old.shape.shape old.queue.entries new.queue.entries → IsQueueOf old.shape.shape new.queue.entries → old.queue.spare ≤ new.queue.spare → old.journal.spare ≤ new.journal.spare → IsTree branches seen own new
  dropped old new same events held tree drops ordered queue_room journal_room =
      let state = state_of_tree branches seen own old in
      stays branches seen own old new same events held tree
      (subst (λ s. IsQueueOf s new.queue.entries) tree.shows.shape ordered)
      (fits_dropped state old.queue.entries new.queue.entries tree.shows.fits (subst (λ s. DropsIrrelevant s old.queue.entries new.queue.entries) tree.shows.shape drops))
      (omega (arith, queue_room, tree.shows.queue_room)) (omega (arith, journal_room, tree.shows.journal_room))

  module _ (tree : Tree P N S) (is_tree : IsTree branches seen own tree) (entry : Entry) (first : slice_get tree.queue.entries 0 ≡ Some entry) where
    pub first_described : IsEntryOf (state_of_tree branches seen own tree) entry
    first_described = subst (IsEntryOf (state_of_tree branches seen own tree)) (get_or_from_slice_get tree.queue.entries 0 entry entry first) (is_tree.shows.fits.described 0 entry (slice_get_within tree.queue.entries 0 entry first))

    -- its node has a content
    pub first_within : entry.node < length tree.others.items + 1
    first_within =
        let d = first_described in
        let l = slice_get_within (state_of_tree branches seen own tree).nodes entry.node d.content d.there in
        let same = ap length is_tree.shows.contents in
        omega (arith, l, same, length-map (contents_of branches seen own tree) seen, length-map (state_of_tree branches seen own tree).nodes (λ n. n.seen))

    pub first_own : (node : N) → Some node ≡ slice_get (contents_of branches seen own tree) entry.node → own node
    first_own node at_node = subst own (get_or_from_slice_get (contents_of branches seen own tree) entry.node node node (sym at_node)) (is_tree.shows.own_nodes entry.node node (let l = first_within in omega (arith, l)))

    pub first_seen : (node : N) → Some node ≡ slice_get (contents_of branches seen own tree) entry.node → Some (seen node) ≡ option_map (λ n. n.seen) (slice_get (state_of_tree branches seen own tree).nodes entry.node)
    first_seen node at_node =
        ap (option_map seen) at_node ∙ (sym (slice_get-map seen (contents_of branches seen own tree) entry.node) ∙
        (ap (λ ss. slice_get ss entry.node) is_tree.shows.contents ∙ slice_get-map (λ n. n.seen) (state_of_tree branches seen own tree).nodes entry.node))
