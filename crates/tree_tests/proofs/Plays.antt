-- A node that was just committed has an alternative for each branch.
use Rattle.std.proofs.Common.{◌≡◌, ℕ, suc, ◌+◌, ◌<◌, List, [], ◌∷◌, ◌++◌, length, Option, Some, None, slice_get, refl, ap, ◌∙◌, arith}
use Rattle.std.specs.Option.{option_map}
use Rattle.std.proofs.lemmas.List.{length-map}
use Rattle.tree_runs.specs.Shapes.{nodes_count, alternatives_at, grow, placed}
use Rattle.tree_runs.specs.States.{TreeEvent, TreeNode, TreeState, commit, after, after_commit, state_of, counts_of, start}
use Rattle.tree_runs.proofs.Journals.{state_from-append}
use Rattle.tree_runs.proofs.Shapes.{alternatives-grown}
use Rattle.tree_runs.proofs.Soundness.{runs_are_sound}
use Rattle.tree_shape.specs.Room.{HasAlternative}
use Rattle.tree_queue.proofs.AddressLemmas.{Some_inj}
use Rattle.tree_steps.specs.declared.tree.Tree.{Tree}
use Rattle.tree_steps.specs.declared.branches.Branches.{Branches}
use Rattle.tree_steps.specs.Seen.{branch_seen, branches_seen}
use Rattle.tree_steps.specs.Trees.{IsTree, state_of_tree, HoldsSeen}

module _ {S : Type 0} (branches : S → List (ℕ × List S)) where
  pub committed_shape : (state : TreeState S) (seat node : ℕ) (counts : List ℕ) (content : TreeNode S) → slice_get state.nodes node ≡ Some content →
      (after branches state (commit seat node counts)).shape ≡ grow state.shape node (counts_of (branches content.seen))
  unfolding after
  committed_shape state seat node counts content there = ap (λ o. (after_commit branches state seat node o).shape) there

length-counts_of : {S : Type 0} (branches : List (ℕ × List S)) → length (counts_of branches) ≡ length branches
length-counts_of [] = refl
length-counts_of (branch ∷ branches) = ap suc (length-counts_of branches)

length-placed : (next : ℕ) (counts : List ℕ) → length (placed next counts) ≡ length counts
length-placed next [] = refl
length-placed next (count ∷ counts) = ap suc (length-placed (next + count) counts)

module _ {P S N : Type 0} (branches : S → List (ℕ × List S)) (seen : N → S) (own : N → Type 0) (old new : Tree P N S) (root : new.root ≡ old.root) where
  pub next_state : (event : TreeEvent) → new.journal.events ≡ old.journal.events ++ event ∷ [] → state_of_tree branches seen own new ≡ after branches (state_of_tree branches seen own old) event
  next_state event events = ap (λ r. state_of branches (seen r) new.journal.events) root ∙ (ap (state_of branches (seen old.root)) events ∙ state_from-append branches (start (seen old.root)) old.journal.events event)

  -- a node that was just committed has an alternative for each of its branches
  pub has_alternatives : IsTree branches seen own old → IsTree branches seen own new → (seat node : ℕ) (counts : List ℕ) (content : S) → new.journal.events ≡ old.journal.events ++ commit seat node counts ∷ [] →
      HoldsSeen (state_of_tree branches seen own old) seat node content → (made : Branches N) → branches_seen seen made ≡ branches content →
      (alternative : ℕ) → alternative < length made.alternatives.items → HasAlternative new.shape.shape node alternative
  has_alternatives is_old is_new seat node counts content events holds made same alternative within = found (slice_get state.nodes node) refl holds.there
    where
      state : TreeState S
      state = state_of_tree branches seen own old

      found : (o : Option (TreeNode S)) → slice_get state.nodes node ≡ o → Some content ≡ option_map (λ n. n.seen) o → HasAlternative new.shape.shape node alternative
      found None e h = cc
      found (Some n) e h =
          let sound = runs_are_sound branches (seen old.root) old.budget old.journal.events is_old.run in
          let counts_made = counts_of (branches n.seen) in
          let shape_is = is_new.shows.shape ∙ (ap (λ s. s.shape) (next_state (commit seat node counts) events) ∙ committed_shape branches state seat node counts n e) in
          let same_branches = same ∙ ap branches (Some_inj content n.seen h) in
          record {
            all = placed (nodes_count state.shape) counts_made;
            grown = ap (λ s. alternatives_at s node) shape_is ∙ alternatives-grown state.shape node counts_made sound.is_shape (sound.held_stand seat node holds.holds) (sound.held_ungrown seat node holds.holds);
            within = omega (arith, within, length-map made.alternatives.items (branch_seen seen), ap length same_branches, length-counts_of (branches n.seen), length-placed (nodes_count state.shape) counts_made);
          }
