-- A tree with its root alone.
use Rattle.std.proofs.Common.{◌≡◌, ℕ, Bool, true, false, ◌==◌, ◌&&◌, ◌||◌, List, [], ◌∷◌, length, All, IsPermutation, refl, sym, ap, subst, ◌∙◌, arith, nat_eq, nat_lt}
use Rattle.std.proofs.lemmas.List.Elements.{All-cons, All-nil}
use Rattle.std.proofs.lemmas.List.Sorted.{list_any-IsPermutation, All-permutation, IsPermutation-map}
use Rattle.std.proofs.lemmas.Bool.{and_parts, eqb-true, ltb-true}
use Rattle.std.proofs.lemmas.Cmp.{nat_eq_equiv}
use Rattle.std.proofs.lemmas.Map.Keys.{IsDistinct-IsPermutation}
use Rattle.std.proofs.lemmas.Map.Made.{IsDistinct-from_count}
use Rattle.tree_runs.specs.Shapes.{root_shape, TreeShape}
use Rattle.tree_runs.specs.Marks.{is_relevant}
use Rattle.tree_runs.specs.States.{start, root_priority}
use Rattle.tree_runs.specs.Best.{is_open}
use Rattle.tree_marks.specs.TreeMarks.{Settled}
use Rattle.tree_queue.specs.declared.entry.Entry.{Entry}
use Rattle.tree_queue.specs.Orders.{IsPlaced}
use Rattle.tree_queue.specs.Queues.{IsQueueOf}
use Rattle.tree_queue.proofs.AddressLemmas.{address_of_root}
use Rattle.tree_steps.specs.declared.tree.Tree.{Tree}
use Rattle.tree_steps.specs.Trees.{has_node, nodes_of, IsEntryOf, FitsQueue, IsTree}
use Rattle.tree_steps.proofs.Regular.{regular_start}

-- the root's entry
abbrev pub root_entry : Entry
root_entry = record { node = 0; depth = 0; priority = root_priority }

pub root_placed : (shape : TreeShape) → shape ≡ root_shape → IsPlaced shape root_entry
root_placed shape e = rw e (record { stands = omega arith; depth = sym (ap length (address_of_root root_shape 0 refl)) })

fits_root : {S : Type 0} (root : S) (entries : List Entry) → IsPermutation (root_entry ∷ []) entries → FitsQueue (start root) entries
fits_root root entries put = record {
  are_open = λ node h. is_root node (0 == node) refl (moved node ∙ h);
  whole = λ node h.
      let opened = (and_parts (is_open (start root) node) (is_relevant root_shape node) h).0 in
      let stood = (and_parts (nat_lt node 1) true (and_parts (nat_lt node 1 && true) true opened).0).0 in
      let low = ltb-true node 1 stood in
      let zero_is : node ≡ 0 = omega (arith, low) in
      sym (moved node) ∙ rw zero_is refl;
  apart = IsDistinct-IsPermutation nat_eq nat_eq_equiv.symm (nodes_of (root_entry ∷ [])) (nodes_of entries) (IsPermutation-map (λ e. e.node) (root_entry ∷ []) entries put) (IsDistinct-from_count nat_eq_equiv (0 ∷ []) refl);
  described = All-permutation (IsEntryOf (start root)) (root_entry ∷ []) entries put (All-cons (IsEntryOf (start root)) root_entry [] (record { content = record { address = []; seen = root; priority = root_priority }; there = refl; priority = refl; depth = refl }) (All-nil (IsEntryOf (start root))));
}
  where
    moved : (node : ℕ) → (0 == node || false) ≡ has_node node entries
    moved node = list_any-IsPermutation (λ e. e.node == node) (root_entry ∷ []) entries put

    is_root : (node : ℕ) (v : Bool) → (0 == node) ≡ v → (0 == node || false) ≡ true → is_open (start root) node ≡ true
    is_root node true e h = let same : 0 ≡ node = eqb-true 0 node e in subst (λ n. is_open (start root) n ≡ true) same refl
    is_root node false e h = absurd (let no : (false || false) ≡ true = rw e at h in cc)

module _ {P S N : Type 0} (branches : S → List (ℕ × List S)) (seen : N → S) (own : N → Type 0) where
  pub tree_starts : (tree : Tree P N S) → tree.journal.events ≡ [] → tree.others.items ≡ [] → tree.held.items ≡ [] → tree.shape.shape ≡ root_shape → Settled root_shape tree.marks.marks → own tree.root →
      tree.commits ≡ 0 → IsPermutation (root_entry ∷ []) tree.queue.entries → IsQueueOf tree.shape.shape tree.queue.entries → IsTree branches seen own tree
  tree_starts tree journal others held shape marks owned commits put ordered = record {
    run = rw journal refl;
    shows = rw journal (record {
      regular = regular_start (seen tree.root) tree.budget;
      shape = shape;
      marks = marks;
      contents = rw others refl;
      own_nodes = subst (λ ns. All own (tree.root ∷ ns)) (sym others) (All-cons own tree.root [] owned (All-nil own));
      held = rw held refl;
      told = subst (All (λ holding. IsEntryOf (start (seen tree.root)) holding.entry)) (sym held) (All-nil (λ holding. IsEntryOf (start (seen tree.root)) holding.entry));
      commits = commits;
      ordered = subst (λ s. IsQueueOf s tree.queue.entries) shape ordered;
      fits = fits_root (seen tree.root) tree.queue.entries put;
      queue_room = rw held (omega arith);
      journal_room = rw held (omega arith);
    });
  }
