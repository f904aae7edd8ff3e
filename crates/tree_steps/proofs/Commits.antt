-- The queue after a commit.
use Rattle.std.proofs.Common.{◌≡◌, ◌⊎◌, ℕ, suc, ◌+◌, ◌<◌, ◌≤◌, Bool, true, false, not, ◌==◌, ◌&&◌, ◌||◌, List, [], ◌∷◌, ◌++◌, length, Some, All, IsPermutation, refl, sym, ap, subst, ◌∙◌, arith, nat_eq, nat_lt, slice_get, slice_index_or, inl, inr, length-append, append_assoc}
use mathlib.Core.Logic.{⊎_elim}
use Rattle.std.specs.List.{IsDistinct, list_any, Contains}
use Rattle.std.proofs.lemmas.Bool.{and_parts, and_from, or_right, or_left, or_cases, or_from, eqb-true, eqb-false, lt-ltb, ltb-true, ltb-false}
use Rattle.std.proofs.lemmas.Cmp.{nat_eq_equiv}
use Rattle.std.proofs.lemmas.List.Elements.{All-cons, All-nil, All-append, All-contains_itself, recursion_from_All}
use Rattle.std.proofs.lemmas.List.Folds.{list_any-append, list_any_none}
use Rattle.std.proofs.lemmas.Option.{slice_get_within}
use Rattle.std.proofs.lemmas.List.Sorted.{list_any-IsPermutation, All-permutation, IsPermutation-map}
use Rattle.std.proofs.lemmas.Map.Keys.{IsDistinct-IsPermutation, IsDistinct-cons, IsDistinct-tail}
use Rattle.tree_runs.specs.Marks.{is_relevant}
use Rattle.tree_runs.specs.States.{TreeNode, TreeState, after_commit, branch_nodes, counts_of}
use Rattle.tree_runs.specs.Best.{is_open, is_eligible}
use Rattle.tree_runs.proofs.Marks.{relevant-grow}
use Rattle.tree_queue.specs.declared.entry.Entry.{Entry}
use Rattle.tree_steps.specs.Trees.{has_node, nodes_of, IsEntryOf, FitsQueue, IsRegular, entries_from}
use Rattle.tree_steps.proofs.BestEntries.{same_number}
use Rattle.std.proofs.lemmas.Map.Made.{IsDistinct-from_count}
use Rattle.tree_runs.proofs.Lists.{slice_get-append, slice_get-append_past}
use Rattle.tree_steps.proofs.Claims.{first_node_alone}
use Rattle.tree_steps.proofs.Releases.{unequal_nodes, others_held, alone, closed_held}

-- the entries from a number on are of the nodes from that on, as many as there are
pub from_number : {S : Type 0} (number node : ℕ) (nodes : List (TreeNode S)) → has_node node (entries_from number nodes) ≡ true → (number ≤ node) × (node < number + length nodes)
from_number number node [] h = cc
from_number number node (x ∷ nodes) h = go (number == node) refl (λ rest. from_number (suc number) node nodes rest)
  where
    go : (v : Bool) → (number == node) ≡ v → (has_node node (entries_from (suc number) nodes) ≡ true → (suc number ≤ node) × (node < suc number + length nodes)) → (number ≤ node) × (node < number + length (x ∷ nodes))
    go true e later = let same : number ≡ node = eqb-true _ _ e in (omega (arith, same), omega (arith, same))
    go false e later = let rest = later (rw e at h) in (omega (arith, rest.0), omega (arith, rest.1))

pub below_number : {S : Type 0} (number node : ℕ) (nodes : List (TreeNode S)) → node < number → has_node node (entries_from number nodes) ≡ false
below_number number node nodes l = go (has_node node (entries_from number nodes)) refl
  where
    go : (v : Bool) → has_node node (entries_from number nodes) ≡ v → has_node node (entries_from number nodes) ≡ false
    go true h = absurd (let within = from_number number node nodes h in omega (arith, within.0, l))
    go false h = h

above : (m n : ℕ) → m ≤ n → (m ≡ n → ⊥) → suc m ≤ n
above m n l ne = go (nat_lt m n) refl
  where
    go : (v : Bool) → nat_lt m n ≡ v → suc m ≤ n
    go true e = omega (arith, ltb-true _ _ e)
    go false e = absurd (ne (omega (arith, l, ltb-false _ _ e)))

pub at_number : {S : Type 0} (number node : ℕ) (nodes : List (TreeNode S)) → number ≤ node → node < number + length nodes → has_node node (entries_from number nodes) ≡ true
at_number number node [] a b = absurd (omega (arith, a, b))
at_number number node (x ∷ nodes) a b = go (number == node) refl (λ more less. at_number (suc number) node nodes more less)
  where
    go : (v : Bool) → (number == node) ≡ v → (suc number ≤ node → node < suc number + length nodes → has_node node (entries_from (suc number) nodes) ≡ true) → has_node node (entries_from number (x ∷ nodes)) ≡ true
    go true e later = or_left (number == node) _ e
    go false e later = or_right (number == node) _ (later (above number node a (eqb-false _ _ e)) (omega (arith, b)))

unequal : (m n : ℕ) → m < n → (m == n) ≡ false
unequal m n l = go (m == n) refl
  where
    go : (v : Bool) → (m == n) ≡ v → (m == n) ≡ false
    go true e = absurd (let same = eqb-true m n e in omega (arith, same, l))
    go false e = e

is_false : (b : Bool) → (b ≡ true → ⊥) → b ≡ false
is_false true n = absurd (n refl)
is_false false n = refl

or_nothing : (a b : Bool) → b ≡ false → (a || (b || false)) ≡ a
or_nothing a b h = grind arith

closed_by : (s c h : Bool) → c ≡ true → (s && not c && not h) ≡ false
closed_by s c h e = grind arith

-- they differ
pub entries_apart : {S : Type 0} (number : ℕ) (nodes : List (TreeNode S)) → IsDistinct nat_eq (nodes_of (entries_from number nodes))
entries_apart number [] = IsDistinct-from_count nat_eq_equiv [] refl
entries_apart number (x ∷ nodes) =
    IsDistinct-cons nat_eq number (nodes_of (entries_from (suc number) nodes))
    (recursion_from_All (λ y. nat_eq number y ≡ false) (nodes_of (entries_from (suc number) nodes)) (unequal_nodes number (entries_from (suc number) nodes) (below_number (suc number) number nodes (omega arith))))
    (entries_apart (suc number) nodes)

-- they tell of these nodes where those stand after some others
pub entries_tell : {S : Type 0} (state : TreeState S) (before nodes : List (TreeNode S)) → state.nodes ≡ before ++ nodes → All (IsEntryOf state) (entries_from (length before) nodes)
entries_tell state before [] e = All-nil (IsEntryOf state)
entries_tell {S = S} state before (x ∷ nodes) e =
    let here : slice_get state.nodes (length before) ≡ Some x = ap (λ ns. slice_get ns (length before)) e ∙ slice_get-append_past before (x ∷ nodes) 0 (length before) (omega arith) in
    let longer : length (before ++ x ∷ []) ≡ suc (length before) = omega (arith, length-append before (x ∷ [])) in
    let later = entries_tell state (before ++ x ∷ []) nodes (e ∙ sym (append_assoc before (x ∷ []) nodes)) in
    All-cons (IsEntryOf state) (record { node = length before; depth = length x.address; priority = x.priority }) (entries_from (suc (length before)) nodes)
    (record { content = x; there = here; priority = refl; depth = refl })
    (subst (λ n. All (IsEntryOf state) (entries_from n nodes)) longer later)

distinct_joined : (xs ys : List Entry) → IsDistinct nat_eq (nodes_of xs) → IsDistinct nat_eq (nodes_of ys) → ((node : ℕ) → has_node node xs ≡ true → has_node node ys ≡ false) → IsDistinct nat_eq (nodes_of (xs ++ ys))
distinct_joined [] ys d e n = e
distinct_joined (x ∷ xs) ys d e n =
    let alone_here = first_node_alone x xs d in
    let not_there = n x.node (or_left (x.node == x.node) (has_node x.node xs) (same_number x.node)) in
    let neither : has_node x.node (xs ++ ys) ≡ false = list_any-append (λ e. e.node == x.node) xs ys ∙ or_from (has_node x.node xs) (has_node x.node ys) alone_here not_there in
    IsDistinct-cons nat_eq x.node (nodes_of (xs ++ ys)) (recursion_from_All (λ y. nat_eq x.node y ≡ false) (nodes_of (xs ++ ys)) (unequal_nodes x.node (xs ++ ys) neither))
    (distinct_joined xs ys (IsDistinct-tail nat_eq x.node (nodes_of xs) d) e (λ node h. n node (or_right (x.node == node) (has_node node xs) h)))

module _ {S : Type 0} (branches : S → List (ℕ × List S)) (state : TreeState S) (budget : ℕ) (regular : IsRegular state budget) (seat node : ℕ) (holds : Contains state.held (seat, node)) (content : TreeNode S) (there : slice_get state.nodes node ≡ Some content) where
  -- what is committed after: the old nodes, and this one
  committed_other : (other : ℕ) → (node == other) ≡ false → list_any (λ o. o == other) (state.committed ++ node ∷ []) ≡ list_any (λ o. o == other) state.committed
  committed_other other n = list_any-append (λ o. o == other) state.committed (node ∷ []) ∙ or_nothing (list_any (λ o. o == other) state.committed) (node == other) n

  node_stands : node < length state.nodes
  node_stands = slice_get_within state.nodes node content there

  -- of the old nodes all others are open as before
  open_old : (other : ℕ) → (node == other) ≡ false → other < length state.nodes → is_open (after_commit branches state seat node (Some content)) other ≡ is_open state other
  open_old other n l =
      let kids = branch_nodes content 0 (branches content.seen) in
      let stays : nat_lt other (length (state.nodes ++ kids)) ≡ true = lt-ltb other (length (state.nodes ++ kids)) (omega (arith, l, length-append state.nodes kids)) in
      let stood : nat_lt other (length state.nodes) ≡ true = lt-ltb other (length state.nodes) l in
      rw (stays, stood, committed_other other n, others_held seat node other state.held (alone state budget regular seat node holds) n) refl

  -- the new nodes are open
  open_new : (other : ℕ) → length state.nodes ≤ other → other < length state.nodes + length (branch_nodes content 0 (branches content.seen)) → is_open (after_commit branches state seat node (Some content)) other ≡ true
  open_new other a b =
      let kids = branch_nodes content 0 (branches content.seen) in
      let stays : nat_lt other (length (state.nodes ++ kids)) ≡ true = lt-ltb other (length (state.nodes ++ kids)) (omega (arith, b, length-append state.nodes kids)) in
      let n : (node == other) ≡ false = unequal node other (omega (arith, node_stands, a)) in
      let c : list_any (λ o. o == other) state.committed ≡ false = is_false (list_any (λ o. o == other) state.committed) (λ h. let l = regular.committed_stands other h in absurd (omega (arith, l, a))) in
      let h : list_any (λ pair. pair.1 == other) state.held ≡ false = list_any_none (λ pair. pair.1 == other) state.held (λ k d l. unequal (slice_index_or state.held k d).1 other (let s = regular.held_stands (slice_index_or state.held k d).0 (slice_index_or state.held k d).1 (All-contains_itself state.held k d l) in omega (arith, s, a))) in
      rw (stays, committed_other other n, c, others_held seat node other state.held (alone state budget regular seat node holds) n, h) refl

  -- the committed node isn't
  closed_node : is_open (after_commit branches state seat node (Some content)) node ≡ false
  closed_node =
      let c : list_any (λ o. o == node) (state.committed ++ node ∷ []) ≡ true = list_any-append (λ o. o == node) state.committed (node ∷ []) ∙ or_right (list_any (λ o. o == node) state.committed) _ (or_left (node == node) false (same_number node)) in
      closed_by _ (list_any (λ o. o == node) (state.committed ++ node ∷ [])) _ c

  -- what is eligible after is new, or was eligible before
  eligible_now : (other : ℕ) → is_eligible (after_commit branches state seat node (Some content)) other ≡ true →
      ((length state.nodes ≤ other) × (other < length state.nodes + length (branch_nodes content 0 (branches content.seen)))) ⊎ (is_eligible state other ≡ true)
  eligible_now other h = go (nat_lt other (length state.nodes)) refl (node == other) refl
    where
      go : (v : Bool) → nat_lt other (length state.nodes) ≡ v → (w : Bool) → (node == other) ≡ w →
          ((length state.nodes ≤ other) × (other < length state.nodes + length (branch_nodes content 0 (branches content.seen)))) ⊎ (is_eligible state other ≡ true)
      go false e w f =
          let next = after_commit branches state seat node (Some content) in
          let kids = branch_nodes content 0 (branches content.seen) in
          let opened : is_open next other ≡ true = (and_parts (is_open next other) (is_relevant next.shape other) h).0 in
          let stood = (and_parts (nat_lt other (length (state.nodes ++ kids))) _ (and_parts (nat_lt other (length (state.nodes ++ kids)) && not (list_any (λ o. o == other) (state.committed ++ node ∷ []))) _ opened).0).0 in
          let less = ltb-true other (length (state.nodes ++ kids)) stood in
          inl (ltb-false other (length state.nodes) e, omega (arith, less, length-append state.nodes kids))
      go true e true f =
          let next = after_commit branches state seat node (Some content) in
          let opened : is_open next other ≡ true = (and_parts (is_open next other) (is_relevant next.shape other) h).0 in
          let same : node ≡ other = eqb-true node other f in
          let closed : is_open next other ≡ false = subst (λ n. is_open next n ≡ false) same closed_node in absurd (let both : true ≡ false = sym opened ∙ closed in cc)
      go true e false f =
          let next = after_commit branches state seat node (Some content) in
          let both = and_parts (is_open next other) (is_relevant next.shape other) h in
          let l = ltb-true other (length state.nodes) e in
          let relevant = relevant-grow state.shape node (counts_of (branches content.seen)) regular.is_shape (omega (arith, node_stands, regular.sizes)) (regular.ungrown node node_stands (regular.held_uncommitted seat node holds)) other (omega (arith, l, regular.sizes)) both.1 in
          inr (and_from (is_open state other) (is_relevant state.shape other) (sym (open_old other f l) ∙ both.0) relevant)

  -- the children's entries come to those that stay
  pub fits_committed : (entries new : List Entry) → FitsQueue state entries → IsPermutation (entries_from (length state.nodes) (branch_nodes content 0 (branches content.seen)) ++ entries) new →
      FitsQueue (after_commit branches state seat node (Some content)) new
  fits_committed entries new fits put = record {
    are_open = λ other h. open_now other (sym (moved other) ∙ h);
    whole = λ other h. ⊎_elim
        (λ fresh. moved other ∙ or_left (has_node other children) _ (at_number (length state.nodes) other kids fresh.0 fresh.1))
        (λ before. moved other ∙ or_right (has_node other children) (has_node other entries) (fits.whole other before))
        (eligible_now other h);
    apart = IsDistinct-IsPermutation nat_eq nat_eq_equiv.symm (nodes_of (children ++ entries)) (nodes_of new) (IsPermutation-map (λ e. e.node) (children ++ entries) new put)
        (distinct_joined children entries (entries_apart (length state.nodes) kids) fits.apart (λ other h. is_false (has_node other entries) (λ g. let fresh = from_number (length state.nodes) other kids h in let l = old other g in absurd (omega (arith, l, fresh.0)))));
    described = All-permutation (IsEntryOf next) (children ++ entries) new put (All-append (IsEntryOf next) children entries (entries_tell next state.nodes kids refl) (old_told entries fits.described));
  }
    where
      next : TreeState S
      next = after_commit branches state seat node (Some content)

      kids : List (TreeNode S)
      kids = branch_nodes content 0 (branches content.seen)

      children : List Entry
      children = entries_from (length state.nodes) kids

      moved : (other : ℕ) → has_node other new ≡ (has_node other children || has_node other entries)
      moved other = sym (list_any-IsPermutation (λ e. e.node == other) (children ++ entries) new put) ∙ list_any-append (λ e. e.node == other) children entries

      old : (other : ℕ) → has_node other entries ≡ true → other < length state.nodes
      old other h = ltb-true other (length state.nodes) (and_parts (nat_lt other (length state.nodes)) _ (and_parts (nat_lt other (length state.nodes) && not (list_any (λ o. o == other) state.committed)) _ (fits.are_open other h)).0).0

      open_now : (other : ℕ) → (has_node other children || has_node other entries) ≡ true → is_open next other ≡ true
      open_now other h = ⊎_elim
          (λ fresh. let within = from_number (length state.nodes) other kids fresh in open_new other within.0 within.1)
          (λ before. open_old other (is_false (node == other) (λ e. let same : node ≡ other = eqb-true node other e in let opened : is_open state node ≡ true = subst (λ n. is_open state n ≡ true) (sym same) (fits.are_open other before) in let closed = closed_held state budget regular seat node holds in absurd (let both : true ≡ false = sym opened ∙ closed in cc))) (old other before) ∙ fits.are_open other before)
          (or_cases (has_node other children) (has_node other entries) h)

      old_told : (es : List Entry) → All (IsEntryOf state) es → All (IsEntryOf next) es
      old_told es all k d l =
          let e = all k d l in
          record { content = e.content; there = slice_get-append state.nodes kids (slice_index_or es k d).node (slice_get_within state.nodes (slice_index_or es k d).node e.content e.there) ∙ e.there; priority = e.priority; depth = e.depth }
