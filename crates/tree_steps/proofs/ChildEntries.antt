-- The children that branches give are those of the definitions.
use Rattle.std.proofs.Common.{◌≡◌, ℕ, zero, suc, ◌+◌, ◌*◌, ◌/◌, ◌<◌, ◌≤◌, List, [], ◌∷◌, ◌++◌, map, length, All, refl, sym, ap, subst, ◌∙◌, arith, length-append, append_assoc, append-nil, IsPermutation, sum, take, drop, slice_index_or}
use Rattle.std.proofs.lemmas.List.{map-append, length-map}
use Rattle.std.proofs.lemmas.List.Elements.{All-head, All-tail, All-append, All-nil, All-cons}
use Rattle.tree_runs.proofs.Shapes.{sum-cons}
use Rattle.std.proofs.lemmas.List.Sorted.{IsPermutation-push_more, IsPermutation-append_left, IsPermutation-trans}
use Rattle.tree_steps.proofs.Claims.{All-append-right}
use Rattle.tree_runs.specs.States.{TreeNode, children_nodes, branch_nodes, counts_of}
use Rattle.tree_queue.specs.declared.entry.Entry.{Entry}
use Rattle.tree_steps.specs.declared.branches.Branch.{Branch}
use Rattle.tree_steps.specs.Seen.{branch_seen}
use Rattle.tree_steps.specs.Trees.{entries_from}
use Rattle.tree_steps.specs.Children.{alike, children_of, nodes_made, widths}

entries_from-append : {S : Type 0} (number : ℕ) (xs ys : List (TreeNode S)) → entries_from number (xs ++ ys) ≡ entries_from number xs ++ entries_from (number + length xs) ys
entries_from-append number [] ys = let same : number + 0 ≡ number = omega arith in ap (λ n. entries_from n ys) (sym same)
entries_from-append number (x ∷ xs) ys =
    let same : suc number + length xs ≡ number + suc (length xs) = omega arith in
    ap (λ es. record { node = number; depth = length x.address; priority = x.priority } ∷ es) (entries_from-append (suc number) xs ys ∙ ap (λ n. entries_from (suc number) xs ++ entries_from n ys) same)

-- more of the same at the end
pub alike-more : (number depth priority count : ℕ) → alike number depth priority (suc count) ≡ alike number depth priority count ++ record { node = number + count; depth = depth; priority = priority } ∷ []
alike-more number depth priority zero = let same : number + 0 ≡ number = omega arith in ap (λ n. record { node = n; depth = depth; priority = priority } ∷ []) (sym same)
alike-more number depth priority (suc count) =
    let same : suc number + count ≡ number + suc count = omega arith in
    ap (λ es. record { node = number; depth = depth; priority = priority } ∷ es) (alike-more (suc number) depth priority count ∙
    ap (λ n. alike (suc number) depth priority count ++ record { node = n; depth = depth; priority = priority } ∷ []) same)

module _ {S N : Type 0} (seen : N → S) (content : TreeNode S) where
  length-children_nodes : (alternative percent place : ℕ) (xs : List S) → length (children_nodes content alternative percent place xs) ≡ length xs
  length-children_nodes alternative percent place [] = refl
  length-children_nodes alternative percent place (x ∷ xs) = ap suc (length-children_nodes alternative percent (suc place) xs)

  alike_entries : (number alternative percent place : ℕ) (xs : List N) →
      entries_from number (children_nodes content alternative percent place (map seen xs)) ≡ alike number (length content.address + 1) (content.priority * percent / 100) (length xs)
  alike_entries number alternative percent place [] = refl
  alike_entries number alternative percent place (x ∷ xs) =
      ap (λ d. record { node = number; depth = d; priority = content.priority * percent / 100 } ∷ entries_from (suc number) (children_nodes content alternative percent (suc place) (map seen xs))) (length-append content.address ((alternative, place) ∷ [])) ∙
      ap (λ es. record { node = number; depth = length content.address + 1; priority = content.priority * percent / 100 } ∷ es) (alike_entries (suc number) alternative percent (suc place) xs)

  pub child_entries : (number alternative : ℕ) (bs : List (Branch N)) →
      entries_from number (branch_nodes content alternative (map (branch_seen seen) bs)) ≡ children_of number (length content.address) content.priority bs
  child_entries number alternative [] = refl
  child_entries number alternative (b ∷ bs) =
      let first = children_nodes content alternative b.percent 0 (map seen b.nodes.items) in
      let long : length first ≡ length b.nodes.items = length-children_nodes alternative b.percent 0 (map seen b.nodes.items) ∙ length-map b.nodes.items seen in
      entries_from-append number first (branch_nodes content (suc alternative) (map (branch_seen seen) bs)) ∙
      (ap (λ es. es ++ entries_from (number + length first) (branch_nodes content (suc alternative) (map (branch_seen seen) bs))) (alike_entries number alternative b.percent 0 b.nodes.items) ∙
      ap (λ es. alike number (length content.address + 1) (content.priority * b.percent / 100) (length b.nodes.items) ++ es)
      (ap (λ n. entries_from (number + n) (branch_nodes content (suc alternative) (map (branch_seen seen) bs))) long ∙ child_entries (number + length b.nodes.items) (suc alternative) bs))

  seen_children : (alternative percent place : ℕ) (xs : List S) → map (λ n. n.seen) (children_nodes content alternative percent place xs) ≡ xs
  seen_children alternative percent place [] = refl
  seen_children alternative percent place (x ∷ xs) = ap (λ ys. x ∷ ys) (seen_children alternative percent (suc place) xs)

  pub made_seen : (alternative : ℕ) (bs : List (Branch N)) → map seen (nodes_made bs) ≡ map (λ n. n.seen) (branch_nodes content alternative (map (branch_seen seen) bs))
  made_seen alternative [] = refl
  made_seen alternative (b ∷ bs) =
      map-append seen b.nodes.items (nodes_made bs) ∙
      (ap (λ xs. map seen b.nodes.items ++ xs) (made_seen (suc alternative) bs) ∙
      (ap (λ xs. xs ++ map (λ n. n.seen) (branch_nodes content (suc alternative) (map (branch_seen seen) bs))) (sym (seen_children alternative b.percent 0 (map seen b.nodes.items))) ∙
      sym (map-append (λ n. n.seen) (children_nodes content alternative b.percent 0 (map seen b.nodes.items)) (branch_nodes content (suc alternative) (map (branch_seen seen) bs)))))

  pub counts_made : (bs : List (Branch N)) → counts_of (map (branch_seen seen) bs) ≡ widths bs
  counts_made [] = refl
  counts_made (b ∷ bs) = ap (λ n. n ∷ counts_of (map (branch_seen seen) bs)) (length-map b.nodes.items seen) ∙ ap (λ ns. length b.nodes.items ∷ ns) (counts_made bs)

pub made_own : {N : Type 0} (own : N → Type 0) (bs : List (Branch N)) → All (λ b. All own b.nodes.items) bs → All own (nodes_made bs)
made_own own [] all = All-nil own
made_own own (b ∷ bs) all = All-append own b.nodes.items (nodes_made bs) (All-head (λ c. All own c.nodes.items) b bs all) (made_own own bs (All-tail (λ c. All own c.nodes.items) b bs all))

All-append-left : {X : Type 0} (P : X → Type 0) (xs ys : List X) → All P (xs ++ ys) → All P xs
All-append-left P [] ys all = All-nil P
All-append-left P (x ∷ xs) ys all = All-cons P x xs (All-head P x (xs ++ ys) all) (All-append-left P xs ys (All-tail P x (xs ++ ys) all))

-- what holds of all holds of each
pub alike_at : (P : Entry → Type 0) (number depth priority count : ℕ) → All P (alike number depth priority count) → (k : ℕ) → k < count → P (record { node = number + k; depth = depth; priority = priority })
alike_at P number depth priority zero all k l = absurd (omega (arith, l))
alike_at P number depth priority (suc count) all zero l = let same : number + 0 ≡ number = omega arith in
    subst (λ n. P (record { node = n; depth = depth; priority = priority })) (sym same) (All-head P (record { node = number; depth = depth; priority = priority }) (alike (suc number) depth priority count) all)
alike_at P number depth priority (suc count) all (suc k) l = let same : suc number + k ≡ number + suc k = omega arith in
    subst (λ n. P (record { node = n; depth = depth; priority = priority })) same
    (alike_at P (suc number) depth priority count (All-tail P (record { node = number; depth = depth; priority = priority }) (alike (suc number) depth priority count) all) k (omega (arith, l)))

-- one more entry of the same kind is put
pub put_more : (number depth priority place : ℕ) (old now new : List Entry) → IsPermutation (old ++ alike number depth priority place) now →
    IsPermutation (record { node = number + place; depth = depth; priority = priority } ∷ now) new → IsPermutation (old ++ alike number depth priority (place + 1)) new
put_more number depth priority place old now new before put =
    let same : place + 1 ≡ suc place = omega arith in
    let x : Entry = record { node = number + place; depth = depth; priority = priority } in
    subst (λ es. IsPermutation es new)
    (append_assoc old (alike number depth priority place) (x ∷ []) ∙ (ap (λ es. old ++ es) (sym (alike-more number depth priority place)) ∙ ap (λ n. old ++ alike number depth priority n) (sym same)))
    (IsPermutation-push_more (old ++ alike number depth priority place) now new x before put)

module _ {N : Type 0} (depth priority : ℕ) where
  pub children_of-append : (number : ℕ) (xs ys : List (Branch N)) → children_of number depth priority (xs ++ ys) ≡ children_of number depth priority xs ++ children_of (number + sum (widths xs)) depth priority ys
  children_of-append number [] ys = let same : number + 0 ≡ number = omega arith in ap (λ n. children_of n depth priority ys) (sym same)
  children_of-append number (b ∷ bs) ys =
      let same : number + length b.nodes.items + sum (widths bs) ≡ number + sum (widths (b ∷ bs)) = omega (arith, sum-cons (length b.nodes.items) (widths bs)) in
      ap (λ es. alike number (depth + 1) (priority * b.percent / 100) (length b.nodes.items) ++ es) (children_of-append (number + length b.nodes.items) bs ys ∙ ap (λ n. children_of (number + length b.nodes.items) depth priority bs ++ children_of n depth priority ys) same) ∙
      sym (append_assoc (alike number (depth + 1) (priority * b.percent / 100) (length b.nodes.items)) (children_of (number + length b.nodes.items) depth priority bs) (children_of (number + sum (widths (b ∷ bs))) depth priority ys))

  -- the entries of one branch among those of all
  pub branch_placed : (P : Entry → Type 0) (number : ℕ) (before : List (Branch N)) (b : Branch N) (rest all : List (Branch N)) → all ≡ before ++ b ∷ rest → All P (children_of number depth priority all) →
      All P (alike (number + sum (widths before)) (depth + 1) (priority * b.percent / 100) (length b.nodes.items))
  branch_placed P number before b rest all e placed =
      let there = subst (All P) (ap (children_of number depth priority) e ∙ children_of-append number before (b ∷ rest)) placed in
      let right = All-append-right P (children_of number depth priority before) (children_of (number + sum (widths before)) depth priority (b ∷ rest)) there in
      All-append-left P (alike (number + sum (widths before)) (depth + 1) (priority * b.percent / 100) (length b.nodes.items)) (children_of (number + sum (widths before) + length b.nodes.items) depth priority rest) right

-- a list about one of its places
pub about : {X : Type 0} (xs : List X) (i : ℕ) (x : X) → i < length xs → x ≡ slice_index_or xs i x → xs ≡ take i xs ++ x ∷ drop (suc i) xs
about [] i x l e = absurd (omega (arith, l))
about (y ∷ xs) zero x l e = ap (λ z. z ∷ xs) (sym e)
about (y ∷ xs) (suc i) x l e = ap (λ zs. y ∷ zs) (about xs i x (omega (arith, l)) e)

pub taken_more : {X : Type 0} (xs : List X) (i : ℕ) (x : X) → i < length xs → x ≡ slice_index_or xs i x → take (i + 1) xs ≡ take i xs ++ x ∷ []
taken_more xs i x l e = let same : i + 1 ≡ suc i = omega arith in ap (λ n. take n xs) same ∙ at_suc xs i x l e
  where
    at_suc : {X : Type 0} (xs : List X) (i : ℕ) (x : X) → i < length xs → x ≡ slice_index_or xs i x → take (suc i) xs ≡ take i xs ++ x ∷ []
    at_suc [] i x l e = absurd (omega (arith, l))
    at_suc (y ∷ xs) zero x l e = ap (λ z. z ∷ []) (sym e)
    at_suc (y ∷ xs) (suc i) x l e = ap (λ zs. y ∷ zs) (at_suc xs i x (omega (arith, l)) e)

sum-append : (xs ys : List ℕ) → sum (xs ++ ys) ≡ sum xs + sum ys
sum-append [] ys = let none : sum [] ≡ 0 = refl in omega (arith, none)
sum-append (x ∷ xs) ys = sum-cons x (xs ++ ys) ∙ (ap (λ n. x + n) (sum-append xs ys) ∙ omega (arith, sum-cons x xs))

module _ {N : Type 0} where
  pub widths-append : (xs ys : List (Branch N)) → sum (widths (xs ++ ys)) ≡ sum (widths xs) + sum (widths ys)
  widths-append xs ys = ap sum (map-append (λ b. length b.nodes.items) xs ys) ∙ sum-append (widths xs) (widths ys)

  -- how many children there are about one branch
  pub widths_about : (xs : List (Branch N)) (i : ℕ) (b : Branch N) → i < length xs → b ≡ slice_index_or xs i b → sum (widths (take i xs)) + length b.nodes.items ≤ sum (widths xs)
  widths_about xs i b l e =
      let whole = ap (λ ys. sum (widths ys)) (about xs i b l e) ∙ widths-append (take i xs) (b ∷ drop (suc i) xs) in
      omega (arith, whole, sum-cons (length b.nodes.items) (widths (drop (suc i) xs)))

  pub widths_more : (xs : List (Branch N)) (i : ℕ) (b : Branch N) → i < length xs → b ≡ slice_index_or xs i b → sum (widths (take (i + 1) xs)) ≡ sum (widths (take i xs)) + length b.nodes.items
  widths_more xs i b l e =
      let whole = ap (λ ys. sum (widths ys)) (taken_more xs i b l e) ∙ widths-append (take i xs) (b ∷ []) in
      omega (arith, whole, sum-cons (length b.nodes.items) [])

  pub nodes_made-more : (xs : List (Branch N)) (b : Branch N) → nodes_made (xs ++ b ∷ []) ≡ nodes_made xs ++ b.nodes.items
  nodes_made-more [] b = append-nil b.nodes.items
  nodes_made-more (x ∷ xs) b = ap (λ ns. x.nodes.items ++ ns) (nodes_made-more xs b) ∙ sym (append_assoc x.nodes.items (nodes_made xs) b.nodes.items)

  -- the entries of one more branch are put
  pub branch_put : (depth priority number : ℕ) (xs : List (Branch N)) (i : ℕ) (b : Branch N) (old now new : List Entry) → i < length xs → b ≡ slice_index_or xs i b →
      IsPermutation (old ++ children_of number depth priority (take i xs)) now → IsPermutation (now ++ alike (number + sum (widths (take i xs))) (depth + 1) (priority * b.percent / 100) (length b.nodes.items)) new →
      IsPermutation (old ++ children_of number depth priority (take (i + 1) xs)) new
  branch_put depth priority number xs i b old now new l e before put =
      let more = alike (number + sum (widths (take i xs))) (depth + 1) (priority * b.percent / 100) (length b.nodes.items) in
      let same : children_of number depth priority (take (i + 1) xs) ≡ children_of number depth priority (take i xs) ++ more =
      ap (children_of number depth priority) (taken_more xs i b l e) ∙ (children_of-append depth priority number (take i xs) (b ∷ []) ∙ ap (λ es. children_of number depth priority (take i xs) ++ es) (append-nil more)) in
      subst (λ es. IsPermutation es new) (append_assoc old (children_of number depth priority (take i xs)) more ∙ ap (λ es. old ++ es) (sym same))
      (IsPermutation-trans _ _ _ (IsPermutation-append_left more _ _ before) put)
