-- The marks of nodes are those of their addresses.
use Rattle.std.proofs.Common.{◌≡◌, ◌↔◌, inl, inr, ℕ, zero, suc, ◌+◌, ◌<◌, Bool, true, false, cond, ◌||◌, List, [], ◌∷◌, ◌++◌, map, length, get_or, Option, Some, None, refl, sym, ap, subst, ◌∙◌, arith, eq-eqb}
use Rattle.std.specs.Option.{option_flatten}
use Rattle.std.specs.Prelude.{slice_get, ◌==◌}
use Rattle.std.specs.List.{list_any, list_all, Contains}
use Rattle.std.proofs.lemmas.Bool.{and_parts, and_from, eqb-true}
use Rattle.std.proofs.lemmas.Option.{slice_get_within, slice_get_cases}
use Rattle.tree_runs.specs.Shapes.{nodes_count, alternatives_at, placed, grow, IsChild}
use Rattle.tree_runs.specs.Marks.{all_from, any_from, all_children, some_child, proved_by, stuck_by, proved_within, stuck_within, is_proved, is_stuck}
use Rattle.tree_runs.specs.Addresses.{Address, address_of, at, Proved, by_alternative, Stuck, by_choice}
use Rattle.tree_runs.specs.States.{TreeEvent, claim, commit, release, TreeNode, TreeState, start, branch_nodes, counts_of, after_commit, after, state_of}
use Rattle.tree_runs.specs.Runs.{is_holding, are_counts, is_legal, is_run}
use Rattle.tree_runs.specs.Soundness.{is_committed, committed_addresses, IsSound}
use Rattle.tree_runs.proofs.Journals.{state_from-append, on_runs}
use Rattle.tree_runs.proofs.Lists.{below_or_past, same_or_other, slice_get-append}
use Rattle.tree_runs.proofs.Shapes.{alternatives-grown, alternatives-others}
use Rattle.tree_runs.proofs.Marks.{alternatives-past, is_proved-local, is_stuck-local}
use Rattle.tree_runs.proofs.Addresses.{address_of-step}
use Rattle.tree_runs.proofs.Best.{or_cases, or_left, or_right}
use Rattle.tree_runs.proofs.Order.{address_of-apart}
use Rattle.tree_runs.proofs.Soundness.{runs_are_sound}

-- ---- grown nodes have as many children as their branches say

placed_counts : (next : ℕ) (counts : List ℕ) → map (λ (entry : ℕ × ℕ). entry.1) (placed next counts) ≡ counts
placed_counts next [] = refl
placed_counts next (count ∷ counts) = ap (λ rest. count ∷ rest) (placed_counts (next + count) counts)

module _ {S : Type 0} (branches : S → List (ℕ × List S)) (root : S) (budget : ℕ) where
  abbrev pub ShowsBranches : TreeState S → Type 0
  ShowsBranches state = (node : ℕ) (content : TreeNode S) (all : List (ℕ × ℕ)) → slice_get state.nodes node ≡ Some content → alternatives_at state.shape node ≡ Some all →
      map (λ (entry : ℕ × ℕ). entry.1) all ≡ counts_of (branches content.seen)

  start_shows : ShowsBranches (start root)
  start_shows zero content all e f = absurd cc
  start_shows (suc node) content all e f = absurd cc

  commit_shows : (state : TreeState S) → IsSound branches root budget state → ShowsBranches state → (seat node : ℕ) → is_holding state seat node ≡ true → (content : TreeNode S) → slice_get state.nodes node ≡ Some content →
      ShowsBranches (after_commit branches state seat node (Some content))
  commit_shows state h shows seat node holding content there n other all e f =
      let stands = h.held_stand seat node holding in
      let ungrown = h.held_ungrown seat node holding in
      elim (same_or_other n node) [
        | inl same ↦
            let here : slice_get (state.nodes ++ branch_nodes content 0 (branches content.seen)) node ≡ Some content =
            slice_get-append state.nodes (branch_nodes content 0 (branches content.seen)) node (omega (arith, stands, h.nodes)) ∙ there in
            let twice : Some content ≡ Some other = sym here ∙ ap (slice_get (state.nodes ++ branch_nodes content 0 (branches content.seen))) (sym same) ∙ e in
            let content_is : content ≡ other = cc in
            let grown : ◌≡◌ {A = Option (List (ℕ × ℕ))} (Some (placed (nodes_count state.shape) (counts_of (branches content.seen)))) (Some all) =
            sym (alternatives-grown state.shape node (counts_of (branches content.seen)) h.is_shape stands ungrown) ∙ ap (alternatives_at (grow state.shape node (counts_of (branches content.seen)))) (sym same) ∙ f in
            let all_is : placed (nodes_count state.shape) (counts_of (branches content.seen)) ≡ all = cc in
            ap (map (λ (entry : ℕ × ℕ). entry.1)) (sym all_is) ∙ placed_counts (nodes_count state.shape) (counts_of (branches content.seen)) ∙ ap (λ c. counts_of (branches c.seen)) content_is
        | inr ne ↦
            let was = sym (alternatives-others state.shape node (counts_of (branches content.seen)) h.is_shape stands ungrown n ne) ∙ f in
            elim (below_or_past (length state.nodes) n) [
              | inl old ↦ shows n other all (sym (slice_get-append state.nodes (branch_nodes content 0 (branches content.seen)) n old) ∙ e) was
              | inr p ↦ absurd (let clash : ◌≡◌ {A = Option (List (ℕ × ℕ))} None (Some all) = sym (alternatives-past state.shape h.is_shape n (omega (arith, p.1, h.nodes))) ∙ was in cc)
            ]
      ]

  commit_known : (state : TreeState S) → IsSound branches root budget state → ShowsBranches state → (seat node : ℕ) (counts : List ℕ) → is_holding state seat node ≡ true → (o : Option (TreeNode S)) → slice_get state.nodes node ≡ o →
      are_counts branches o counts ≡ true → ShowsBranches (after_commit branches state seat node o)
  commit_known state h shows seat node counts holding None e f = absurd cc
  commit_known state h shows seat node counts holding (Some content) e f = commit_shows state h shows seat node holding content e

  after_shows : (state : TreeState S) (event : TreeEvent) → IsSound branches root budget state → ShowsBranches state → is_legal branches budget state event ≡ true → ShowsBranches (after branches state event)
  unfolding after is_legal
  after_shows state (claim seat node) h shows legal = shows
  after_shows state (commit seat node counts) h shows legal =
      let parts = and_parts (is_holding state seat node) (are_counts branches (slice_get state.nodes node) counts) legal in
      commit_known state h shows seat node counts parts.0 (slice_get state.nodes node) refl parts.1
  after_shows state (release seat node) h shows legal = shows

  pub runs_show_branches : (journal : List TreeEvent) → is_run branches budget root journal ≡ true → ShowsBranches (state_of branches root journal)
  runs_show_branches journal run = on_runs branches budget root (λ events. ShowsBranches (state_of branches root events))
      (λ events event run_before shows legal. subst ShowsBranches (sym (state_from-append branches (start root) events event))
      (after_shows (state_of branches root events) event (runs_are_sound branches root budget events run_before) shows legal))
      start_shows journal run

-- ---- entries and branches

record HasBranch {S : Type 0} (branches : List (ℕ × List S)) (i count : ℕ) : Type 0 where
  percent : ℕ
  children : List S
  there : slice_get branches i ≡ Some (percent, children)
  size : length children ≡ count

entry_branch : {S : Type 0} (all : List (ℕ × ℕ)) (branches : List (ℕ × List S)) → map (λ (entry : ℕ × ℕ). entry.1) all ≡ counts_of branches → (i : ℕ) (entry : ℕ × ℕ) → slice_get all i ≡ Some entry → HasBranch branches i entry.1
entry_branch [] branches e i entry f = absurd cc
entry_branch (x ∷ all) [] e i entry f = absurd cc
entry_branch (x ∷ all) (branch ∷ branches) e zero entry f =
    let same : x ≡ entry = cc in
    let size : x.1 ≡ length branch.1 = cc in
    record { percent = branch.0; children = branch.1; there = refl; size = sym size ∙ ap (λ (p : ℕ × ℕ). p.1) same }
entry_branch (x ∷ all) (branch ∷ branches) e (suc i) entry f =
    let rest : map (λ (p : ℕ × ℕ). p.1) all ≡ counts_of branches = cc in
    let found = entry_branch all branches rest i entry f in
    record { percent = found.percent; children = found.children; there = found.there; size = found.size }

record HasEntry (all : List (ℕ × ℕ)) (i count : ℕ) : Type 0 where
  first : ℕ
  there : slice_get all i ≡ Some (first, count)

branch_entry : {S : Type 0} (all : List (ℕ × ℕ)) (branches : List (ℕ × List S)) → map (λ (entry : ℕ × ℕ). entry.1) all ≡ counts_of branches → (i : ℕ) (branch : ℕ × List S) → slice_get branches i ≡ Some branch → HasEntry all i (length branch.1)
branch_entry [] [] e i branch f = absurd cc
branch_entry [] (x ∷ branches) e i branch f = absurd cc
branch_entry (entry ∷ all) [] e i branch f = absurd cc
branch_entry (entry ∷ all) (x ∷ branches) e zero branch f =
    let same : x ≡ branch = cc in
    let size : entry.1 ≡ length x.1 = cc in
    record { first = entry.0; there = ap (λ (n : ℕ). Some (entry.0, n)) (size ∙ ap (λ b. length b.1) same) }
branch_entry (entry ∷ all) (x ∷ branches) e (suc i) branch f =
    let rest : map (λ (p : ℕ × ℕ). p.1) all ≡ counts_of branches = cc in
    let found = branch_entry all branches rest i branch f in
    record { first = found.first; there = found.there }

-- ---- what passes somewhere, and what passes everywhere

record PassesAt {X : Type 0} (test : X → Bool) (xs : List X) : Type 0 where
  place : ℕ
  item : X
  there : slice_get xs place ≡ Some item
  passes : test item ≡ true

any_found : {X : Type 0} (test : X → Bool) (xs : List X) → list_any test xs ≡ true → PassesAt test xs
any_found test [] h = absurd cc
any_found test (x ∷ xs) h = elim (or_cases (test x) (list_any test xs) h) [
  | inl here ↦ record { place = 0; item = x; there = refl; passes = here }
  | inr rest ↦ let found = any_found test xs rest in record { place = suc found.place; item = found.item; there = found.there; passes = found.passes }
]

any_from_item : {X : Type 0} (test : X → Bool) (xs : List X) (i : ℕ) (x : X) → slice_get xs i ≡ Some x → test x ≡ true → list_any test xs ≡ true
any_from_item test [] i x e h = absurd cc
any_from_item test (y ∷ xs) zero x e h = let same : y ≡ x = cc in or_left (test y) (list_any test xs) (ap test same ∙ h)
any_from_item test (y ∷ xs) (suc i) x e h = or_right (test y) (list_any test xs) (any_from_item test xs i x e h)

each_passes : {X : Type 0} (test : X → Bool) (xs : List X) → list_all test xs ≡ true → (i : ℕ) (x : X) → slice_get xs i ≡ Some x → test x ≡ true
each_passes test [] h i x e = absurd cc
each_passes test (y ∷ xs) h zero x e = let same : y ≡ x = cc in ap test (sym same) ∙ (and_parts (test y) (list_all test xs) h).0
each_passes test (y ∷ xs) h (suc i) x e = each_passes test xs (and_parts (test y) (list_all test xs) h).1 i x e

all_pass : {X : Type 0} (test : X → Bool) (xs : List X) → ((i : ℕ) (x : X) → slice_get xs i ≡ Some x → test x ≡ true) → list_all test xs ≡ true
all_pass test [] h = refl
all_pass test (y ∷ xs) h = and_from (test y) (list_all test xs) (h 0 y refl) (all_pass test xs (λ i x e. h (suc i) x e))

child_passes : (test : ℕ → Bool) (first count : ℕ) → all_from test first count ≡ true → (place : ℕ) → place < count → test (first + place) ≡ true
child_passes test first zero h place within = absurd (omega arith)
child_passes test first (suc count) h zero within = ap test (let z : first + 0 ≡ first = omega arith in z) ∙ (and_parts (test first) (all_from test (suc first) count) h).0
child_passes test first (suc count) h (suc place) within =
    ap test (let z : first + suc place ≡ suc first + place = omega arith in z) ∙ child_passes test (suc first) count (and_parts (test first) (all_from test (suc first) count) h).1 place (omega arith)

children_pass : (test : ℕ → Bool) (first count : ℕ) → ((place : ℕ) → place < count → test (first + place) ≡ true) → all_from test first count ≡ true
children_pass test first zero h = refl
children_pass test first (suc count) h = and_from (test first) (all_from test (suc first) count)
    (ap test (let z : first ≡ first + 0 = omega arith in z) ∙ h 0 (omega arith))
    (children_pass test (suc first) count (λ place within. ap test (let z : suc first + place ≡ first + suc place = omega arith in z) ∙ h (suc place) (omega arith)))

-- the place of the first number that passes
abbrev first_passing : (ℕ → Bool) → ℕ → ℕ → ℕ
first_passing test first zero = 0
first_passing test first (suc count) = cond (test first) 0 (suc (first_passing test (suc first) count))

passing_at : (test : ℕ → Bool) (first count : ℕ) → (any_from test (suc first) count ≡ true → (first_passing test (suc first) count < count) × (test (suc first + first_passing test (suc first) count) ≡ true)) →
    (b : Bool) → test first ≡ b → (b || any_from test (suc first) count) ≡ true →
    (cond b 0 (suc (first_passing test (suc first) count)) < suc count) × (test (first + cond b 0 (suc (first_passing test (suc first) count))) ≡ true)
passing_at test first count more true e f = (omega arith, ap test (let z : first + 0 ≡ first = omega arith in z) ∙ e)
passing_at test first count more false e f =
    let found = more f in
    ((let low = found.0 in omega (arith, low)), ap test (let z : first + suc (first_passing test (suc first) count) ≡ suc first + first_passing test (suc first) count = omega arith in z) ∙ found.1)

passing_place : (test : ℕ → Bool) (first count : ℕ) → any_from test first count ≡ true → (first_passing test first count < count) × (test (first + first_passing test first count) ≡ true)
passing_place test first zero h = absurd cc
passing_place test first (suc count) h = passing_at test first count (passing_place test (suc first) count) (test first) refl h

some_passes : (test : ℕ → Bool) (first count place : ℕ) → place < count → test (first + place) ≡ true → any_from test first count ≡ true
some_passes test first zero place within e = absurd (omega arith)
some_passes test first (suc count) zero within e = or_left (test first) (any_from test (suc first) count) (ap test (let z : first ≡ first + 0 = omega arith in z) ∙ e)
some_passes test first (suc count) (suc place) within e =
    or_right (test first) (any_from test (suc first) count) (some_passes test (suc first) count place (omega arith) (ap test (let z : suc first + place ≡ first + suc place = omega arith in z) ∙ e))

-- ---- committed addresses

committed_there : (f : ℕ → Address) (committed : List ℕ) (n : ℕ) → list_any (λ other. other == n) committed ≡ true → Contains (map f committed) (f n)
committed_there f [] n h = absurd cc
committed_there f (m ∷ committed) n h = elim (or_cases (m == n) (list_any (λ other. other == n) committed) h) [
  | inl here ↦ (0, omega arith, ap f (eqb-true m n here))
  | inr rest ↦ let found = committed_there f committed n rest in (suc found.0, (let b = found.1 in omega (arith, b)), found.2)
]

record IsImage (f : ℕ → Address) (committed : List ℕ) (a : Address) : Type 0 where
  node : ℕ
  committed_is : list_any (λ other. other == node) committed ≡ true
  image : f node ≡ a

is_image : (f : ℕ → Address) (committed : List ℕ) (a : Address) (k : ℕ) → k < length (map f committed) → get_or (map f committed) k a ≡ a → IsImage f committed a
is_image f [] a k low e = absurd (omega arith)
is_image f (m ∷ committed) a zero low e = record { node = m; committed_is = or_left (m == m) (list_any (λ other. other == m) committed) (eq-eqb m m refl); image = e }
is_image f (m ∷ committed) a (suc k) low e =
    let found = is_image f committed a k (omega arith) e in
    record { node = found.node; committed_is = or_right (m == found.node) (list_any (λ other. other == found.node) committed) found.committed_is; image = found.image }

-- ---- the two agree

module _ {S : Type 0} (branches : S → List (ℕ × List S)) (root : S) (budget : ℕ) (state : TreeState S) (sound : IsSound branches root budget state) (shows : ShowsBranches branches root budget state) where
  -- what stands at a grown node
  record IsGrown (node : ℕ) : Type 0 where
    all : List (ℕ × ℕ)
    grown : alternatives_at state.shape node ≡ Some all
    content : TreeNode S
    there : slice_get state.nodes node ≡ Some content
    has : at branches root (address_of state.shape node) ≡ Some content.seen
    counts : map (λ (entry : ℕ × ℕ). entry.1) all ≡ counts_of (branches content.seen)
    committed : is_committed state node ≡ true
    stands : node < nodes_count state.shape

  stands_known : (node : ℕ) (all : List (ℕ × ℕ)) → alternatives_at state.shape node ≡ Some all → node < nodes_count state.shape
  stands_known node all e = elim (below_or_past (nodes_count state.shape) node) [
    | inl low ↦ low
    | inr p ↦ absurd (let clash : ◌≡◌ {A = Option (List (ℕ × ℕ))} None (Some all) = sym (alternatives-past state.shape sound.is_shape node (omega (arith, p.1))) ∙ e in cc)
  ]

  is_grown : (node : ℕ) (all : List (ℕ × ℕ)) → alternatives_at state.shape node ≡ Some all → IsGrown node
  is_grown node all e =
      let stands = stands_known node all e in
      elim (slice_get_cases state.nodes node).1 [
        | inr past ↦ absurd (let p = past.0 in omega (arith, p, stands, sound.nodes))
        | inl here ↦ record {
          all = all;
          grown = e;
          content = here.0;
          there = here.2;
          has = ap (at branches root) (sym (sound.addresses node here.0 here.2)) ∙ sound.unfolding_has node here.0 here.2;
          counts = shows node here.0 all here.2 e;
          committed = sound.grown_committed node all e;
          stands = stands;
        }
      ]

  grown_known : (node : ℕ) → is_committed state node ≡ true → (o : Option (List (ℕ × ℕ))) → alternatives_at state.shape node ≡ o → IsGrown node
  grown_known node e None f = absurd (sound.committed_grown node e f)
  grown_known node e (Some all) f = is_grown node all f

  child_address : (node i place child : ℕ) → IsChild state.shape node i place child → address_of state.shape child ≡ address_of state.shape node ++ (i, place) ∷ []
  child_address node i place child c = address_of-step state.shape sound.is_shape child (node, i, place) (ap option_flatten (sound.is_shape.up node i place child c))

  contained : (node : ℕ) → is_committed state node ≡ true → Contains (committed_addresses state) (address_of state.shape node)
  contained node e = committed_there (address_of state.shape) state.committed node e

  abbrev IsProvedAt : ℕ → Type 0
  IsProvedAt node = Proved branches root (committed_addresses state) (address_of state.shape node)

  abbrev IsStuckAt : ℕ → Type 0
  IsStuckAt node = Stuck branches root (committed_addresses state) (address_of state.shape node)

  proved_at : (depth node : ℕ) → ((child : ℕ) → proved_within state.shape depth child ≡ true → IsProvedAt child) → (o : Option (List (ℕ × ℕ))) → alternatives_at state.shape node ≡ o →
      proved_by (proved_within state.shape depth) o ≡ true → IsProvedAt node
  proved_at depth node more None e f = absurd cc
  proved_at depth node more (Some all) e f =
      let g = is_grown node all e in
      let same : ◌≡◌ {A = Option (List (ℕ × ℕ))} (Some all) (Some g.all) = sym e ∙ g.grown in
      let all_is : g.all ≡ all = cc in
      let found = any_found (all_children (proved_within state.shape depth)) all f in
      let branch = entry_branch all (branches g.content.seen) (ap (map (λ (entry : ℕ × ℕ). entry.1)) (sym all_is) ∙ g.counts) found.place found.item found.there in
      by_alternative (address_of state.shape node) g.content.seen found.place branch.percent branch.children (contained node g.committed) g.has branch.there
      (λ place child within is.
      let low : place < found.item.1 = omega (arith, within, branch.size) in
      let number : ℕ = found.item.0 + place in
      let c : IsChild state.shape node found.place place number = record { all = all; first = found.item.0; count = found.item.1; grown = e; there = found.there; within = low; number = refl } in
      subst (Proved branches root (committed_addresses state)) (child_address node found.place place number c ∙ sym is)
      (more number (child_passes (proved_within state.shape depth) found.item.0 found.item.1 found.passes place low)))

  proved_from : (depth node : ℕ) → proved_within state.shape depth node ≡ true → IsProvedAt node
  proved_from zero node h = absurd cc
  proved_from (suc depth) node h = proved_at depth node (proved_from depth) (alternatives_at state.shape node) refl h

  abbrev place_in : (ℕ → Bool) → Option (ℕ × ℕ) → ℕ
  place_in test None = 0
  place_in test (Some entry) = first_passing test entry.0 entry.1

  stuck_at : (depth node : ℕ) → ((child : ℕ) → stuck_within state.shape depth child ≡ true → IsStuckAt child) → (o : Option (List (ℕ × ℕ))) → alternatives_at state.shape node ≡ o →
      stuck_by (stuck_within state.shape depth) o ≡ true → IsStuckAt node
  stuck_at depth node more None e f = absurd cc
  stuck_at depth node more (Some all) e f =
      let g = is_grown node all e in
      let same : ◌≡◌ {A = Option (List (ℕ × ℕ))} (Some all) (Some g.all) = sym e ∙ g.grown in
      let all_is : g.all ≡ all = cc in
      let counts : map (λ (entry : ℕ × ℕ). entry.1) all ≡ counts_of (branches g.content.seen) = ap (map (λ (entry : ℕ × ℕ). entry.1)) (sym all_is) ∙ g.counts in
      let test = stuck_within state.shape depth in
      let choice : ℕ → ℕ = λ i. place_in test (slice_get all i) in
      by_choice (address_of state.shape node) g.content.seen choice (contained node g.committed) g.has
      (λ i percent children b.
      let entry = branch_entry all (branches g.content.seen) counts i (percent, children) b in
      let passing = passing_place test entry.first (length children) (each_passes (some_child test) all f i (entry.first, length children) entry.there) in
      subst (λ o. place_in test o < length children) (sym entry.there) passing.0)
      (λ i child low is.
      let size : length all ≡ length (branches g.content.seen) = sizes_agree all (branches g.content.seen) counts in
      stuck_child i child is (omega (arith, low, size)))
    where
      sizes_agree : (xs : List (ℕ × ℕ)) (bs : List (ℕ × List S)) → map (λ (entry : ℕ × ℕ). entry.1) xs ≡ counts_of bs → length xs ≡ length bs
      sizes_agree [] [] q = refl
      sizes_agree [] (b ∷ bs) q = absurd cc
      sizes_agree (x ∷ xs) [] q = absurd cc
      sizes_agree (x ∷ xs) (b ∷ bs) q = let rest : map (λ (entry : ℕ × ℕ). entry.1) xs ≡ counts_of bs = cc in let r = sizes_agree xs bs rest in omega (arith, r)

      stuck_child : (i : ℕ) (child : Address) → child ≡ address_of state.shape node ++ (i, place_in (stuck_within state.shape depth) (slice_get all i)) ∷ [] → i < length all → Stuck branches root (committed_addresses state) child
      stuck_child i child is low = elim (slice_get_cases all i).1 [
        | inr past ↦ absurd (let p = past.0 in omega (arith, p, low))
        | inl here ↦
            let entry = here.0 in
            let passing = passing_place (stuck_within state.shape depth) entry.0 entry.1 (each_passes (some_child (stuck_within state.shape depth)) all f i entry here.2) in
            let number : ℕ = entry.0 + first_passing (stuck_within state.shape depth) entry.0 entry.1 in
            let c : IsChild state.shape node i (first_passing (stuck_within state.shape depth) entry.0 entry.1) number = record { all = all; first = entry.0; count = entry.1; grown = e; there = here.2; within = passing.0; number = refl } in
            subst (Stuck branches root (committed_addresses state))
            (child_address node i (first_passing (stuck_within state.shape depth) entry.0 entry.1) number c
            ∙ ap (λ o. address_of state.shape node ++ (i, place_in (stuck_within state.shape depth) o) ∷ []) (sym here.2) ∙ sym is)
            (more number passing.1)
      ]

  stuck_from : (depth node : ℕ) → stuck_within state.shape depth node ≡ true → IsStuckAt node
  stuck_from zero node h = absurd cc
  stuck_from (suc depth) node h = stuck_at depth node (stuck_from depth) (alternatives_at state.shape node) refl h

  -- the node of an address among the committed ones
  found_grown : (address : Address) (node : ℕ) → node < nodes_count state.shape → address_of state.shape node ≡ address → Contains (committed_addresses state) address → IsGrown node
  found_grown address node stands same contains =
      let image = is_image (address_of state.shape) state.committed address contains.0 contains.1 contains.2 in
      let other = grown_known image.node image.committed_is (alternatives_at state.shape image.node) refl in
      let is : image.node ≡ node = address_of-apart state.shape sound.is_shape image.node node other.stands stands (image.image ∙ sym same) in
      subst IsGrown is other

  seen_is : (address : Address) (node : ℕ) (g : IsGrown node) (seen : S) → address_of state.shape node ≡ address → at branches root address ≡ Some seen → g.content.seen ≡ seen
  seen_is address node g seen same has = let twice : Some g.content.seen ≡ Some seen = sym g.has ∙ ap (at branches root) same ∙ has in cc

  proved_back : (address : Address) → Proved branches root (committed_addresses state) address → (node : ℕ) → node < nodes_count state.shape → address_of state.shape node ≡ address → is_proved state.shape node ≡ true
  proved_back _ (by_alternative address seen i percent children contains has branch below) node stands same =
      let g = found_grown address node stands same contains in
      let is = seen_is address node g seen same has in
      let entry = branch_entry g.all (branches g.content.seen) g.counts i (percent, children) (ap (λ s. slice_get (branches s) i) is ∙ branch) in
      let each : (place : ℕ) → place < length children → is_proved state.shape (entry.first + place) ≡ true = λ place within.
      let number : ℕ = entry.first + place in
      let c : IsChild state.shape node i place number = record { all = g.all; first = entry.first; count = length children; grown = g.grown; there = entry.there; within = within; number = refl } in
      let where_is = child_address node i place number c ∙ ap (λ a. a ++ (i, place) ∷ []) same in
      proved_back (address_of state.shape number) (below place (address_of state.shape number) within where_is) number (slice_get_within state.shape.above number _ (sound.is_shape.up node i place number c)) refl in
      is_proved-local state.shape sound.is_shape node ∙ ap (proved_by (is_proved state.shape)) g.grown
      ∙ any_from_item (all_children (is_proved state.shape)) g.all i (entry.first, length children) entry.there (children_pass (is_proved state.shape) entry.first (length children) each)

  stuck_back : (address : Address) → Stuck branches root (committed_addresses state) address → (node : ℕ) → node < nodes_count state.shape → address_of state.shape node ≡ address → is_stuck state.shape node ≡ true
  stuck_back _ (by_choice address seen choice contains has within below) node stands same =
      let g = found_grown address node stands same contains in
      let is = seen_is address node g seen same has in
      let each : (i : ℕ) (entry : ℕ × ℕ) → slice_get g.all i ≡ Some entry → some_child (is_stuck state.shape) entry ≡ true = λ i entry there.
      let branch = entry_branch g.all (branches g.content.seen) g.counts i entry there in
      let at_branch : slice_get (branches seen) i ≡ Some (branch.percent, branch.children) = ap (λ s. slice_get (branches s) i) (sym is) ∙ branch.there in
      let low : choice i < entry.1 = (let c = within i branch.percent branch.children at_branch in let z = branch.size in omega (arith, c, z)) in
      let number : ℕ = entry.0 + choice i in
      let c : IsChild state.shape node i (choice i) number = record { all = g.all; first = entry.0; count = entry.1; grown = g.grown; there = there; within = low; number = refl } in
      let where_is = child_address node i (choice i) number c ∙ ap (λ a. a ++ (i, choice i) ∷ []) same in
      some_passes (is_stuck state.shape) entry.0 entry.1 (choice i) low
      (stuck_back (address_of state.shape number) (below i (address_of state.shape number) (slice_get_within (branches seen) i _ at_branch) where_is) number
      (slice_get_within state.shape.above number _ (sound.is_shape.up node i (choice i) number c)) refl) in
      is_stuck-local state.shape sound.is_shape node ∙ ap (stuck_by (is_stuck state.shape)) g.grown ∙ all_pass (some_child (is_stuck state.shape)) g.all each

  pub marks_agree : (node : ℕ) → node < nodes_count state.shape → ((is_proved state.shape node ≡ true) ↔ IsProvedAt node) × ((is_stuck state.shape node ≡ true) ↔ IsStuckAt node)
  unfolding is_proved is_stuck
  marks_agree node stands = (
    (proved_from (nodes_count state.shape) node, λ h. proved_back (address_of state.shape node) h node stands refl),
    (stuck_from (nodes_count state.shape) node, λ h. stuck_back (address_of state.shape node) h node stands refl),
  )

pub runs_agree : {S : Type 0} (branches : S → List (ℕ × List S)) (budget : ℕ) (root : S) (journal : List TreeEvent) → is_run branches budget root journal ≡ true → (node : ℕ) → node < nodes_count (state_of branches root journal).shape →
    ((is_proved (state_of branches root journal).shape node ≡ true) ↔ Proved branches root (committed_addresses (state_of branches root journal)) (address_of (state_of branches root journal).shape node))
    × ((is_stuck (state_of branches root journal).shape node ≡ true) ↔ Stuck branches root (committed_addresses (state_of branches root journal)) (address_of (state_of branches root journal).shape node))
runs_agree branches budget root journal run node stands =
    marks_agree branches root budget (state_of branches root journal) (runs_are_sound branches root budget journal run) (runs_show_branches branches root budget journal run) node stands
